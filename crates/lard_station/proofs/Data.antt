-- Where a segment's data stands in the bytes that it was read from.
use Rattle.std.proofs.Common.{◌≡◌, ℕ, ◌-◌, List, length, drop, Ok, arith, sym, ap, ◌∙◌, length-drop}
use Rattle.lard_segment.proofs.Decoded.{decoded-read}
use Rattle.lard_segment.specs.Segment.{Said, decoded}
use Rattle.lard_segment.specs.declared.segment.Dir.{Dir}

-- it is all that they end with
pub data_stands_last : (bytes : List ℕ) (c : ℕ) (dir : Dir) (s : Said) → decoded bytes c dir ≡ Ok s → drop (length bytes - length s.payload) bytes ≡ s.payload
data_stands_last bytes c dir s h =
    let r = decoded-read bytes c dir s h in
    let n : length s.payload ≡ length bytes - r.begins = ap length r.rest ∙ length-drop r.begins bytes in
    let from : length bytes - length s.payload ≡ r.begins = omega (arith, n, r.within) in
    ap (λ (k : ℕ). drop k bytes) from ∙ sym r.rest
