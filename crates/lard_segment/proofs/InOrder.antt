-- What bytes give where no fault applies.
use Rattle.std.proofs.Common.{◌≡◌, ℕ, ◌-◌, List, length, true, false, Option, Some, Result, Ok, refl, sym, slice_index, take, drop, nat_eq, nat_lt}
use Rattle.lard_segment.specs.declared.segment.Dir.{Dir}
use Rattle.lard_segment.specs.declared.fault.SegFault.{SegFault}
use Rattle.lard_segment.specs.Fields.{word_at, double_word_at, flags_of}
use Rattle.lard_segment.specs.Checksum.{checksum_of}
use Rattle.lard_segment.specs.Options.{mss_in}
use Rattle.lard_segment.specs.Segment.{Said, decoded, are_ports, begins_at, with_mss}

-- the options decide, once the first four faults don't apply
pub in_order : (bytes : List ℕ) (c : ℕ) (dir : Dir) (begins : ℕ) (given : Result (Option ℕ) SegFault) → nat_lt (length bytes) 20 ≡ false → nat_eq (word_at bytes 16) (checksum_of c dir bytes) ≡ true
    → are_ports bytes dir ≡ true → begins_at bytes ≡ Some begins → mss_in (take (begins - 20) (drop 20 bytes)) ≡ given → decoded bytes c dir ≡ with_mss bytes begins given
unfolding decoded
in_order bytes c dir begins given l a p b o = rw (l, a, p, b, o) refl

-- each part at its place
pub at_places : (bytes : List ℕ) (begins : ℕ) (s : Said) → s.seq ≡ double_word_at bytes 4 → s.ack ≡ double_word_at bytes 8 → s.flags ≡ flags_of (slice_index bytes 13) → s.wnd ≡ word_at bytes 14
    → s.payload ≡ drop begins bytes → with_mss bytes begins (Ok s.mss) ≡ Ok s
at_places bytes begins s q a f w p = sym (λ i. Ok (record { seq = q i; ack = a i; flags = f i; wnd = w i; mss = s.mss; payload = p i }))
