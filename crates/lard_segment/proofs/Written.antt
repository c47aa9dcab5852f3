-- A spelling that is written part by part, and its length.
use Rattle.std.proofs.Common.{◌≡◌, ℕ, ◌≤◌, ◌+◌, List, [], ◌++◌, length, take, drop, sym, ap, ◌∙◌, append_assoc, arith, length-append, length-drop, append-nil, ◌-◌, Option, None, Some}
use Rattle.std.specs.Int.{w16, to_be_bytes}
use Rattle.std.proofs.lemmas.List.{take_at, take_rest, drop_at, drop_all, drop-drop, length-take-le}
use Rattle.std.proofs.lemmas.Slice.{drop-append-drop}
use Rattle.lard_segment.specs.declared.segment.Dir.{Dir}
use Rattle.lard_segment.specs.Checksum.{checksum_of}
use Rattle.lard_segment.specs.Options.{option_bytes}
use Rattle.lard_segment.specs.Segment.{Said, spelled, fixed_bytes, with_checksum}

-- how long a segment with some checksum is
length-with_checksum : (dir : Dir) (s : Said) (checksum : ℕ) → length (with_checksum dir s checksum) ≡ 20 + length (option_bytes s.mss) + length s.payload
length-with_checksum dir s checksum = omega (arith, length-append (option_bytes s.mss) s.payload)

-- the options take 4 bytes at most
pub length-option_bytes : (mss : Option ℕ) → length (option_bytes mss) ≤ 4
length-option_bytes None = omega arith
length-option_bytes (Some m) = omega arith

-- a spelling has 20 bytes, the options and the data
pub length-spelled : (c : ℕ) (dir : Dir) (s : Said) → length (spelled c dir s) ≡ 20 + length (option_bytes s.mss) + length s.payload
unfolding spelled
length-spelled c dir s = length-with_checksum dir s (checksum_of c dir (with_checksum dir s 0))

-- so it has at most 1,484 with the data that may be sent
pub length-spelled-most : (c : ℕ) (dir : Dir) (s : Said) → length s.payload ≤ 1460 → length (spelled c dir s) ≤ 1484
length-spelled-most c dir s small = omega (arith, length-spelled c dir s, length-option_bytes s.mss, small)

-- the options and then the data, in the room behind a fixed part that stays
pub behind : (options payload old first second : List ℕ) (len : ℕ) → len ≡ length options → first ≡ options ++ drop len (take (length old - 20) (drop 20 old)) → second ≡ take len first ++ payload ++ drop (len + length payload) first
    → take 20 old ++ (second ++ drop (length old - 20) (drop 20 old)) ≡ take 20 old ++ (options ++ payload) ++ drop (20 + len + length payload) old
behind options payload old first second len l e e2 =
    let room : List ℕ = drop 20 old in
    let end : ℕ = len + length payload in
    let e1 : first ≡ options ++ drop len room = e ∙ ap (λ xs. options ++ drop len xs) (take_rest old 20) in
    let front : take len first ≡ options = ap (take len) e1 ∙ take_at options (drop len room) len (sym l) in
    let kept : drop end first ≡ drop (20 + len + length payload) old = ap (drop end) e1 ∙ drop-append-drop len room options end (omega arith) (sym l) ∙ drop-drop end 20 old ∙ ap (λ n. drop n old) (omega arith) in
    let none : drop (length old - 20) room ≡ [] = drop_all (length old - 20) room (omega (arith, length-drop 20 old)) in
    let whole : second ≡ (options ++ payload) ++ drop (20 + len + length payload) old = e2 ∙ ap (λ xs. xs ++ payload ++ drop end first) front ∙ ap (λ xs. options ++ payload ++ xs) kept in
    ap (λ xs. take 20 old ++ (second ++ xs)) none ∙ ap (λ xs. take 20 old ++ xs) (append-nil second ∙ whole) ∙ sym (append_assoc (take 20 old) (options ++ payload) (drop (20 + len + length payload) old))

-- the rest, then the fixed part, then the checksum
pub written : (c : ℕ) (dir : Dir) (s : Said) (old rest fixed new : List ℕ) (len begins checksum : ℕ) → 20 ≤ length old → len ≡ 20 + length (option_bytes s.mss) + length s.payload → begins ≡ 20 + length (option_bytes s.mss)
    → rest ≡ take 20 old ++ (option_bytes s.mss ++ s.payload) ++ drop len old → fixed ≡ fixed_bytes dir s begins 0 ++ drop 20 rest → checksum ≡ checksum_of c dir (take len fixed)
    → new ≡ take 16 fixed ++ to_be_bytes w16 checksum ++ drop 18 fixed → new ≡ spelled c dir s ++ drop len old
unfolding spelled
written c dir s old rest fixed new len begins checksum room l b e1 e2 k e3 =
    let behind : List ℕ = option_bytes s.mss ++ s.payload in
    let kept : List ℕ = drop len old in
    let blank : List ℕ = with_checksum dir s 0 in
    let after : drop 20 rest ≡ behind ++ kept = ap (drop 20) (e1 ∙ append_assoc (take 20 old) behind kept) ∙ drop_at (take 20 old) (behind ++ kept) 20 (length-take-le 20 old room) in
    let filled : fixed ≡ blank ++ kept = e2 ∙ ap (λ n. fixed_bytes dir s n 0 ++ drop 20 rest) b ∙ ap (λ xs. fixed_bytes dir s (20 + length (option_bytes s.mss)) 0 ++ xs) after in
    let front : take len fixed ≡ blank = ap (take len) filled ∙ take_at blank kept len (length-with_checksum dir s 0 ∙ sym l) in
    e3 ∙ ap (λ xs. take 16 xs ++ to_be_bytes w16 checksum ++ drop 18 xs) filled ∙ ap (λ n. with_checksum dir s n ++ kept) (k ∙ ap (checksum_of c dir) front)
