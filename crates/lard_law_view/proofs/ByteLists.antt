-- Bytes, one by one: what is cut of them and joined, and the bytes of a segment.
use Rattle.std.proofs.Common.{◌≡◌, ℕ, zero, suc, ◌+◌, ◌≤◌, ◌<◌, ◌^◌, ◌/◌, ◌*◌, List, [], ◌∷◌, ◌++◌, length, take, drop, Bool, true, false, cond, Option, Some, None, Ok, All, sym, subst, arith, nat_lt, decimal}
use Rattle.std.proofs.lemmas.Bool.{and_parts, ltb-true}
use Rattle.std.proofs.lemmas.Fmt.{IsAscii-decimal}
use Rattle.std.proofs.lemmas.List.Elements.{All-cons, All-head, All-nil, All-tail}
use Rattle.std.specs.Int.{to_be_bytes, w16, w32}
use Rattle.std.specs.List.{list_all}
use Rattle.hex.specs.Hex.{IsBytes}
use Rattle.lard_history.proofs.Each.{Each, Each-append}
use Rattle.lard_law_view.specs.Prelude.{Dir, Flags, Said, checksum_of, decoded, fixed_bytes, flags_byte, option_bytes, source_port, spelled, target_port, with_checksum}
use Rattle.lard_segment.proofs.Decoded.{decoded-read}
use Rattle.lard_segment.proofs.Written.{length-option_bytes}

-- ---- each item of a list

module _ {A : Type 0} (P : A → Type 0) where
  -- the first ones, and those behind them
  pub each-take : (n : ℕ) (xs : List A) → Each P xs → Each P (take n xs)
  each-take zero xs h = tt
  each-take (suc n) [] h = tt
  each-take (suc n) (x ∷ xs) h = (h.0, each-take n xs h.1)

  pub each-drop : (n : ℕ) (xs : List A) → Each P xs → Each P (drop n xs)
  each-drop zero xs h = h
  each-drop (suc n) [] h = tt
  each-drop (suc n) (x ∷ xs) h = each-drop n xs h.1

  -- those before others, and those behind
  pub each-before : (xs ys : List A) → Each P (xs ++ ys) → Each P xs
  each-before [] ys h = tt
  each-before (x ∷ xs) ys h = (h.0, each-before xs ys h.1)

  pub each-behind : (xs ys : List A) → Each P (xs ++ ys) → Each P ys
  each-behind [] ys h = h
  each-behind (x ∷ xs) ys h = each-behind xs ys h.1

  -- std's word for the same, and back
  pub each-all : (xs : List A) → Each P xs → All P xs
  each-all [] h = All-nil P
  each-all (x ∷ xs) h = All-cons P x xs h.0 (each-all xs h.1)

  pub all-each : (xs : List A) → All P xs → Each P xs
  all-each [] h = tt
  all-each (x ∷ xs) h = (All-head P x xs h, all-each xs (All-tail P x xs h))

-- ---- bytes

-- bytes as a list, where std's word goes by their places
abbrev pub AreBytes : List ℕ → Type 0
AreBytes xs = Each (λ b. b < 256) xs

pub bytes-index : (xs : List ℕ) → AreBytes xs → IsBytes xs
bytes-index [] h i = omega arith
bytes-index (x ∷ xs) h zero = h.0
bytes-index (x ∷ xs) h (suc i) = bytes-index xs h.1 i

pub index-bytes : (xs : List ℕ) → IsBytes xs → AreBytes xs
index-bytes [] h = tt
index-bytes (x ∷ xs) h = (h 0, index-bytes xs (λ i. h (suc i)))

-- bytes behind bytes
pub bytes-append : (xs ys : List ℕ) → AreBytes xs → AreBytes ys → AreBytes (xs ++ ys)
bytes-append xs ys h k = Each-append (λ b. b < 256) xs ys h k

-- a text whose bytes are tested
pub bytes-tested : (xs : List ℕ) → list_all (λ b. nat_lt b 256) xs ≡ true → AreBytes xs
bytes-tested [] h = tt
bytes-tested (x ∷ xs) h = let both = and_parts (nat_lt x 256) (list_all (λ b. nat_lt b 256) xs) h in (ltb-true x 256 both.0, bytes-tested xs both.1)

-- the digits of a number
pub bytes-decimal : (n : ℕ) → n < 2 ^ 64 → AreBytes (decimal n)
bytes-decimal n small = index-bytes (decimal n) (λ i. let ascii = IsAscii-decimal n small i in omega (arith, ascii))

-- ---- segments

-- numbers of 16 and of 32 bits
pub bytes-16 : (n : ℕ) → AreBytes (to_be_bytes w16 n)
bytes-16 n = (omega arith, (omega arith, tt))

pub bytes-32 : (n : ℕ) → AreBytes (to_be_bytes w32 n)
bytes-32 n = (omega arith, (omega arith, (omega arith, (omega arith, tt))))

-- the options: their bytes, and how many
bytes-options : (mss : Option ℕ) → AreBytes (option_bytes mss)
bytes-options None = tt
bytes-options (Some m) = (omega arith, (omega arith, bytes-16 m))

-- a bit that may be set
cond-most : (b : Bool) (n : ℕ) → cond b n 0 ≤ n
cond-most true n = omega arith
cond-most false n = omega arith

-- the control bits are one byte
flag-byte : (f : Flags) → flags_byte f < 256
flag-byte f =
    let a = cond-most f.fin 1 in
    let b = cond-most f.syn 2 in
    let c = cond-most f.rst 4 in
    let d = cond-most f.psh 8 in
    let e = cond-most f.ack 16 in
    omega (arith, a, b, c, d, e)

-- the header up to the options
bytes-fixed : (dir : Dir) (s : Said) (begins checksum : ℕ) → begins ≤ 24 → AreBytes (fixed_bytes dir s begins checksum)
bytes-fixed dir s begins checksum small =
    let numbers : AreBytes (to_be_bytes w16 (source_port dir) ++ to_be_bytes w16 (target_port dir) ++ to_be_bytes w32 s.seq ++ to_be_bytes w32 s.ack) =
    bytes-append (to_be_bytes w16 (source_port dir) ++ to_be_bytes w16 (target_port dir) ++ to_be_bytes w32 s.seq) (to_be_bytes w32 s.ack)
    (bytes-append (to_be_bytes w16 (source_port dir) ++ to_be_bytes w16 (target_port dir)) (to_be_bytes w32 s.seq)
    (bytes-append (to_be_bytes w16 (source_port dir)) (to_be_bytes w16 (target_port dir)) (bytes-16 (source_port dir)) (bytes-16 (target_port dir))) (bytes-32 s.seq)) (bytes-32 s.ack) in
    let rest : AreBytes (to_be_bytes w16 s.wnd ++ to_be_bytes w16 checksum ++ to_be_bytes w16 0) =
    bytes-append (to_be_bytes w16 s.wnd ++ to_be_bytes w16 checksum) (to_be_bytes w16 0)
    (bytes-append (to_be_bytes w16 s.wnd) (to_be_bytes w16 checksum) (bytes-16 s.wnd) (bytes-16 checksum)) (bytes-16 0) in
    bytes-append (to_be_bytes w16 (source_port dir) ++ to_be_bytes w16 (target_port dir) ++ to_be_bytes w32 s.seq ++ to_be_bytes w32 s.ack)
    (begins / 4 * 16 ∷ flags_byte s.flags ∷ to_be_bytes w16 s.wnd ++ to_be_bytes w16 checksum ++ to_be_bytes w16 0)
    numbers (omega (arith, small), (flag-byte s.flags, rest))

-- the segment with some checksum
bytes-with : (dir : Dir) (s : Said) (checksum : ℕ) → AreBytes s.payload → AreBytes (with_checksum dir s checksum)
bytes-with dir s checksum h =
    let few = length-option_bytes s.mss in
    bytes-append (fixed_bytes dir s (20 + length (option_bytes s.mss)) checksum ++ option_bytes s.mss) s.payload
    (bytes-append (fixed_bytes dir s (20 + length (option_bytes s.mss)) checksum) (option_bytes s.mss)
    (bytes-fixed dir s (20 + length (option_bytes s.mss)) checksum (omega (arith, few))) (bytes-options s.mss)) h

-- the bytes of a segment are bytes where its data is
pub bytes-spelled : (c : ℕ) (dir : Dir) (s : Said) → AreBytes s.payload → AreBytes (spelled c dir s)
unfolding spelled
bytes-spelled c dir s h = bytes-with dir s (checksum_of c dir (with_checksum dir s 0)) h

-- and what bytes say has bytes for data
pub bytes-decoded : (bytes : List ℕ) (c : ℕ) (dir : Dir) (s : Said) → decoded bytes c dir ≡ Ok s → AreBytes bytes → AreBytes s.payload
bytes-decoded bytes c dir s is h = let read = decoded-read bytes c dir s is in subst AreBytes (sym read.rest) (each-drop (λ b. b < 256) read.begins bytes h)
