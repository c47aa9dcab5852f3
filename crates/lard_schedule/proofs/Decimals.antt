-- A word is read as a number exactly where it is the number in decimal.
use Rattle.std.proofs.Common.{◌≡◌, ◌≢◌, ℕ, zero, suc, ◌+◌, ◌-◌, ◌*◌, ◌≤◌, ◌<◌, ◌^◌, List, [], ◌∷◌, length, Bool, true, false, cond, not, ◌&&◌, Option, Some, None, refl, sym, ap, ◌∙◌, subst, get_or, arith}
use Rattle.std.specs.Prelude.{nat_eq, nat_le, decimal}
use Rattle.std.specs.Str.Parse.{AllDigits, digits_value_after}
use Rattle.std.specs.Char.{digit_value}
use Rattle.std.proofs.lemmas.Bool.Decides.{nat_tests}
use Rattle.std.proofs.lemmas.Fmt.{decimal_is_IsNumeral, first_decimal, decimal_digit, decimal-digits_value}
use Rattle.std.proofs.lemmas.Str.{digit_value_digit}
use Rattle.std.proofs.lemmas.Str.Parse.{digit_from_value, numerals_by_value, tells_digits}
use Rattle.lard_schedule.specs.Words.{◌>>=◌, digits_on, is_nil, number_of}

-- a digit is a byte from 0 to 9, and the number stays at most `most`
abbrev fits : ℕ → ℕ → ℕ → Bool
fits most n b = nat_le 48 b && nat_le b 57 && nat_le (10 * n + (b - 48)) most

-- what is read from a digit on
abbrev go_on : ℕ → Bool → ℕ → List ℕ → Option ℕ
go_on most t m bs = (cond t (Some m) None) >>= λ k. digits_on most k bs

value_grows : (n : ℕ) (ds : List ℕ) → n ≤ digits_value_after 10 n ds
value_grows n [] = omega arith
value_grows n (c ∷ cs) = omega (arith, value_grows (n * 10 + digit_value c) cs)

-- What is read of digits is their value.
digits_read : (most n : ℕ) (ds : List ℕ) (m : ℕ) → n ≤ most → digits_on most n ds ≡ Some m → AllDigits 10 ds × (digits_value_after 10 n ds ≡ m) × (m ≤ most)
digits_read most n [] m small e = let same : n ≡ m = cc in (tt, same, omega arith)
digits_read most n (b ∷ bs) m small e = go (λ k. digits_read most k bs m) (fits most n b) refl e where
  go : ((k : ℕ) → k ≤ most → digits_on most k bs ≡ Some m → AllDigits 10 bs × (digits_value_after 10 k bs ≡ m) × (m ≤ most)) → (t : Bool) → fits most n b ≡ t
      → go_on most t (10 * n + (b - 48)) bs ≡ Some m → AllDigits 10 (b ∷ bs) × (digits_value_after 10 n (b ∷ bs) ≡ m) × (m ≤ most)
  go read false f g = let none : None ≡ Some m = g in cc
  go read true f g =
      let range : (48 ≤ b) × (b ≤ 57) = (grind (arith, nat_tests, f), grind (arith, nat_tests, f)) in
      let below : 10 * n + (b - 48) ≤ most = grind (arith, nat_tests, f) in
      let digit = digit_value_digit b range in
      let next : 10 * n + (b - 48) ≡ n * 10 + digit_value b = omega (arith, digit) in
      let rest = read (10 * n + (b - 48)) below g in
      ((omega (arith, digit, range.0, range.1), rest.0), subst (λ k. digits_value_after 10 k bs ≡ m) next rest.1, rest.2)

-- Digits whose value is small enough are read.
digits_are_read : (most n : ℕ) (ds : List ℕ) → AllDigits 10 ds → digits_value_after 10 n ds ≤ most → digits_on most n ds ≡ Some (digits_value_after 10 n ds)
digits_are_read most n [] all small = refl
digits_are_read most n (b ∷ bs) all small =
    let range = digit_from_value b all.0 in
    let digit = digit_value_digit b range in
    let next : 10 * n + (b - 48) ≡ n * 10 + digit_value b = omega (arith, digit) in
    let grows = value_grows (n * 10 + digit_value b) bs in
    let fine : fits most n b ≡ true = grind (arith, nat_tests, range.0, range.1, next, grows, small) in
    ap (λ t. go_on most t (10 * n + (b - 48)) bs) fine
    ∙ ap (λ k. digits_on most k bs) next
    ∙ digits_are_read most (n * 10 + digit_value b) bs all.1 small

-- ---- a number

abbrev is_lead : ℕ → List ℕ → Bool
is_lead b bs = nat_eq b 48 && not (is_nil bs)

abbrev number_at : ℕ → Bool → List ℕ → Option ℕ
number_at most lead ds = cond lead None (digits_on most 0 ds)

-- without a leading zero: it stands alone where it stands first
lone_zero : (b : ℕ) (bs : List ℕ) → is_lead b bs ≡ false → b ≡ 48 → length (b ∷ bs) ≡ 1
lone_zero b [] e f = refl
lone_zero b (d ∷ ds) e f = absurd (lead b e f) where
  lead : (k : ℕ) → nat_eq k 48 && true ≡ false → k ≡ 48 → ⊥
  lead k e f = grind (arith, nat_tests, e, f)

pub number_spelled : (most : ℕ) (word : List ℕ) (n : ℕ) → most < 2 ^ 64 → number_of most word ≡ Some n → (word ≡ decimal n) × (n ≤ most)
number_spelled most [] n wide e = let none : None ≡ Some n = e in cc
number_spelled most (b ∷ bs) n wide e = go (is_lead b bs) refl e where
  go : (t : Bool) → is_lead b bs ≡ t → number_at most t (b ∷ bs) ≡ Some n → (b ∷ bs ≡ decimal n) × (n ≤ most)
  go true f g = let none : None ≡ Some n = g in cc
  go false f g =
      let read = digits_read most 0 (b ∷ bs) n (omega arith) g in
      let written = decimal-digits_value (numerals_by_value _ tells_digits) (b ∷ bs) read.0 (omega arith) (lone_zero b bs f) (omega (arith, read.1, read.2)) in
      (sym written ∙ ap decimal read.1, read.2)

not_lead : (b : ℕ) (bs : List ℕ) → b ≢ 48 → is_lead b bs ≡ false
not_lead b [] ne = lone (nat_eq b 48) where
  lone : (t : Bool) → t && false ≡ false
  lone true = refl
  lone false = refl
not_lead b (d ∷ ds) ne = other b ne where
  other : (k : ℕ) → k ≢ 48 → nat_eq k 48 && true ≡ false
  other k ne = grind (arith, nat_tests, ne)

-- digits that begin with none, or are one
number_from : (most : ℕ) (ds : List ℕ) → 0 < length ds → AllDigits 10 ds → digits_value_after 10 0 ds ≤ most → get_or ds 0 0 ≢ 48
    → number_of most ds ≡ Some (digits_value_after 10 0 ds)
number_from most [] some all small ne = absurd (omega arith)
number_from most (b ∷ bs) some all small ne = ap (λ t. number_at most t (b ∷ bs)) (not_lead b bs ne) ∙ digits_are_read most 0 (b ∷ bs) all small

-- the digit 0 alone
number_zero : (most : ℕ) → number_of most (decimal 0) ≡ Some 0
number_zero most =
    let small : nat_le 0 most ≡ true = grind (arith, nat_tests) in ap (number_of most) (decimal_digit 0 (omega arith)) ∙ ap (λ t. go_on most t 0 []) small

number_some : (most n : ℕ) → 0 < n → n ≤ most → most < 2 ^ 64 → number_of most (decimal n) ≡ Some n
number_some most n some small wide =
    let back = decimal_is_IsNumeral n (omega arith) in
    let first = first_decimal n some (omega arith) in
    let value : digits_value_after 10 0 (decimal n) ≡ n = back.1 in
    number_from most (decimal n) back.0.0 back.0.1 (omega (arith, value)) (λ e. omega (arith, e, first)) ∙ ap Some value

pub number_read : (most n : ℕ) → most < 2 ^ 64 → n ≤ most → number_of most (decimal n) ≡ Some n
number_read most zero wide small = number_zero most
number_read most (suc n) wide small = number_some most (suc n) (omega arith) small wide
