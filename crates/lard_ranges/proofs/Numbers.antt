-- Digits, and the number that they are.
use Rattle.std.proofs.Common.{◌≡◌, ℕ, zero, suc, ◌+◌, ◌-◌, ◌*◌, ◌^◌, ◌<◌, ◌≤◌, Bool, true, false, ◌&&◌, List, [], ◌∷◌, length, take, get_or, Option, Some, None, cond, refl, ap, ◌∙◌, arith, nat_lt, nat_le}
use Rattle.std.specs.List.{list_all}
use Rattle.std.specs.Char.{is_ascii_digit, digit_value}
use Rattle.std.specs.Str.Parse.{AllDigits, digits_value}
use Rattle.std.proofs.lemmas.Bool.{and_parts, and_from}
use Rattle.std.proofs.lemmas.Bool.Decides.{nat_tests}
use Rattle.std.proofs.lemmas.List.{length-take}
use Rattle.std.proofs.lemmas.Int.Digits.{digits_value_more}
use Rattle.std.proofs.lemmas.Str.{digit_value_digit}
use Rattle.std.proofs.lemmas.Str.Parse.{digit_from_value, digit_at, numerals_by_value, tells_digits, digits_value_short}
use Rattle.lard_ranges.specs.Reading.{is_number, number_told}
use Rattle.lard_ranges.specs.Spelled.{SpellsNumber}

-- ---- the test of digits

digit-range : (b : ℕ) → is_ascii_digit b ≡ true → (48 ≤ b) × (b ≤ 57)
digit-range b e = (grind (arith, nat_tests, e), grind (arith, nat_tests, e))

digit-test : (b : ℕ) → 48 ≤ b → b ≤ 57 → is_ascii_digit b ≡ true
digit-test b low high = grind (arith, nat_tests)

pub digits-from_test : (ds : List ℕ) → list_all is_ascii_digit ds ≡ true → AllDigits 10 ds
digits-from_test [] e = tt
digits-from_test (d ∷ ds) e =
    let p : (is_ascii_digit d ≡ true) × (list_all is_ascii_digit ds ≡ true) = and_parts (is_ascii_digit d) (list_all is_ascii_digit ds) e in
    let r : (48 ≤ d) × (d ≤ 57) = digit-range d p.0 in
    (omega (arith, r, digit_value_digit d r), digits-from_test ds p.1)

digits-test : (ds : List ℕ) → AllDigits 10 ds → list_all is_ascii_digit ds ≡ true
digits-test [] a = refl
digits-test (d ∷ ds) a =
    let r : (48 ≤ d) × (d ≤ 57) = digit_from_value d a.0 in
    and_from (is_ascii_digit d) (list_all is_ascii_digit ds) (digit-test d r.0 r.1) (digits-test ds a.1)

-- ---- one digit more

digits-take : (n : ℕ) (ds : List ℕ) → AllDigits 10 ds → AllDigits 10 (take n ds)
digits-take zero ds a = tt
digits-take (suc n) [] a = tt
digits-take (suc n) (d ∷ ds) a = (a.0, digits-take n ds a.1)

pub one-more : (ds : List ℕ) (i : ℕ) → length ds ≤ 18 → list_all is_ascii_digit ds ≡ true → i < length ds
    → (48 ≤ get_or ds i 0) × (get_or ds i 0 ≤ 57)
    × (digits_value 10 (take (i + 1) ds) ≡ digits_value 10 (take i ds) * 10 + (get_or ds i 0 - 48))
    × (digits_value 10 (take (i + 1) ds) < 10 ^ 18)
one-more ds i few tested inside =
    let all : AllDigits 10 ds = digits-from_test ds tested in
    let r : (48 ≤ get_or ds i 0) × (get_or ds i 0 ≤ 57) = digit_at ds i all inside in
    let v : digit_value (get_or ds i 0) + 48 ≡ get_or ds i 0 = digit_value_digit (get_or ds i 0) r in (
      r.0,
      r.1,
      omega (arith, digits_value_more 10 ds i inside, v),
      digits_value_short (numerals_by_value (AllDigits 10) tells_digits) (take (i + 1) ds) 18 (digits-take (i + 1) ds all)
          (omega (arith, few, length-take (i + 1) ds)),
    )

-- ---- a number is told exactly where it is spelled

pub number-sound : (ds : List ℕ) (n : ℕ) → number_told ds ≡ Some n → SpellsNumber ds n
unfolding number_told
number-sound ds n e = go (is_number ds) refl e where
  go : (t : Bool) → is_number ds ≡ t → cond {A = Option ℕ} t (Some (digits_value 10 ds)) None ≡ Some n → SpellsNumber ds n
  go true f g =
      let p = and_parts (nat_lt 0 (length ds) && nat_le (length ds) 18) (list_all is_ascii_digit ds) f in
      let q = and_parts (nat_lt 0 (length ds)) (nat_le (length ds) 18) p.0 in
      record { numeral = (grind (arith, nat_tests, q.0), digits-from_test ds p.1); few = grind (arith, nat_tests, q.1); value = cc }
  go false f g = cc

pub number-complete : (ds : List ℕ) (n : ℕ) → SpellsNumber ds n → number_told ds ≡ Some n
unfolding number_told
number-complete ds n s =
    let some : nat_lt 0 (length ds) ≡ true = grind (arith, nat_tests, s.numeral.0) in
    let few : nat_le (length ds) 18 ≡ true = grind (arith, nat_tests, s.few) in
    let t : is_number ds ≡ true = and_from _ _ (and_from (nat_lt 0 (length ds)) (nat_le (length ds) 18) some few) (digits-test ds s.numeral.1) in
    ap (λ b. cond {A = Option ℕ} b (Some (digits_value 10 ds)) None) t ∙ ap Some s.value
