-- No number of a row but one is open exactly where each other one is not.
use Rattle.std.proofs.Common.{◌≡◌, ◌≢◌, ℕ, zero, suc, ◌+◌, ◌≤◌, ◌<◌, Bool, true, false, cond, not, nat_eq, ◌&&◌, ◌||◌, List, ◌∷◌, refl, sym, ap, ◌∙◌, subst, arith}
use Rattle.std.proofs.lemmas.Bool.{and_left, and_right, or_parts, true≢false}
use Rattle.std.specs.List.{filter, list_any, range_with_len}
use Rattle.lard_history.proofs.Seeing.{by_number, other_number, same_number}

-- one of them is open, and is not n
abbrev pub any_other : (ℕ → Bool) → ℕ → List ℕ → Bool
any_other is_open n ks = list_any (λ k. not (nat_eq k n)) (filter is_open ks)

-- the first of them is that, or one behind it
first-or : (is_open : ℕ → Bool) (n k : ℕ) (ks : List ℕ) → any_other is_open n (k ∷ ks) ≡ ((is_open k && not (nat_eq k n)) || any_other is_open n ks)
first-or is_open n k ks = go (is_open k) where
  go : (b : Bool) → list_any (λ j. not (nat_eq j n)) (cond b (k ∷ filter is_open ks) (filter is_open ks)) ≡ ((b && not (nat_eq k n)) || any_other is_open n ks)
  go true = refl
  go false = refl

-- a number that is not n, and not an open one beside n, is not open
not-open : (b : Bool) (k n : ℕ) → (b && not (nat_eq k n)) ≡ false → k ≢ n → b ≡ false
not-open true k n none other = absurd (true≢false (sym (ap not (other_number k n other)) ∙ none))
not-open false k n none other = refl

pub none-open : (is_open : ℕ → Bool) (n a many : ℕ) → any_other is_open n (range_with_len a many) ≡ false → (k : ℕ) → a ≤ k → k < a + many → k ≢ n
    → is_open k ≡ false
none-open is_open n a zero none k low high other = absurd (omega (arith, low, high))
none-open is_open n a (suc many) none k low high other =
    let both = or_parts (is_open a && not (nat_eq a n)) (any_other is_open n (range_with_len (a + 1) many)) (sym (first-or is_open n a (range_with_len (a + 1) many)) ∙ none) in
    by_number (is_open k ≡ false) a k
    (λ same. subst (λ j. is_open j ≡ false) same (not-open (is_open a) a n both.0 (λ e. other (sym same ∙ e))))
    (λ apart. none-open is_open n (a + 1) many both.1 k (omega (arith, low, apart)) (omega (arith, high)) other)

-- the first is no open one beside n
first-none : (is_open : ℕ → Bool) (n k : ℕ) → (k ≢ n → is_open k ≡ false) → (is_open k && not (nat_eq k n)) ≡ false
first-none is_open n k closed = by_number ((is_open k && not (nat_eq k n)) ≡ false) k n
    (λ same. and_right (is_open k) (not (nat_eq k n)) (ap (λ j. not (nat_eq k j)) (sym same) ∙ ap not (same_number k)))
    (λ apart. and_left (is_open k) (not (nat_eq k n)) (closed apart))

pub all-closed : (is_open : ℕ → Bool) (n a many : ℕ) → ((k : ℕ) → a ≤ k → k < a + many → k ≢ n → is_open k ≡ false)
    → any_other is_open n (range_with_len a many) ≡ false
all-closed is_open n a zero closed = refl
all-closed is_open n a (suc many) closed =
    first-or is_open n a (range_with_len (a + 1) many)
    ∙ ap (λ b. b || any_other is_open n (range_with_len (a + 1) many)) (first-none is_open n a (closed a (omega arith) (omega arith)))
    ∙ all-closed is_open n (a + 1) many (λ k low high. closed k (omega (arith, low)) (omega (arith, high)))
