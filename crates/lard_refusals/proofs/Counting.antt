-- How many of the numbers that a connection can have pass a test that some of them pass.
use Rattle.std.proofs.Common.{◌≡◌, ℕ, zero, suc, ◌+◌, ◌<◌, ◌≤◌, Bool, true, false, cond, count_by, refl, ap, ◌∙◌, ⊎_elim, arith}
use Rattle.std.proofs.lemmas.Bool.{cases_eq}
use Rattle.std.proofs.lemmas.List.Sums.{sum_by-cons}
use Rattle.std.specs.List.{range_with_len}
use Rattle.lard_law_view.specs.Prelude.{connections, most_connections, numbers}
use Rattle.lard_loads.proofs.Sums.{most-is}

module _ (p : ℕ → Bool) where
  -- the first of some numbers counts where it passes
  first-counts : (a many : ℕ) → p a ≡ true → count_by p (range_with_len a (suc many)) ≡ 1 + count_by p (range_with_len (a + 1) many)
  first-counts a many yes_ =
      let step : count_by p (range_with_len a (suc many)) ≡ cond {A = ℕ} (p a) 1 0 + count_by p (range_with_len (a + 1) many) = sum_by-cons (λ (x : ℕ). cond {A = ℕ} (p x) 1 0) a (range_with_len (a + 1) many) in
      let one : cond {A = ℕ} (p a) 1 0 ≡ 1 = ap (λ (b : Bool). cond {A = ℕ} b 1 0) yes_ in
      omega arith

  -- where none passes, none is counted
  none-counts : (a many : ℕ) → ((k : ℕ) → p k ≡ false) → count_by p (range_with_len a many) ≡ 0
  none-counts a zero none = refl
  none-counts a (suc many) none =
      let step : count_by p (range_with_len a (suc many)) ≡ cond {A = ℕ} (p a) 1 0 + count_by p (range_with_len (a + 1) many)
      = sum_by-cons (λ (x : ℕ). cond {A = ℕ} (p x) 1 0) a (range_with_len (a + 1) many) in
      let one : cond {A = ℕ} (p a) 1 0 ≡ 0 = ap (λ (b : Bool). cond {A = ℕ} b 1 0) (none a) in
      let rest = none-counts (a + 1) many none in
      omega arith

  -- one of them that passes is counted
  one-counts : (k a many : ℕ) → a ≤ k → k < a + many → p k ≡ true → 1 ≤ count_by p (range_with_len a many)
  one-counts k a zero from below yes_ = absurd (omega arith)
  one-counts k a (suc many) from below yes_ =
      ⊎_elim here (λ (other : a ≡ k → ⊥). behind (one-counts k (a + 1) many (omega (arith, other)) (omega arith) yes_)) (cases_eq a k) where
        here : a ≡ k → 1 ≤ count_by p (range_with_len a (suc many))
        here e = let all = first-counts a many (ap p e ∙ yes_) in omega arith

        behind : 1 ≤ count_by p (range_with_len (a + 1) many) → 1 ≤ count_by p (range_with_len a (suc many))
        behind rest =
            let step : count_by p (range_with_len a (suc many)) ≡ cond {A = ℕ} (p a) 1 0 + count_by p (range_with_len (a + 1) many) = sum_by-cons (λ (x : ℕ). cond {A = ℕ} (p x) 1 0) a (range_with_len (a + 1) many) in
            omega arith

  three-count : (many : ℕ) → 3 ≤ many → p 1 ≡ true → p 2 ≡ true → p 3 ≡ true → 3 ≤ count_by p (range_with_len 1 many)
  three-count zero many one two three = absurd (omega arith)
  three-count (suc zero) many one two three = absurd (omega arith)
  three-count (suc (suc zero)) many one two three = absurd (omega arith)
  three-count (suc (suc (suc n))) many one two three =
      let a = first-counts 1 (suc (suc n)) one in
      let b = first-counts 2 (suc n) two in
      let c = first-counts 3 n three in
      omega arith

  -- of all connections
  pub one-of-all : (k : ℕ) → 1 ≤ k → k ≤ 16384 → p k ≡ true → 1 ≤ count_by p connections
  one-of-all k low high yes_ = one-counts k 1 most_connections low (omega (arith, most-is)) yes_

  pub none-of-all : ((k : ℕ) → p k ≡ false) → count_by p connections ≡ 0
  none-of-all none = none-counts 1 most_connections none

  pub three-of-all : p 1 ≡ true → p 2 ≡ true → p 3 ≡ true → 3 ≤ count_by p connections
  three-of-all one two three = three-count most_connections (omega (arith, most-is)) one two three

  -- of three nodes
  pub three-of-three : p 1 ≡ true → p 2 ≡ true → p 3 ≡ true → 3 ≤ count_by p (numbers 3)
  three-of-three one two three = three-count 3 (omega arith) one two three
