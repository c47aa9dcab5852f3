-- Sums over the numbers 1 to n, and over the items of a list of which each is one number's.
use Rattle.std.proofs.Common.{◌≡◌, ◌≢◌, ◌≤◌, ◌<◌, ◌⊎◌, inl, inr, ℕ, zero, suc, ◌+◌, Bool, true, false, cond, nat_eq, List, [], ◌∷◌, refl, sym, ap, ◌∙◌, arith}
use Rattle.lard_history.proofs.Seeing.{by_number, other_number, same_number}
use Rattle.lard_generate_answers.specs.Counted.{sum_to}

-- a number from 1 to n
abbrev pub IsTo : ℕ → ℕ → Type 0
IsTo n c = (1 ≤ c) × (c ≤ n)

-- ---- sums

pub sum-same : (f g : ℕ → ℕ) (n : ℕ) → ((c : ℕ) → IsTo n c → f c ≡ g c) → sum_to f n ≡ sum_to g n
sum-same f g zero same = refl
sum-same f g (suc n) same =
    let before = sum-same f g n (λ c to. same c (to.0, omega (arith, to.1))) in
    let last : f (n + 1) ≡ g (n + 1) = same (n + 1) (omega arith, omega arith) in
    omega (arith, before, last)

pub sum-plus : (f g : ℕ → ℕ) (n : ℕ) → sum_to (λ c. f c + g c) n ≡ sum_to f n + sum_to g n
sum-plus f g zero = omega arith
sum-plus f g (suc n) = omega (arith, sum-plus f g n)

sum-nothing : (f : ℕ → ℕ) (n : ℕ) → ((c : ℕ) → f c ≡ 0) → sum_to f n ≡ 0
sum-nothing f zero none = refl
sum-nothing f (suc n) none = omega (arith, sum-nothing f n none, none (n + 1))

-- of what is at most 1 each, it is at most n
pub sum-few : (f : ℕ → ℕ) (n : ℕ) → ((c : ℕ) → f c ≤ 1) → sum_to f n ≤ n
sum-few f zero few = omega arith
sum-few f (suc n) few = omega (arith, sum-few f n few, few (n + 1))

-- ---- what is one number's

-- k for number d, nothing for any other
abbrev pub only : ℕ → ℕ → ℕ → ℕ
only d k c = cond (nat_eq d c) k 0

before-it : (d k n : ℕ) → n < d → sum_to (only d k) n ≡ 0
before-it d k zero less = refl
before-it d k (suc n) less =
    let last : only d k (n + 1) ≡ 0 = ap (λ b. cond b k 0) (other_number d (n + 1) (λ e. omega (arith, less, e))) in
    let first = before-it d k n (omega (arith, less)) in
    omega (arith, first, last)

-- it is counted once
only-sum : (d k n : ℕ) → IsTo n d → sum_to (only d k) n ≡ k
only-sum d k zero to = absurd (omega (arith, to.0, to.1))
only-sum d k (suc n) to = by_number (sum_to (only d k) (suc n) ≡ k) d (n + 1) here (there (only-sum d k n)) where
  here : d ≡ n + 1 → sum_to (only d k) (suc n) ≡ k
  here e =
      let last : only d k (n + 1) ≡ k = ap (λ b. cond b k 0) (ap (nat_eq d) (sym e) ∙ same_number d) in
      let first = before-it d k n (omega (arith, e)) in
      omega (arith, first, last)

  there : (IsTo n d → sum_to (only d k) n ≡ k) → d ≢ n + 1 → sum_to (only d k) (suc n) ≡ k
  there earlier other =
      let last : only d k (n + 1) ≡ 0 = ap (λ b. cond b k 0) (other_number d (n + 1) other) in
      let first = earlier (to.0, omega (arith, to.1, other)) in
      omega (arith, first, last)

only-nothing : (d k c : ℕ) → k ≡ 0 → only d k c ≡ 0
only-nothing d k c none = go (nat_eq d c) where
  go : (b : Bool) → cond b k 0 ≡ 0
  go true = none
  go false = refl

-- ---- the items of a list

module _ {X : Type 0} where
  -- what all items weigh
  abbrev pub weigh : (X → ℕ) → List X → ℕ
  weigh f [] = 0
  weigh f (x ∷ xs) = f x + weigh f xs

  module _ (of cost : X → ℕ) where
    -- what an item weighs where it is number c's
    abbrev pub share : ℕ → X → ℕ
    share c x = only (of x) (cost x) c

    one-sum : (n : ℕ) (x : X) → IsTo n (of x) ⊎ (share (of x) x ≡ 0) → sum_to (λ c. share c x) n ≡ cost x
    one-sum n x (inl to) = only-sum (of x) (cost x) n to
    one-sum n x (inr none) =
        let nothing : cost x ≡ 0 = sym (ap (λ b. cond b (cost x) 0) (same_number (of x))) ∙ none in
        sum-nothing (λ c. share c x) n (λ c. only-nothing (of x) (cost x) c nothing) ∙ sym nothing

    -- Where none is of a number above n, nor of 0, all weigh what those of 1 to n do together.
    pub by-number : (n : ℕ) (xs : List X) → ((c : ℕ) → IsTo n c ⊎ (weigh (share c) xs ≡ 0)) → weigh cost xs ≡ sum_to (λ c. weigh (share c) xs) n
    by-number n [] h = sym (sum-nothing (λ c. 0) n (λ c. refl))
    by-number n (x ∷ xs) h =
        let one = one-sum n x (first (h (of x))) in
        let more = by-number n xs (λ c. later c (h c)) in
        let both = sum-plus (λ c. share c x) (λ c. weigh (share c) xs) n in
        omega (arith, one, more, both) where
          first : IsTo n (of x) ⊎ (share (of x) x + weigh (share (of x)) xs ≡ 0) → IsTo n (of x) ⊎ (share (of x) x ≡ 0)
          first (inl to) = inl to
          first (inr none) = inr (omega (arith, none))

          later : (c : ℕ) → IsTo n c ⊎ (share c x + weigh (share c) xs ≡ 0) → IsTo n c ⊎ (weigh (share c) xs ≡ 0)
          later c (inl to) = inl to
          later c (inr none) = inr (omega (arith, none))
