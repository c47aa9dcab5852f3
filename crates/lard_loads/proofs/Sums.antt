-- What all connections count, and what it is once one of them counts another amount.
use Rattle.std.proofs.Common.{◌≡◌, ◌≢◌, ℕ, zero, suc, ◌+◌, ◌*◌, ◌<◌, ◌≤◌, sum_by, Option, refl, ap, subst, ◌∙◌, ◌⊎◌, inl, inr, arith}
use Rattle.std.proofs.Math.Nat.{suc-mul}
use Rattle.std.proofs.lemmas.Bool.{cases_eq}
use Rattle.std.proofs.lemmas.List.Sums.{sum_by-cons}
use Rattle.std.specs.FinMap as map
use Rattle.std.specs.FinMap.{FinMap, get-empty}
use Rattle.std.specs.List.{range_with_len}
use Rattle.std.specs.Ordering.{nat_cmp}
use Rattle.lard_table.specs.Table.{put_or}
use Rattle.lard_table.proofs.Map.{get_put_other, get_put_same}
use Rattle.lard_loads.specs.Tally.{Standing, load_of, most_connections, units_of}

pub most-is : most_connections ≡ 16384
unfolding most_connections
most-is = refl

-- ---- sums over numbers in a row

same_sum : (f g : ℕ → ℕ) (a k : ℕ) → ((q : ℕ) → a ≤ q → q < a + k → f q ≡ g q) → sum_by f (range_with_len a k) ≡ sum_by g (range_with_len a k)
same_sum f g a zero same = refl
same_sum f g a (suc k) same =
    let rest = same_sum f g (a + 1) k (λ q low high. same q (omega (arith, low)) (omega (arith, high))) in
    let first = same a (omega arith) (omega arith) in
    omega (arith, rest, first, sum_by-cons f a (range_with_len (a + 1) k), sum_by-cons g a (range_with_len (a + 1) k))

-- one number counts another amount
pub changed_sum : (f g : ℕ → ℕ) (c a k : ℕ) → a ≤ c → c < a + k → ((q : ℕ) → q ≢ c → f q ≡ g q) → sum_by f (range_with_len a k) + g c ≡ sum_by g (range_with_len a k) + f c
changed_sum f g c a zero low high same = absurd (omega (arith, low, high))
changed_sum f g c a (suc k) low high same = go (changed_sum f g c (a + 1) k) (cases_eq a c) where
  left : sum_by f (range_with_len a (suc k)) ≡ f a + sum_by f (range_with_len (a + 1) k)
  left = sum_by-cons f a (range_with_len (a + 1) k)

  right : sum_by g (range_with_len a (suc k)) ≡ g a + sum_by g (range_with_len (a + 1) k)
  right = sum_by-cons g a (range_with_len (a + 1) k)

  go : (a + 1 ≤ c → c < a + 1 + k → ((q : ℕ) → q ≢ c → f q ≡ g q) → sum_by f (range_with_len (a + 1) k) + g c ≡ sum_by g (range_with_len (a + 1) k) + f c)
      → (a ≡ c) ⊎ (a ≡ c → ⊥) → sum_by f (range_with_len a (suc k)) + g c ≡ sum_by g (range_with_len a (suc k)) + f c
  go more (inl e) =
      let rest = same_sum f g (a + 1) k (λ q l h. same q (λ x. omega (arith, x, l, e))) in
      let one : f a ≡ f c = ap f e in
      let two : g a ≡ g c = ap g e in
      omega (arith, rest, left, right, one, two)
  go more (inr n) =
      let rest = more (omega (arith, low, n)) (omega (arith, high)) same in
      let one = same a n in
      omega (arith, rest, left, right, one)

one_of_sum : (f : ℕ → ℕ) (c a k : ℕ) → a ≤ c → c < a + k → f c ≤ sum_by f (range_with_len a k)
one_of_sum f c a zero low high = absurd (omega (arith, low, high))
one_of_sum f c a (suc k) low high = go (one_of_sum f c (a + 1) k) (cases_eq a c) where
  all : sum_by f (range_with_len a (suc k)) ≡ f a + sum_by f (range_with_len (a + 1) k)
  all = sum_by-cons f a (range_with_len (a + 1) k)

  go : (a + 1 ≤ c → c < a + 1 + k → f c ≤ sum_by f (range_with_len (a + 1) k)) → (a ≡ c) ⊎ (a ≡ c → ⊥) → f c ≤ sum_by f (range_with_len a (suc k))
  go more (inl e) = let one : f a ≡ f c = ap f e in omega (arith, all, one)
  go more (inr n) = let rest = more (omega (arith, low, n)) (omega (arith, high)) in omega (arith, all, rest)

bounded_sum : (f : ℕ → ℕ) (m a k : ℕ) → ((q : ℕ) → f q ≤ m) → sum_by f (range_with_len a k) ≤ k * m
bounded_sum f m a zero most = omega arith
bounded_sum f m a (suc k) most =
    let rest = bounded_sum f m (a + 1) k most in
    let one = most a in
    let times : suc k * m ≡ k * m + m = suc-mul k m in
    omega (arith, rest, one, times, sum_by-cons f a (range_with_len (a + 1) k))

-- ---- the load of a node

module _ (m : FinMap nat_cmp Standing) (n : ℕ) where
  abbrev counts : FinMap nat_cmp Standing → ℕ → ℕ
  counts at c = units_of (map.get at c) n

  -- a connection counts another amount
  pub load-put : (c : ℕ) (o : Option Standing) → 1 ≤ c → c ≤ 16384 → load_of (put_or m c o) n + units_of (map.get m c) n ≡ load_of m n + units_of o n
  unfolding load_of
  load-put c o low high =
      let here : counts (put_or m c o) c ≡ units_of o n = ap (λ p. units_of p n) (get_put_same m c o) in
      let sum = changed_sum (counts (put_or m c o)) (counts m) c 1 most_connections low (omega (arith, high, most-is)) (λ q f. ap (λ p. units_of p n) (get_put_other m c q o f)) in
      omega (arith, sum, here)

  pub one-le-load : (c : ℕ) → 1 ≤ c → c ≤ 16384 → units_of (map.get m c) n ≤ load_of m n
  unfolding load_of
  one-le-load c low high = one_of_sum (counts m) c 1 most_connections low (omega (arith, high, most-is))

  pub load-bound : (most : ℕ) → ((c : ℕ) → units_of (map.get m c) n ≤ most) → load_of m n ≤ 16384 * most
  unfolding load_of
  load-bound most all = subst (λ k. load_of m n ≤ k * most) most-is (bounded_sum (counts m) most 1 most_connections all)

-- no connection, no load
pub load-empty : (n : ℕ) → load_of map.empty n ≡ 0
unfolding load_of
load-empty n = same_sum (λ c. units_of (map.get map.empty c) n) (λ c. 0) 1 most_connections (λ q low high. ap (λ p. units_of p n) (get-empty nat_cmp q)) ∙ zeros 1 most_connections where
  zeros : (a k : ℕ) → sum_by (λ (c : ℕ). 0) (range_with_len a k) ≡ 0
  zeros a zero = refl
  zeros a (suc k) = let rest = zeros (a + 1) k in omega (arith, rest, sum_by-cons (λ (c : ℕ). 0) a (range_with_len (a + 1) k))
