-- Flags are told by the members that they stand for.
use Rattle.std.proofs.Common.{◌≡◌, ◌≢◌, ◌≤◌, ◌<◌, ◌+◌, ◌-◌, ◌^◌, ◌%◌, ◌||◌, ◌&&◌, ℕ, zero, suc, Bool, true, false, not, nat_eq, max, refl, sym, ap, ◌∙◌, arith}
use Rattle.std.proofs.lemmas.Bool.Decides.{nat_tests}
use Rattle.std.proofs.lemmas.Nat.Bits.{bit_at_or, bit_at_xor, bit_at-lt, bit_at-zero, bit_at-pow_same, bit_at-pow_other, same_from_bits}
use Rattle.std.specs.Int.{bit_at}
use Rattle.lard_base.specs.Members.{has}
use Rattle.lard_sets.specs.Sets.{with_member, without_member}

-- a bit is 1, or it is 0
bit_from_has : (a b : ℕ) → a < 2 → b < 2 → nat_eq a 1 ≡ nat_eq b 1 → a ≡ b
bit_from_has a b lt lt' same = grind (arith, nat_tests, lt, lt', same)

-- the same members have the same flags
pub same_flags : (a b : ℕ) → ((k : ℕ) → 1 ≤ k → has a k ≡ has b k) → a ≡ b
same_flags a b same = same_from_bits a b (λ i.
    let at : i + 1 - 1 ≡ i = omega arith in
    let h : nat_eq (bit_at a i) 1 ≡ nat_eq (bit_at b i) 1 = ap (λ j. nat_eq (bit_at a j) 1) (sym at) ∙ same (i + 1) (omega arith) ∙ ap (λ j. nat_eq (bit_at b j) 1) at in
    bit_from_has (bit_at a i) (bit_at b i) (bit_at-lt a i) (bit_at-lt b i) h)

-- two places apart
apart : (k n : ℕ) → 1 ≤ k → 1 ≤ n → nat_eq k n ≡ false → k - 1 ≢ n - 1
apart k n h i e f = let same : k ≡ n = omega (arith, h, i, f) in grind (arith, nat_tests, e, same)

-- the member that was added is there, and of all others there are those that were
pub has-with_member : (m n k : ℕ) → 1 ≤ n → 1 ≤ k → has (with_member m n) k ≡ (nat_eq k n || has m k)
has-with_member m n k some h = go (nat_eq k n) refl where
  go : (b : Bool) → nat_eq k n ≡ b → has (with_member m n) k ≡ (b || has m k)
  go true e =
      let same : k ≡ n = grind (arith, nat_tests, e) in
      let bit : bit_at (with_member m n) (n - 1) ≡ 1 =
      bit_at_or m (2 ^ (n - 1)) (n - 1) ∙ ap (λ b. max (bit_at m (n - 1)) b) (bit_at-pow_same (n - 1)) ∙ omega (arith, bit_at-lt m (n - 1)) in
      ap (λ j. nat_eq (bit_at (with_member m n) (j - 1)) 1) same ∙ ap (λ b. nat_eq b 1) bit
  go false e =
      let bit : bit_at (with_member m n) (k - 1) ≡ bit_at m (k - 1) =
      bit_at_or m (2 ^ (n - 1)) (k - 1) ∙ ap (λ b. max (bit_at m (k - 1)) b) (bit_at-pow_other (n - 1) (k - 1) (apart k n h some e)) ∙ omega arith in
      ap (λ b. nat_eq b 1) bit

-- the member that was taken out is not there, and of all others there are those that were
pub has-without_member : (m n k : ℕ) → 1 ≤ n → 1 ≤ k → has (without_member m n) k ≡ (not (nat_eq k n) && has m k)
has-without_member m n k some h = go (nat_eq k n) refl where
  go : (b : Bool) → nat_eq k n ≡ b → has (without_member m n) k ≡ (not b && has m k)
  go true e =
      let same : k ≡ n = grind (arith, nat_tests, e) in
      let set : bit_at (with_member m n) (n - 1) ≡ 1 =
      bit_at_or m (2 ^ (n - 1)) (n - 1) ∙ ap (λ b. max (bit_at m (n - 1)) b) (bit_at-pow_same (n - 1)) ∙ omega (arith, bit_at-lt m (n - 1)) in
      let bit : bit_at (without_member m n) (n - 1) ≡ 0 =
      bit_at_xor (with_member m n) (2 ^ (n - 1)) (n - 1) ∙ ap (λ b. (bit_at (with_member m n) (n - 1) + b) % 2) (bit_at-pow_same (n - 1)) ∙ ap (λ b. (b + 1) % 2) set in
      ap (λ j. nat_eq (bit_at (without_member m n) (j - 1)) 1) same ∙ ap (λ b. nat_eq b 1) bit
  go false e =
      let off : bit_at (2 ^ (n - 1)) (k - 1) ≡ 0 = bit_at-pow_other (n - 1) (k - 1) (apart k n h some e) in
      let set : bit_at (with_member m n) (k - 1) ≡ bit_at m (k - 1) =
      bit_at_or m (2 ^ (n - 1)) (k - 1) ∙ ap (λ b. max (bit_at m (k - 1)) b) off ∙ omega arith in
      let bit : bit_at (without_member m n) (k - 1) ≡ bit_at m (k - 1) =
      bit_at_xor (with_member m n) (2 ^ (n - 1)) (k - 1) ∙ ap (λ b. (bit_at (with_member m n) (k - 1) + b) % 2) off ∙ ap (λ b. (b + 0) % 2) set
      ∙ omega (arith, bit_at-lt m (k - 1)) in
      ap (λ b. nat_eq b 1) bit

-- no members are no flags
pub no_flags : (m : ℕ) → ((k : ℕ) → has m k ≡ false) → m ≡ 0
no_flags m none = same_flags m 0 (λ k h. none k ∙ sym (empty (k - 1))) where
  empty : (i : ℕ) → nat_eq (bit_at 0 i) 1 ≡ false
  empty i = let zero : bit_at 0 i ≡ 0 = omega (arith, bit_at-zero i) in ap (λ b. nat_eq b 1) zero

-- all members are among the lowest numbers
abbrev pub AreWithin : ℕ → ℕ → Type 0
AreWithin most members = (k : ℕ) → has members k ≡ true → k ≤ most

-- and still are with one more of these, and with one less
pub within-with_member : (m n most : ℕ) → 1 ≤ n → n ≤ most → AreWithin most m → AreWithin most (with_member m n)
within-with_member m n most some low all zero h = omega arith
within-with_member m n most some low all (suc k) h = go (nat_eq (suc k) n) refl (sym (has-with_member m n (suc k) some (omega arith)) ∙ h) where
  go : (b : Bool) → nat_eq (suc k) n ≡ b → (b || has m (suc k)) ≡ true → suc k ≤ most
  go true e p = let same : suc k ≡ n = grind (arith, nat_tests, e) in omega (arith, same, low)
  go false e p = all (suc k) p

pub within-without_member : (m n most : ℕ) → 1 ≤ n → AreWithin most m → AreWithin most (without_member m n)
within-without_member m n most some all zero h = omega arith
within-without_member m n most some all (suc k) h = go (not (nat_eq (suc k) n)) (sym (has-without_member m n (suc k) some (omega arith)) ∙ h) where
  go : (b : Bool) → (b && has m (suc k)) ≡ true → suc k ≤ most
  go true p = all (suc k) p
  go false p = cc
