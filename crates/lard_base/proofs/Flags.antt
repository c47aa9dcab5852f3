-- Flags as members: one is set or cleared, the set ones are counted, and the same members have the same flags.
use Rattle.std.proofs.Common.{◌≡◌, ◌≢◌, ◌≤◌, ◌<◌, ◌+◌, ◌-◌, ◌*◌, ◌/◌, ◌%◌, ◌^◌, ◌||◌, ◌&&◌, ℕ, suc, zero, Bool, true, false, not, nat_eq, nat_le, sum_by, count_by, bit_or, bit_and, w64, refl, sym, ap, ◌∙◌, arith, cond, pow-suc, add_comm}
use Rattle.std.proofs.lemmas.List.Sums.{sum_by-cons}
use Rattle.std.proofs.lemmas.Bool.Decides.{nat_tests}
use Rattle.std.proofs.lemmas.Nat.{ones_cat, ones-le, and_le_l}
use Rattle.std.proofs.lemmas.Nat.Bits.{bit_at_set_same, bit_at_set_other, bit_at_clear_same, bit_at_clear_other, bit_at-suc, bit_at_lowest, bit_at_above}
use Rattle.std.specs.Int.{bit_at, bit_not}
use Rattle.std.specs.Int.Count.{ones, ones_in}
use Rattle.std.specs.List.{range_with_len}
use Rattle.lard_base.specs.Members.{has, node_numbers}

-- two places apart
apart : (k n : ℕ) → 1 ≤ k → 1 ≤ n → nat_eq k n ≡ false → k - 1 ≢ n - 1
apart k n h i e f = let same : k ≡ n = omega (arith, h, i, f) in grind (arith, nat_tests, e, same)

-- a set flag makes a member, and no other
pub set_flag : (m n k : ℕ) → 1 ≤ n → n ≤ 64 → 1 ≤ k → has (bit_or m (1 * 2 ^ (n - 1) % 2 ^ 64)) k ≡ (nat_eq k n || has m k)
set_flag m n k some most h = go (nat_eq k n) refl where
  go : (b : Bool) → nat_eq k n ≡ b → has (bit_or m (1 * 2 ^ (n - 1) % 2 ^ 64)) k ≡ (b || has m k)
  go true e = let same : k ≡ n = grind (arith, nat_tests, e) in rw same (ap (λ bit. nat_eq bit 1) (bit_at_set_same w64 m (n - 1) (omega (arith, some, most))))
  go false e = ap (λ bit. nat_eq bit 1) (bit_at_set_other w64 m (n - 1) (omega (arith, some, most)) (k - 1) (apart k n h some e))

-- a cleared flag takes out a member, and no other
pub clear_flag : (m n k : ℕ) → m < 2 ^ 64 → 1 ≤ n → n ≤ 64 → 1 ≤ k → has (bit_and m (bit_not w64 (1 * 2 ^ (n - 1) % 2 ^ 64))) k ≡ (not (nat_eq k n) && has m k)
clear_flag m n k fits some most h = go (nat_eq k n) refl where
  off : ℕ
  off = bit_not w64 (1 * 2 ^ (n - 1) % 2 ^ 64)

  go : (b : Bool) → nat_eq k n ≡ b → has (bit_and m off) k ≡ (not b && has m k)
  go true e = let same : k ≡ n = grind (arith, nat_tests, e) in rw same (ap (λ bit. nat_eq bit 1) (bit_at_clear_same w64 m (n - 1) (omega (arith, some, most))))
  go false e = near (nat_le k 64) refl where
    near : (t : Bool) → nat_le k 64 ≡ t → has (bit_and m off) k ≡ has m k
    near true f = let low : k ≤ 64 = grind (arith, nat_tests, f) in
        ap (λ bit. nat_eq bit 1) (bit_at_clear_other w64 m (n - 1) (omega (arith, some, most)) (k - 1) (omega (arith, low, h)) (apart k n h some e))
    near false f = let high : 64 ≤ k - 1 = grind (arith, nat_tests, f) in
        ap (λ bit. nat_eq bit 1) (bit_at_above (bit_and m off) 64 (k - 1) (omega (arith, and_le_l m off, fits)) high ∙ sym (bit_at_above m 64 (k - 1) fits high))

-- a place above the lowest is a place of the half
half_has : (a n : ℕ) → 1 ≤ a → has n (a + 1) ≡ has (n / 2) a
half_has a n h = let e : a + 1 - 1 ≡ suc (a - 1) = omega (arith, h) in ap (λ bit. nat_eq bit 1) (ap (bit_at n) e ∙ bit_at-suc n (a - 1))

-- and so are all that follow it
shifted : (digits a n : ℕ) → 1 ≤ a → count_by (has n) (range_with_len (a + 1) digits) ≡ count_by (has (n / 2)) (range_with_len a digits)
shifted zero a n h = refl
shifted (suc digits) a n h =
    let p : ℕ → ℕ = λ j. cond (has n j) 1 0 in
    let q : ℕ → ℕ = λ j. cond (has (n / 2) j) 1 0 in
    let first : p (a + 1) ≡ q a = ap (λ b. cond b 1 0) (half_has a n h) in
    let others : sum_by p (range_with_len (a + 1 + 1) digits) ≡ sum_by q (range_with_len (a + 1) digits) = shifted digits (a + 1) n (omega arith) in
    sum_by-cons p (a + 1) (range_with_len (a + 1 + 1) digits) ∙ ap (λ x. x + sum_by p (range_with_len (a + 1 + 1) digits)) first ∙ ap (λ x. q a + x) others ∙ sym (sum_by-cons q a (range_with_len (a + 1) digits))

-- one digit is counted by itself
ones_digit : (r : ℕ) → r < 2 → ones r ≡ cond (nat_eq r 1) 1 0
unfolding ones ones_in
ones_digit zero h = refl
ones_digit (suc zero) h = refl
ones_digit (suc (suc r)) h = absurd (omega (arith, h))

-- the ones among the lowest digits are counted one by one
ones_has : (digits n : ℕ) → n < 2 ^ digits → ones n ≡ count_by (has n) (range_with_len 1 digits)
ones_has zero n h = omega (arith, ones-le 0 n h)
ones_has (suc digits) n h =
    let p : ℕ → ℕ = λ j. cond (has n j) 1 0 in
    let split : n ≡ n / 2 * 2 ^ 1 + n % 2 = omega arith in
    let parts : ones n ≡ ones (n / 2) + ones (n % 2) = ap ones split ∙ ones_cat 1 (n / 2) (n % 2) (omega arith) in
    let half : n / 2 < 2 ^ digits = omega (arith, h, pow-suc 2 digits) in
    let above : ones (n / 2) ≡ count_by (has (n / 2)) (range_with_len 1 digits) = ones_has digits (n / 2) half in
    let lowest : ones (n % 2) ≡ p 1 = ones_digit (n % 2) (omega arith) ∙ ap (λ bit. cond (nat_eq bit 1) 1 0) (sym (bit_at_lowest n)) in
    let whole : sum_by p (range_with_len 1 (suc digits)) ≡ p 1 + sum_by p (range_with_len 2 digits) = sum_by-cons p 1 (range_with_len 2 digits) in
    let moved : sum_by p (range_with_len 2 digits) ≡ count_by (has (n / 2)) (range_with_len 1 digits) = shifted digits 1 n (omega arith) in
    parts ∙ ap (λ x. x + ones (n % 2)) (above ∙ sym moved) ∙ ap (λ x. sum_by p (range_with_len 2 digits) + x) lowest ∙ add_comm (sum_by p (range_with_len 2 digits)) (p 1) ∙ sym whole

-- the ones of the flags are the members
pub ones_members : (n : ℕ) → n < 2 ^ 64 → ones n ≡ count_by (has n) node_numbers
unfolding node_numbers
ones_members n h = ones_has 64 n h
