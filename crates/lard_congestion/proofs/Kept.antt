-- What the windows keep, whatever a sender is told.
use Rattle.std.proofs.Common.{◌≡◌, ℕ, ◌+◌, ◌*◌, ◌/◌, ◌<◌, ◌≤◌, min, max, Bool, true, false, List, [], ◌∷◌, length, cond, refl, ap, ◌∙◌, arith, nat_eq, nat_le, nat_lt}
use Rattle.std.proofs.Math.Nat.{div-le_of_le-mul, mul-le-mul_right}
use Rattle.std.proofs.lemmas.Bool.Decides.{nat_tests}
use Rattle.lard_congestion.specs.Windows.{Congested, first_window, window_made, window_grown, threshold_lowered, growth, after_new, is_third, after_same}
use Rattle.lard_congestion.specs.Laws.{Notice, New, Same, Fired, SynLost, after_notice, after_notices, after_duplicates, HoldsSegments}

-- ---- a segment has room

-- the sender's segment is mss, which fits, and its windows hold it
record Keeps (mss : ℕ) (s : Congested) : Type 0 where
  same : s.mss ≡ mss
  window : mss ≤ s.cwnd
  threshold : 2 * mss ≤ s.ssthresh

first-holds : (mss : ℕ) → mss ≤ first_window mss
first-holds mss = go (nat_le mss 1095) where
  go : (t : Bool) → mss ≤ cond t (4 * mss) (3 * mss)
  go true = omega arith
  go false = omega arith

new-keeps : (mss n : ℕ) (s : Congested) → mss ≤ 1460 → Keeps mss s → Keeps mss (after_new n s)
new-keeps mss n s few k = record { same = k.same; window = go (nat_le 3 s.dups); threshold = k.threshold } where
  go : (t : Bool) → mss ≤ cond t s.ssthresh (window_grown (growth n s) s.cwnd)
  go true = omega (arith, k.threshold)
  go false = omega (arith, k.window, few)

lowered-holds : (mss flight : ℕ) (s : Congested) → s.mss ≡ mss → 2 * mss ≤ threshold_lowered flight s.mss
lowered-holds mss flight s same = omega (arith, same)

same-keeps : (mss flight : ℕ) (s : Congested) → mss ≤ 1460 → Keeps mss s → Keeps mss (after_same flight s)
same-keeps mss flight s few k = record { same = k.same; window = go (is_third s) (nat_le 3 s.dups); threshold = high (is_third s) } where
  low : 2 * mss ≤ threshold_lowered flight s.mss
  low = lowered-holds mss flight s k.same

  go : (t u : Bool) → mss ≤ cond t (window_grown (3 * s.mss) (threshold_lowered flight s.mss)) (cond u (window_grown s.mss s.cwnd) s.cwnd)
  go true u = omega (arith, low, few)
  go false true = omega (arith, k.window, few)
  go false false = k.window

  high : (t : Bool) → 2 * mss ≤ cond t (threshold_lowered flight s.mss) s.ssthresh
  high true = low
  high false = k.threshold

notice-keeps : (mss : ℕ) (notice : Notice) (s : Congested) → mss ≤ 1460 → Keeps mss s → Keeps mss (after_notice notice s)
notice-keeps mss (New n) s few k = new-keeps mss n s few k
notice-keeps mss (Same flight) s few k = same-keeps mss flight s few k
notice-keeps mss (Fired flight true) s few k = record { same = k.same; window = omega (arith, k.same); threshold = k.threshold }
notice-keeps mss (Fired flight false) s few k = record { same = k.same; window = omega (arith, k.same); threshold = lowered-holds mss flight s k.same }
notice-keeps mss SynLost s few k = record { same = k.same; window = omega (arith, k.same); threshold = k.threshold }

notices-keep : (mss : ℕ) (notices : List Notice) (s : Congested) → mss ≤ 1460 → Keeps mss s → Keeps mss (after_notices notices s)
notices-keep mss [] s few k = k
notices-keep mss (notice ∷ notices) s few k = notices-keep mss notices (after_notice notice s) few (notice-keeps mss notice s few k)

pub segments-held : (mss : ℕ) (notices : List Notice) → 1 ≤ mss → mss ≤ 1460 → HoldsSegments (after_notices notices (window_made mss))
segments-held mss notices some few =
    let begins : Keeps mss (window_made mss) = record { same = refl; window = first-holds mss; threshold = omega (arith, few) } in
    let k = notices-keep mss notices (window_made mss) few begins in
    record { window = omega (arith, k.same, k.window); threshold = omega (arith, k.same, k.threshold) }

-- ---- the third duplicate

third-behind : (flights : List ℕ) (s : Congested) (n : ℕ) → s.dups ≡ min n 1073741824 → is_third (after_duplicates flights s) ≡ nat_eq (n + length flights) 2
third-behind [] s n e = grind (arith, nat_tests)
third-behind (flight ∷ flights) s n e =
    let one : min (s.dups + 1) 1073741824 ≡ min (n + 1) 1073741824 = omega (arith, e) in
    let sum : (n + 1) + length flights ≡ n + length (flight ∷ flights) = omega arith in
    third-behind flights (after_same flight s) (n + 1) one ∙ ap (λ m. nat_eq m 2) sum

pub third-alone : (s : Congested) (flights : List ℕ) → s.dups ≡ 0 → is_third (after_duplicates flights s) ≡ nat_eq (length flights) 2
third-alone s flights e =
    let none : s.dups ≡ min 0 1073741824 = omega (arith, e) in
    let sum : 0 + length flights ≡ length flights = omega arith in
    third-behind flights s 0 none ∙ ap (λ m. nat_eq m 2) sum

-- ---- growth

few-duplicates : (n : ℕ) (s : Congested) → s.dups < 3 → (after_new n s).cwnd ≡ window_grown (growth n s) s.cwnd
few-duplicates n s few = let t : nat_le 3 s.dups ≡ false = grind (arith, nat_tests) in ap (λ b. cond b s.ssthresh (window_grown (growth n s) s.cwnd)) t

growth-least : (n : ℕ) (s : Congested) → 1 ≤ n → 1 ≤ s.mss → 1 ≤ growth n s
growth-least n s some segment = go (nat_lt s.cwnd s.ssthresh) where
  go : (t : Bool) → 1 ≤ cond t (min n s.mss) (max (s.mss * s.mss / s.cwnd) 1)
  go true = omega (arith, some, segment)
  go false = omega arith

growth-most : (n : ℕ) (s : Congested) → 1 ≤ s.mss → s.mss ≤ s.cwnd → growth n s ≤ s.mss
growth-most n s segment holds = go (nat_lt s.cwnd s.ssthresh) where
  share : s.mss * s.mss / s.cwnd ≤ s.mss
  share = div-le_of_le-mul s.cwnd (mul-le-mul_right s.mss holds)

  go : (t : Bool) → cond t (min n s.mss) (max (s.mss * s.mss / s.cwnd) 1) ≤ s.mss
  go true = omega arith
  go false = omega (arith, share, segment)

pub grows-least : (n : ℕ) (s : Congested) → 1 ≤ n → 1 ≤ s.mss → s.dups < 3 → s.cwnd < 1073741824 → s.cwnd < (after_new n s).cwnd
grows-least n s some segment few small = omega (arith, few-duplicates n s few, growth-least n s some segment, small)

pub grows-most : (n : ℕ) (s : Congested) → 1 ≤ s.mss → s.mss ≤ s.cwnd → s.dups < 3 → (after_new n s).cwnd ≤ s.cwnd + s.mss
grows-most n s segment holds few = omega (arith, few-duplicates n s few, growth-most n s segment holds)
