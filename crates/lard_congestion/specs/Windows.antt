-- The windows of one sender, in whole bytes (RFC 5681, 3.1 and 3.2).
use Rattle.std.specs.Prelude.{ℕ, ◌+◌, ◌*◌, ◌/◌, ◌≤◌, min, max, Bool, nat_eq, nat_le, nat_lt, if◌then◌else◌}
use Rattle.lard_base.specs.declared.limits.TheConstants.{MAX_SEGMENT_DATA}
use Rattle.lard_congestion.specs.declared.congestion.TheConstants.{MAX_WINDOW}

-- what is kept of a sender
pub record Congested : Type 0 where
  pub mss : ℕ  -- SMSS, the most bytes of a segment
  pub cwnd : ℕ  -- the congestion window
  pub ssthresh : ℕ  -- the slow start threshold
  pub dups : ℕ  -- duplicates since what is acknowledged was last new

-- what holds of every sender
pub record IsCongested (s : Congested) : Type 0 where
  pub segment : (1 ≤ s.mss) × (s.mss ≤ MAX_SEGMENT_DATA)
  pub window : (1 ≤ s.cwnd) × (s.cwnd ≤ MAX_WINDOW)
  pub threshold : (1 ≤ s.ssthresh) × (s.ssthresh ≤ MAX_WINDOW)
  pub count : s.dups ≤ MAX_WINDOW

-- the first window: four segments of at most 1,095 bytes, or three larger ones (3.1)
abbrev pub first_window : ℕ → ℕ
first_window mss = if nat_le mss 1095 then 4 * mss else 3 * mss

abbrev pub window_made : ℕ → Congested
window_made mss = record { mss = mss; cwnd = first_window mss; ssthresh = MAX_WINDOW; dups = 0 }

-- a sender that goes on elsewhere
abbrev pub window_restored : ℕ → ℕ → ℕ → Congested
window_restored mss cwnd ssthresh = record { mss = mss; cwnd = cwnd; ssthresh = ssthresh; dups = 0 }

-- so many bytes more; sums stop at 2^30
abbrev pub window_grown : ℕ → ℕ → ℕ
window_grown n cwnd = min (cwnd + n) MAX_WINDOW

-- the threshold behind a loss: half of what is on its way, and two segments at least (3.1, equation 4)
abbrev pub threshold_lowered : ℕ → ℕ → ℕ
threshold_lowered flight mss = max (flight / 2) (2 * mss)

-- ---- n symbols, the SYN not among them, are acknowledged for the first time

-- slow start below the threshold, and congestion avoidance from it on (3.1, equations 2 and 3)
abbrev pub growth : ℕ → Congested → ℕ
growth n s = if nat_lt s.cwnd s.ssthresh then min n s.mss else max (s.mss * s.mss / s.cwnd) 1

-- behind three duplicates what the window was widened by is taken off again (3.2, step 6)
abbrev pub window_behind_new : ℕ → Congested → ℕ
window_behind_new n s = if nat_le 3 s.dups then s.ssthresh else window_grown (growth n s) s.cwnd

abbrev pub after_new : ℕ → Congested → Congested
after_new n s = record s { cwnd = window_behind_new n s; dups = 0 }

-- ---- a duplicate comes, with so many symbols on their way

-- it is the third, which is answered by sending again (3.2, steps 2 and 3)
abbrev pub is_third : Congested → Bool
is_third s = nat_eq s.dups 2

-- the third leaves three segments more than the threshold, and each further one a segment more than before (3.2, steps 3 and 4)
abbrev pub window_behind_same : ℕ → Congested → ℕ
window_behind_same flight s =
    if is_third s then window_grown (3 * s.mss) (threshold_lowered flight s.mss) else
    if nat_le 3 s.dups then window_grown s.mss s.cwnd else
    s.cwnd

abbrev pub threshold_behind_same : ℕ → Congested → ℕ
threshold_behind_same flight s = if is_third s then threshold_lowered flight s.mss else s.ssthresh

abbrev pub after_same : ℕ → Congested → Congested
after_same flight s = record s { cwnd = window_behind_same flight s; ssthresh = threshold_behind_same flight s; dups = min (s.dups + 1) MAX_WINDOW }

-- ---- a timer fires, with so many symbols on their way; again, where nothing was newly acknowledged since it fired before

abbrev pub threshold_behind_timer : ℕ → Bool → Congested → ℕ
threshold_behind_timer flight again s = if again then s.ssthresh else threshold_lowered flight s.mss

abbrev pub after_firing : ℕ → Bool → Congested → Congested
after_firing flight again s = record s { cwnd = s.mss; ssthresh = threshold_behind_timer flight again s; dups = 0 }

-- the SYN was lost
abbrev pub after_lost_syn : Congested → Congested
after_lost_syn s = record s { cwnd = s.mss }
