-- What a sender is told, one behind the other; and what its windows never fall below.
use Rattle.std.specs.Prelude.{ℕ, ◌*◌, ◌≤◌, Bool, List, [], ◌∷◌}
use Rattle.lard_congestion.specs.Windows.{Congested, after_new, after_same, after_firing, after_lost_syn}

-- what a sender is told: an acknowledgement that is new, a duplicate, a timer, or that the SYN was lost
pub data Notice : Type 0 where
  New : ℕ → Notice
  Same : ℕ → Notice
  Fired : ℕ → Bool → Notice
  SynLost : Notice

abbrev pub after_notice : Notice → Congested → Congested
after_notice (New n) s = after_new n s
after_notice (Same flight) s = after_same flight s
after_notice (Fired flight again) s = after_firing flight again s
after_notice SynLost s = after_lost_syn s

abbrev pub after_notices : List Notice → Congested → Congested
after_notices [] s = s
after_notices (notice ∷ notices) s = after_notices notices (after_notice notice s)

-- duplicates in a row, each with what is on its way then
abbrev pub after_duplicates : List ℕ → Congested → Congested
after_duplicates [] s = s
after_duplicates (flight ∷ flights) s = after_duplicates flights (after_same flight s)

-- the window has room for a segment, and the threshold for two
pub record HoldsSegments (s : Congested) : Type 0 where
  pub window : s.mss ≤ s.cwnd
  pub threshold : 2 * s.mss ≤ s.ssthresh
