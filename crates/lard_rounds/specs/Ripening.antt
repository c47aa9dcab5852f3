-- What is on its way after a round was sent in it, so it is as all that is sent in a round is.
use Rattle.std.specs.Prelude.{ℕ, ◌<◌, ◌≤◌, ◌⊎◌}
use Rattle.lard_rounds.specs.Rounds.{Game}

module _ {M J : Type 0} (g : Game M J) where
  -- Of a step from m to n: what waits after it waited before, and is then as it was, or is new, and as `After` says.
  pub record Turns (Good : M → Type 0) (Before After : M → ℕ → Type 0) (m n : M) : Type 0 where
    pub good : Good n
    pub more : g.sent m ≤ g.sent n
    pub way : (k : ℕ) → g.on_way n k → (g.on_way m k × (Before m k → Before n k) × (After m k → After n k)) ⊎ ((g.sent m < k) × After n k)

  -- What a packet sends that is as `Before` says, and what a job or a timer sends, is as `After` says.
  pub record Ripens (Good : M → Type 0) (Before After : M → ℕ → Type 0) : Type 0 where
    pub packets : (m n : M) (k : ℕ) → Good m → g.on_way m k → Before m k → g.delivers m k n → Turns Good Before After m n
    pub jobs : (m n : M) (j : J) → Good m → g.queued m j → g.completes m j n → Turns Good Before After m n
    pub timers : (m n : M) → Good m → g.fires m n → Turns Good Before After m n
    pub are_timers : (m n : M) → g.begins m n → g.fires m n
    pub known : (m : M) (k : ℕ) → Good m → g.on_way m k → k ≤ g.sent m
