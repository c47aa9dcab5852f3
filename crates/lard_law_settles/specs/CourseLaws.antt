-- The cluster's machine comes to rest, where each of its steps owes what a machine that goes on by rounds owes.
use Rattle.std.specs.Prelude.{◌≡◌, ℕ, Bool, true}
use Rattle.lard_bound.specs.Units.{Whole}
use Rattle.lard_law_view.specs.Prelude.{Machine}
use Rattle.lard_law_settles.specs.CourseGame.{game}
use Rattle.lard_rounds.specs.Rounds.{ComesToRest, Owes}

-- No chain has five packets, and what timers send leads to a unit within three rounds: then nine rounds a unit suffice, and nine more.
-- What is known of a state is a test, since a contract cannot range over facts.
abbrev pub ClusterComesToRest : Type 0
ClusterComesToRest = (all : ℕ → Whole) (good : Machine → Bool) → Owes (game all (λ m. good m ≡ true)) 5 3 → ComesToRest (game all (λ m. good m ≡ true)) 5 3
