-- A loop: turns from state to state until one is the last. The definition counts them by a number that falls.
use Rattle.std.specs.Prelude.{ℕ, zero, suc, ◌+◌, Bool, true, false}

-- what a turn gives: the state from which the next goes on, or the last state
pub data Step (X : Type 0) : Type 0 where
  More : X → Step X
  Done : X → Step X

module _ {X : Type 0} where
  -- as code says it: whether it goes on, and the state
  abbrev pub step_of : Bool → X → Step X
  step_of true x = More x
  step_of false x = Done x

  -- the state, whichever it is
  abbrev pub state_of : Step X → X
  state_of (More x) = x
  state_of (Done x) = x

  -- at most so many turns
  unfoldable pub runs_on : ℕ → (X → Step X) → X → X
  runs_on zero turn x = x
  runs_on (suc n) turn x = elim (turn x) [
    | More y ↦ runs_on n turn y
    | Done y ↦ y
  ]

  abbrev pub runs : (X → Step X) → (X → ℕ) → X → X
  runs turn left x = runs_on (left x + 1) turn x
