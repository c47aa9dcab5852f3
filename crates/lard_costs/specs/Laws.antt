-- What holds of every later choice.
use Rattle.std.specs.Prelude.{◌≡◌, ℕ, true, false, List, [], ◌∷◌, ◌++◌}
use Rattle.lard_base.specs.declared.config.Config.{Config}
use Rattle.lard_loads.specs.Tally.{Tally}
use Rattle.lard_costs.specs.declared.cost.Cost.{Cost}
use Rattle.lard_costs.specs.Costs.{cost_at, is_less}
use Rattle.lard_costs.specs.Later.{stays, members_of, later_choice}

-- each of these costs more than n
abbrev pub CostMore : (ℕ → Cost) → ℕ → List ℕ → Type 0
CostMore cost n [] = Unit {0}
CostMore cost n (m ∷ ms) = (is_less (cost n) (cost m) ≡ true) × CostMore cost n ms

-- none of these costs less than n
abbrev pub CostNoLess : (ℕ → Cost) → ℕ → List ℕ → Type 0
CostNoLess cost n [] = Unit {0}
CostNoLess cost n (m ∷ ms) = (is_less (cost m) (cost n) ≡ false) × CostNoLess cost n ms

-- Of some candidates in a row, n costs the least, and stands before all others that cost as much.
pub record IsFirstCheapest (cost : ℕ → Cost) (candidates : List ℕ) (n : ℕ) : Type 0 where
  pub front : List ℕ
  pub back : List ℕ
  pub stands : candidates ≡ front ++ n ∷ back
  pub more : CostMore cost n front
  pub no_less : CostNoLess cost n back

-- A request that does not stay goes to the cheapest of the connection's node and the members: at a tie to the
-- connection's node, then to the lowest number. So `Over` is taken only where all are `Over`.
abbrev pub TakesTheCheapest : Type 0
TakesTheCheapest = (t : Tally) (h set queue : ℕ) (cfg : Config) → stays h set queue ≡ false
    → IsFirstCheapest (cost_at t cfg set) (h ∷ members_of set) (later_choice t h set queue cfg).node

-- A request stays at the connection's node where that serves the target, or has a short disk queue.
abbrev pub StaysAtHome : Type 0
StaysAtHome = (t : Tally) (h set queue : ℕ) (cfg : Config) → stays h set queue ≡ true → (later_choice t h set queue cfg).node ≡ h
