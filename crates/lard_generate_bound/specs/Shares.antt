-- What of all actions is one client's: what its own actions cost, and the files that it asked for and wrote a request for.
use Rattle.std.specs.Prelude.{◌≡◌, ℕ, zero, suc, ◌+◌, ◌≤◌, List, [], ◌∷◌, ◌++◌, All, sum_by, nat_eq, if◌then◌else◌}
use Rattle.lard_generate.specs.declared.action.Action.{Action}
use Rattle.lard_generate.specs.declared.action.Action.TheVariants.{Ask, Shut}
use Rattle.lard_generate_bound.specs.Heads.{IsFileNumber, heads}

-- the client of an action
abbrev pub actor : Action → ℕ
actor (Ask c file) = c
actor (Shut c) = c

-- an action's cost where it is of client c
abbrev pub share : ℕ → (Action → ℕ) → Action → ℕ
share c cost action = if nat_eq (actor action) c then cost action else 0

-- 1, 2, .., n
abbrev pub numbers_to : ℕ → List ℕ
numbers_to zero = []
numbers_to (suc n) = numbers_to n ++ (n + 1) ∷ []

-- What client c wrote in these actions: requests for files, which cost no more than what it asked for.
pub record Wrote (c : ℕ) (actions : List Action) (old new : List ℕ) : Type 0 where
  pub files : List ℕ
  pub small : All IsFileNumber files
  pub is : new ≡ old ++ heads files
  pub fewer : (cost : Action → ℕ) → sum_by (λ file. cost (Ask c file)) files ≤ sum_by (share c cost) actions
