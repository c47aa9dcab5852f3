-- The rounds, action by action.
use Rattle.std.proofs.Common.{◌≡◌, ℕ, ◌+◌, ◌*◌, List, [], ◌∷◌, refl, arith}
use Rattle.std.specs.Prelude.{sum_by}
use Rattle.std.proofs.lemmas.List.Sums.{sum_by-cons}
use Rattle.lard_generate.specs.declared.action.Action.{Action}
use Rattle.lard_generate.specs.Clients.{requests_written, bytes_written, answer_bytes_of, rounds}
use Rattle.lard_generate.specs.Rounds.{action_cost}

sum_by-cost : (sizes : List ℕ) (actions : List Action)
    → sum_by (action_cost sizes) actions ≡ 64 * sum_by requests_written actions + 16 * (sum_by bytes_written actions + sum_by (answer_bytes_of sizes) actions)
sum_by-cost sizes [] = refl
sum_by-cost sizes (action ∷ actions) =
    omega (
      arith,
      sum_by-cons (action_cost sizes) action actions,
      sum_by-cons requests_written action actions,
      sum_by-cons bytes_written action actions,
      sum_by-cons (answer_bytes_of sizes) action actions,
      sum_by-cost sizes actions,
    )

pub rounds_by_cost : (clients : ℕ) (sizes : List ℕ) (actions : List Action) → rounds clients sizes actions ≡ 128 * (clients + 1) + sum_by (action_cost sizes) actions
rounds_by_cost clients sizes actions = omega (arith, sum_by-cost sizes actions)
