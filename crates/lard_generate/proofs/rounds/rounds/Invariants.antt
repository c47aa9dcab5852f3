use Rattle.std.proofs.Common.{◌≡◌, ◌+◌, ◌*◌, take}
use Rattle.std.specs.Prelude.{sum_by}
use Rattle.lard_generate.specs.Rounds.{action_cost}
use Rattle.lard_generate.proofs.rounds.rounds.Given as goal

abbrev pub invariant-loop-action : goal.invariant-loop-action
invariant-loop-action l = l.total ≡ 128 * (l.clients + 1) + sum_by (action_cost l.sizes) (take l.action-index l.actions)
