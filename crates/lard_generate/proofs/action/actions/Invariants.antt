use Rattle.std.proofs.Common.{◌≡◌}
use Rattle.lard_generate.specs.Clients.{drawn_actions}
use Rattle.lard_generate.specs.Draws.{each}
use Rattle.lard_generate.proofs.action.actions.Given as goal

abbrev pub invariant-loop-k : goal.invariant-loop-k
invariant-loop-k l = each drawn_actions l.k l.initial.draws ≡ (l.actions, l.draws)
