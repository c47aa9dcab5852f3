use Rattle.std.proofs.Common.{◌≡◌}
use Rattle.lard_generate.specs.Clients.{drawn_open}
use Rattle.lard_generate.specs.Draws.{each}
use Rattle.lard_generate.proofs.opens.opens.Given as goal

abbrev pub invariant-loop-k : goal.invariant-loop-k
invariant-loop-k l = each drawn_open l.k l.initial.draws ≡ (l.events, l.draws)
