use Rattle.std.proofs.Common.{◌≡◌}
use Rattle.lard_generate.specs.Clients.{drawn_fate}
use Rattle.lard_generate.specs.Draws.{each}
use Rattle.lard_generate.proofs.syns.fates.Given as goal

abbrev pub invariant-loop-k : goal.invariant-loop-k
invariant-loop-k l = each drawn_fate l.k l.initial.draws ≡ (l.events, l.draws)
