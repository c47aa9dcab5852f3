use Rattle.std.proofs.Common.{◌≡◌}
use Rattle.lard_generate.specs.Clients.{drawn_ask}
use Rattle.lard_generate.specs.Draws.{each}
use Rattle.lard_generate.proofs.action.asks.Given as goal

abbrev pub invariant-loop-j : goal.invariant-loop-j
invariant-loop-j l = each (drawn_ask l.c) l._j l.initial.draws ≡ (l.asks, l.draws)
