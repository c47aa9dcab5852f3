use Rattle.std.proofs.Common.{◌≡◌}
use Rattle.lard_bench.proofs.loads.open_eight.Given as goal

abbrev pub invariant-loop : goal.invariant-loop
invariant-loop l = l.loads.nodes ≡ l.initial.loads.nodes
