use Rattle.std.proofs.Common.{◌≡◌}
use Rattle.lard_bench.proofs.loads.come_and_go.Given as goal

abbrev pub invariant-loop : goal.invariant-loop
invariant-loop l = l.loads.nodes ≡ 64
