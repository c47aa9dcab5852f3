use Rattle.std.proofs.Common.{◌≡◌}
use Rattle.lard_tests_policy.proofs.loads.fill.Given as goal

abbrev pub invariant-loop-below : goal.invariant-loop-below
invariant-loop-below l = l.loads.nodes ≡ 64
