use Rattle.std.proofs.Common.{◌≡◌}
use Rattle.lard_tests_policy.proofs.loads.with_five.Given as goal

abbrev pub invariant-loop-c : goal.invariant-loop-c
invariant-loop-c l = l.loads.nodes ≡ 3
