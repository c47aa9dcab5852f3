use Rattle.std.proofs.Common.{◌≡◌}
use Rattle.lard_tests_policy.proofs.loads.first_wrong.Given as goal

abbrev pub invariant-loop-at : goal.invariant-loop-at
invariant-loop-at l = l.loads.nodes ≡ 2
