use Rattle.std.proofs.Common.{◌≡◌}
use Rattle.lard_tests_policy.proofs.loads.first_that_differs.Given as goal

abbrev pub invariant-loop-turn : goal.invariant-loop-turn
invariant-loop-turn l = l.loads.nodes ≡ 64
