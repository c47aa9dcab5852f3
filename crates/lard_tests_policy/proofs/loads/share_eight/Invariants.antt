use Rattle.std.proofs.Common.{◌≡◌}
use Rattle.lard_tests_policy.proofs.loads.share_eight.Given as goal

abbrev pub invariant-loop : goal.invariant-loop
invariant-loop l = l.loads.nodes ≡ 64
