use Rattle.std.proofs.Common.{◌≡◌, false}
use Rattle.lard_tests_cluster.proofs.world.run.Given as goal

-- memory sufficed so far
abbrev pub invariant-loop-step : goal.invariant-loop-step
invariant-loop-step l = l.world.spoiled ≡ false
