-- The next number stays within its range.
use Rattle.std.proofs.Common.{◌<◌, ◌^◌}
use Rattle.lard_bench.proofs.lookups.look_up.Given as goal

abbrev pub invariant-loop-turn : goal.invariant-loop-turn
invariant-loop-turn l = l.seed < 2 ^ 31
