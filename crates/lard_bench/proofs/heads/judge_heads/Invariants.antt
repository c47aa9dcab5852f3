use Rattle.std.proofs.Common.{◌≤◌}
use Rattle.lard_bench.proofs.heads.judge_heads.Given as goal

abbrev pub invariant-loop-turn : goal.invariant-loop-turn
invariant-loop-turn l = l.served ≤ l._turn
