-- The pairs so far, and those behind them, are all.
use Rattle.std.proofs.Common.{◌≡◌, ◌≤◌, ◌+◌, ◌-◌, length, drop}
use Rattle.lard_block.specs.Blocks.{skipped}
use Rattle.lard_block.proofs.block.leading_pairs.Given as goal

abbrev pub invariant-loop-skip : goal.invariant-loop-skip
invariant-loop-skip l = (l.skip ≤ length l.bytes) × (skipped l.bytes ≡ l.skip + skipped (drop l.skip l.bytes))

abbrev pub decreases-loop-skip : goal.decreases-loop-skip
decreases-loop-skip l = length l.bytes - l.skip
