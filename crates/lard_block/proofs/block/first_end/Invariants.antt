-- The first end behind this place is the first of all.
use Rattle.std.proofs.Common.{◌≡◌, ◌+◌, drop}
use Rattle.std.specs.Option.{option_map}
use Rattle.lard_block.specs.Blocks.{head_end}
use Rattle.lard_block.proofs.block.first_end.Given as goal

abbrev pub invariant-loop-at : goal.invariant-loop-at
invariant-loop-at l = head_end l.bytes ≡ option_map (λ n. n + l.at) (head_end (drop l.at l.bytes))
