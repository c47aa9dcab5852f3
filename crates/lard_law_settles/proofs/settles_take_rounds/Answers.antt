-- Step by step.
use Rattle.lard_law_settles.proofs.RoundsRuns.{take-rounds}
use Rattle.lard_law_settles.proofs.settles_take_rounds.Goals as goal

pub returns : goal.returns
returns c = record { rounds = take-rounds }
