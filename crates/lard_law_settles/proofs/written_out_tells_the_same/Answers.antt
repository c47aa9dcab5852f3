-- Step by step.
use Rattle.lard_law_settles.proofs.DoneSame.{tells-the-same}
use Rattle.lard_law_settles.proofs.written_out_tells_the_same.Goals as goal

pub returns : goal.returns
returns c = record { same = tells-the-same }
