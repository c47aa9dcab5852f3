-- By low seats, and short disks.
use Rattle.lard_law_settles.proofs.SettlesFew.{few-left}
use Rattle.lard_law_settles.proofs.few_are_left.Goals as goal

pub returns : goal.returns
returns c = record { few = few-left }
