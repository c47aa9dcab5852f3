-- Every run can be written out.
use Rattle.lard_settling.proofs.Written.{written}
use Rattle.lard_settling.proofs.settles_are_written_out.Goals as goal

pub returns : goal.returns
returns c = written
