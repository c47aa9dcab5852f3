-- Without memory nothing was read.
use Rattle.lard_app.proofs.Reading.{reads-nothing}
use Rattle.lard_app.proofs.commands.replay.Goals as goal

pub returns-in-Err-clause-reads : goal.returns-in-Err-clause-reads
returns-in-Err-clause-reads g c = reads-nothing _ _

pub returns-in-Err-new-clause-reads : goal.returns-in-Err-new-clause-reads
returns-in-Err-new-clause-reads g c = reads-nothing _ _
