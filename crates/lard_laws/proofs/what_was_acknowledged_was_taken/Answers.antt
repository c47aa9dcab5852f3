-- By what every rule keeps.
use Rattle.lard_laws.proofs.AcksRuns.{connections-ack}
use Rattle.lard_laws.proofs.what_was_acknowledged_was_taken.Goals as goal

pub returns : goal.returns
returns c = connections-ack
