-- By what every rule keeps.
use Rattle.lard_laws.proofs.EndedRuns.{connections-were-closed}
use Rattle.lard_laws.proofs.what_ended_had_closed.Goals as goal

pub returns : goal.returns
returns c = connections-were-closed
