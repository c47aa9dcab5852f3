-- By what each rule keeps.
use Rattle.lard_law_connections.proofs.SilenceRuns.{connections-have-spoken}
use Rattle.lard_law_connections.proofs.nothing_is_left_to_say.Goals as goal

pub returns : goal.returns
returns c = connections-have-spoken
