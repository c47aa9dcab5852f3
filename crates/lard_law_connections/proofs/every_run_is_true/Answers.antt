-- By what each rule keeps.
use Rattle.lard_law_connections.proofs.BytesRuns.{clients-accept, journals-serve, journals-tell, states-truthful}
use Rattle.lard_law_connections.proofs.every_run_is_true.Goals as goal

pub returns : goal.returns
returns c = record { states = states-truthful; tells = journals-tell; serves = journals-serve; prefix = clients-accept }
