-- By what each rule keeps.
use Rattle.lard_laws.proofs.WindowsWordRuns.{clients-start}
use Rattle.lard_laws.proofs.clients_start.Goals as goal

pub returns : goal.returns
returns c = clients-start
