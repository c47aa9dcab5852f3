-- By what each rule keeps.
use Rattle.lard_laws.proofs.WindowsForwards.{forwards-were}
use Rattle.lard_laws.proofs.forwards_come_from_clients.Goals as goal

pub returns : goal.returns
returns c = forwards-were
