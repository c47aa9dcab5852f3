-- By what each rule keeps.
use Rattle.lard_laws.proofs.WindowsEarlyRuns.{stays-early}
use Rattle.lard_laws.proofs.open_clients_sent_their_syn.Goals as goal

pub returns : goal.returns
returns c = stays-early
