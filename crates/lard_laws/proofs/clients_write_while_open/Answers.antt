-- By what each move tells of its client.
use Rattle.lard_laws.proofs.ClientsWriters.{writers-are}
use Rattle.lard_laws.proofs.clients_write_while_open.Goals as goal

pub returns : goal.returns
returns c = writers-are
