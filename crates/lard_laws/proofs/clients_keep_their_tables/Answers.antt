-- By what each move makes of what its client saw.
use Rattle.lard_laws.proofs.ClientsTables.{clients-keep}
use Rattle.lard_laws.proofs.clients_keep_their_tables.Goals as goal

pub returns : goal.returns
returns c = clients-keep
