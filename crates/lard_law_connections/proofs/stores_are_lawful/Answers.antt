-- By what holds of every state, and of every step.
use Rattle.lard_law_connections.proofs.StoresDisks.{disks-read}
use Rattle.lard_law_connections.proofs.StoresStored.{lawful}
use Rattle.lard_law_connections.proofs.stores_are_lawful.Goals as goal

pub returns : goal.returns
returns c = record { law = lawful; reads = disks-read }
