-- By what holds of the dispatcher's calls.
use Rattle.lard_law_connections.proofs.LineBounds.{connections-stay-few, never-all-busy}
use Rattle.lard_law_connections.proofs.connections_are_told.Goals as goal

pub returns-clause-most : goal.returns-clause-most
returns-clause-most c = connections-stay-few

pub returns-clause-few : goal.returns-clause-few
returns-clause-few c = never-all-busy
