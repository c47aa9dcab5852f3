-- By what holds of every state.
use Rattle.lard_law_connections.proofs.PolicyCounted.{admits-by-room, admits-in-order, admits-to-a-node, releases-what-it-took, standings-are-told, stays-within}
use Rattle.lard_law_connections.proofs.admission_is_counted.Goals as goal

pub returns-clause-records : goal.returns-clause-records
returns-clause-records c = admits-by-room

pub returns-clause-room : goal.returns-clause-room
returns-clause-room c = stays-within

pub returns-clause-nodes : goal.returns-clause-nodes
returns-clause-nodes c = admits-to-a-node

pub returns-clause-order : goal.returns-clause-order
returns-clause-order c = admits-in-order

pub returns-clause-releases : goal.returns-clause-releases
returns-clause-releases c = releases-what-it-took

pub returns-clause-standings : goal.returns-clause-standings
returns-clause-standings c = standings-are-told
