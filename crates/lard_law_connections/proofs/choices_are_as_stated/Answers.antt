-- By what holds of every state.
use Rattle.lard_law_connections.proofs.PolicyCounted.{assigns-as-stated, loads-are-charges, servers-are-told, shares-one-batch}
use Rattle.lard_law_connections.proofs.choices_are_as_stated.Goals as goal

pub returns-clause-choices : goal.returns-clause-choices
returns-clause-choices c = assigns-as-stated

pub returns-clause-loads : goal.returns-clause-loads
returns-clause-loads c = loads-are-charges

pub returns-clause-servers : goal.returns-clause-servers
returns-clause-servers c = servers-are-told

pub returns-clause-batches : goal.returns-clause-batches
returns-clause-batches c = shares-one-batch
