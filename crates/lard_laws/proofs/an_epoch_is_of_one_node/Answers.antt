-- By what each rule keeps.
use Rattle.lard_law_connections.proofs.PastRuns.{each-end-is-of-its-stay, each-epoch-is-of-one-node}
use Rattle.lard_laws.proofs.an_epoch_is_of_one_node.Goals as goal

pub returns-clause-epochs : goal.returns-clause-epochs
returns-clause-epochs c = each-epoch-is-of-one-node

pub returns-clause-ends : goal.returns-clause-ends
returns-clause-ends c = each-end-is-of-its-stay
