-- By the shapes of a step, and whether the node is there.
use Rattle.lard_laws.proofs.RecordsThere.{only-nodes}
use Rattle.lard_laws.proofs.only_nodes_that_are_there_act.Goals as goal

pub returns : goal.returns
returns c = record { nodes = only-nodes }
