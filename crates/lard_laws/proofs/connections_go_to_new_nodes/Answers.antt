-- By the induction over the machine's steps.
use Rattle.lard_law_connections.proofs.PastChoices.{firsts-are-open}
use Rattle.lard_law_connections.proofs.PastClosed.{connections-go-to-new, past-is-closed}
use Rattle.lard_laws.proofs.connections_go_to_new_nodes.Goals as goal

pub returns-clause-firsts : goal.returns-clause-firsts
returns-clause-firsts c = firsts-are-open

pub returns-clause-past : goal.returns-clause-past
returns-clause-past c = past-is-closed

pub returns-clause-goes : goal.returns-clause-goes
returns-clause-goes c = connections-go-to-new
