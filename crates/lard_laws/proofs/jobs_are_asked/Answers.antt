-- By what comes to a node.
use Rattle.lard_laws.proofs.BackingQueuing.{jobs-are-asked}
use Rattle.lard_laws.proofs.jobs_are_asked.Goals as goal

pub returns : goal.returns
returns c = record { queues = jobs-are-asked }
