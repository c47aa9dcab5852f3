-- An agenda that has noted nothing is one of each journal.
use Rattle.lard_agenda.proofs.Follows.{begun}
use Rattle.lard_tests_cluster.proofs.settle.run.Goals as goal

pub settle-requires-clause-agenda : goal.settle-requires-clause-agenda
settle-requires-clause-agenda c = rw c.requires.agenda (begun _)
