-- By what holds of every state.
use Rattle.lard_law_connections.proofs.JobsRuns.{reads-are-jobs, reads-are-queued}
use Rattle.lard_law_connections.proofs.what_is_read_is_a_job.Goals as goal

pub returns-clause-jobs : goal.returns-clause-jobs
returns-clause-jobs c = reads-are-jobs

pub returns-clause-told : goal.returns-clause-told
returns-clause-told c = reads-are-queued
