-- The jobs of a disk, the oldest first.
use Rattle.std.specs.Prelude.{ℕ, ◌-◌, nat_eq, List, remove, if◌then◌else◌}
use Rattle.lard_counts.specs.Stores.{Waiting}
use Rattle.lard_audit.specs.declared.queue.Job.{Job}

-- a job as the journal tells it
abbrev pub audit_told : Job → Waiting
audit_told job = (job.m, job.c, job.r, job.path)

-- the jobs once the j-th is read; where there is none they are as they were
abbrev pub audit_without_job : List Job → ℕ → List Job
audit_without_job jobs j = if nat_eq j 0 then jobs else remove jobs (j - 1)
