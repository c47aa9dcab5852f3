-- The jobs of a disk, the oldest first.
use Rattle.std.specs.Prelude.{ℕ, ◌-◌, Bool, ◌==◌, ◌&&◌, List, remove, slice_get, Option, None, if◌then◌else◌}
use Rattle.lard_disk.specs.declared.disk.Job.{Job}

-- a job is for this request of the connection, in this epoch
abbrev pub is_for : ℕ → ℕ → ℕ → Job → Bool
is_for c epoch r job = job.c == c && job.epoch.0 == epoch && job.r == r

-- the j-th job from the oldest, counted from 1, if there is one
abbrev pub job_at : List Job → ℕ → Option Job
job_at jobs j = if j == 0 then None else slice_get jobs (j - 1)

-- the jobs once the j-th is completed; where there is none they are as they were
abbrev pub without_job : List Job → ℕ → List Job
without_job jobs j = if j == 0 then jobs else remove jobs (j - 1)
