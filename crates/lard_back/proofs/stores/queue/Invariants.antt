use Rattle.std.proofs.Common.{◌≡◌, ◌+◌, ◌<◌, ◌^◌, ◌++◌, length}
use Rattle.std.specs.Vec.Iter.{into_iter_items}
use Rattle.lard_back.proofs.stores.queue.Given as goal

-- the jobs that were queued and those that are left are all
abbrev pub invariant-loop-job : goal.invariant-loop-job
invariant-loop-job l = record {
  all : l.disk ++ into_iter_items l.job-iterator ≡ l.fn.disk ++ l.fn.jobs;
  few : length l.disk + length (into_iter_items l.job-iterator) < 2 ^ 32;
}
