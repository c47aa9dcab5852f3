-- So many are listed.
use Rattle.std.proofs.Common.{◌≡◌, replicate}
use Rattle.lard_base.specs.declared.event.Event.TheVariants as event
use Rattle.lard_settle.proofs.lists.completions_of.Given as goal

abbrev pub invariant-loop-job : goal.invariant-loop-job
invariant-loop-job l = l.events ≡ replicate l._job (event.Disk l.fn.n 1)
