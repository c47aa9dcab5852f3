-- The jobs that were counted and those of the nodes that are left are all of them.
use Rattle.std.proofs.Common.{◌≡◌, ◌+◌, ◌-◌, ◌*◌, ◌^◌, ◌≤◌}
use Rattle.lard_settling.specs.Settling.{jobs_left}
use Rattle.lard_settling.specs.Left.{jobs_from}
use Rattle.lard_settle.proofs.left.jobs_left.Given as goal

abbrev pub invariant-loop-at : goal.invariant-loop-at
invariant-loop-at l = record {
  count : l.left + jobs_from l.world.machine (l.at + 1) (l.world.machine.config.nodes - l.at) ≡ jobs_left l.world.machine;
  few : l.left ≤ l.at * 2 ^ 32;
}
