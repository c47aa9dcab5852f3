-- Those that were counted and those that are left are all of them; a seat has at most six.
use Rattle.std.proofs.Common.{◌≡◌, ◌+◌, ◌*◌, ◌≤◌, ◌^◌, length}
use Rattle.lard_agenda.specs.Agenda.{free_of, kinds_in, timers_left}
use Rattle.lard_agenda.proofs.agenda.Agenda.timers_left.Given as goal

abbrev pub invariant-loop-running : goal.invariant-loop-running
invariant-loop-running l =
    (goal.iterator-loop-running).can_next l.running-iterator ×
    (goal.iterator-loop-running).is_finite l.running-iterator ×
    (l.left + kinds_in (free_of l.line l.running-iterator) ≡ timers_left l.line l.self) ×
    (l.left + 6 * length l.running-iterator ≤ 6 * 2 ^ 32)
