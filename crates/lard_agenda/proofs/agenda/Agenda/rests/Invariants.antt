-- All that were passed over are stalled.
use Rattle.std.proofs.Common.{◌≡◌}
use Rattle.lard_agenda.specs.Agenda.{firing, free_of}
use Rattle.lard_agenda.proofs.agenda.Agenda.rests.Given as goal

abbrev pub invariant-loop-running : goal.invariant-loop-running
invariant-loop-running l =
    (goal.iterator-loop-running).can_next l.running-iterator ×
    (goal.iterator-loop-running).is_finite l.running-iterator ×
    (free_of l.line l.running-iterator ≡ firing l.line l.self)
