-- What was listed and what is left are all of them.
use Rattle.std.proofs.Common.{◌≡◌, ◌++◌, map}
use Rattle.lard_agenda.specs.Agenda.{due, free_of}
use Rattle.lard_agenda.proofs.agenda.Agenda.due.Given as goal

abbrev pub invariant-loop-running : goal.invariant-loop-running
invariant-loop-running l = l.seats ++ map (λ r. (r.place, r.c)) (free_of l.line l.running-iterator) ≡ due l.line l.self
