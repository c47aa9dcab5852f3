-- It is of the records noted so far.
use Rattle.std.proofs.Common.{◌-◌, length}
use Rattle.lard_agenda.specs.Agenda.{IsAgendaOf}
use Rattle.lard_agenda.proofs.agenda.Agenda.follow.Given as goal

abbrev pub invariant-loop-self : goal.invariant-loop-self
invariant-loop-self l = IsAgendaOf l.self l.records

abbrev pub decreases-loop-self : goal.decreases-loop-self
decreases-loop-self l = length l.records - l.self.noted
