-- What was listed and what is left are all of them.
use Rattle.std.proofs.Common.{◌≡◌, ◌++◌}
use Rattle.lard_agenda.specs.Agenda.{holders}
use Rattle.lard_agenda.proofs.agenda.Agenda.holders.Given as goal

abbrev pub invariant-loop-c : goal.invariant-loop-c
invariant-loop-c l = l.clients ++ l.c-iterator ≡ holders l.self
