-- What was listed and what is left are all of them.
use Rattle.std.proofs.Common.{◌≡◌, ◌++◌}
use Rattle.lard_agenda.specs.Agenda.{on_way}
use Rattle.lard_agenda.proofs.agenda.Agenda.on_way.Given as goal

abbrev pub invariant-loop-k : goal.invariant-loop-k
invariant-loop-k l = l.packets ++ l.k-iterator ≡ on_way l.self
