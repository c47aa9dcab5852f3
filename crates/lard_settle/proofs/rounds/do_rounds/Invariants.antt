-- The rounds that were done and those that are left are all of them.
use Rattle.std.proofs.Common.{◌≡◌, ◌-◌, false}
use Rattle.lard_agenda.specs.Agenda.{IsAgendaOf}
use Rattle.lard_settling.specs.Settling.{IsFrontOf, rounds_from}
use Rattle.lard_settle.proofs.rounds.do_rounds.Given as goal

abbrev pub invariant-loop-done : goal.invariant-loop-done
invariant-loop-done l = record {
  does : rounds_from l.fn.rounds 0 l.fn.world.machine ≡ rounds_from (l.fn.rounds - l.done) l.done l.world.machine;
  usable : l.world.spoiled ≡ false;
  grows : IsFrontOf l.fn.world.machine.journal l.world.machine.journal;
  agenda : IsAgendaOf l.agenda l.world.machine.journal;
}
