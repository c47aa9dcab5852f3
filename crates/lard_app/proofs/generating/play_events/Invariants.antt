use Rattle.std.proofs.Common.{◌≡◌, ◌+◌, ◌^◌, ◌<◌, false, length, All}
use Rattle.std.specs.Vec.Iter.{into_iter_items}
use Rattle.lard_agenda.specs.Agenda.{IsAgendaOf}
use Rattle.lard_schedule.specs.Events.{IsInLineRange}
use Rattle.lard_app.specs.Generate.{first_line, played}
use Rattle.lard_app.proofs.generating.play_events.Given as goal

-- what is left leads to what all of it leads to
abbrev pub invariant-loop-event : goal.invariant-loop-event
invariant-loop-event l = record {
  played : played l.line l.world.machine (into_iter_items l.event-iterator) ≡ played first_line l.fn.world.machine l.fn.events;
  usable : l.world.spoiled ≡ false;
  agenda : IsAgendaOf l.agenda l.world.machine.journal;
  range : All IsInLineRange (into_iter_items l.event-iterator);
  room : l.line + length (into_iter_items l.event-iterator) < 2 ^ 64;
}
