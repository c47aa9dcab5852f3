use Rattle.std.proofs.Common.{◌≡◌, ◌+◌, ◌-◌, false}
use Rattle.lard_agenda.specs.Agenda.{IsAgendaOf}
use Rattle.lard_law_view.specs.Prelude.{MAX_INPUT_BYTES}
use Rattle.lard_app.specs.Seen.{replay_seen}
use Rattle.lard_app.proofs.Reading.{Reading}
use Rattle.lard_app.proofs.commands.replay_lines.Given as goal

abbrev pub invariant-loop-len : goal.invariant-loop-len
invariant-loop-len g l = record {
  reading : Reading (g.S.Source.left l.fn.source) (g.S.Source.left l.source) l.lines (replay_seen l.replay) (g.K.Sink.written l.fn.sink) (g.K.Sink.written l.sink);
  usable : l.replay.world.spoiled ≡ false;
  agenda : IsAgendaOf l.replay.agenda l.replay.world.machine.journal;
  read_faults : g.S.Source.faults l.source ≡ g.S.Source.faults l.fn.source;
  faults : g.K.Sink.faults l.sink ≡ g.K.Sink.faults l.fn.sink;
}

abbrev pub decreases-loop-len : goal.decreases-loop-len
decreases-loop-len g l = MAX_INPUT_BYTES + 1 - l.replay.read
