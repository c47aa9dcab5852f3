use Rattle.std.proofs.Common.{◌≡◌, ◌-◌, ◌≤◌, length, take}
use Rattle.std.specs.Io.KnownBytes.{Appends}
use Rattle.std.specs.List.{flat_map}
use Rattle.lard_law_view.specs.Prelude.{rec_line}
use Rattle.lard_app.proofs.replay.write_pieces.Given as goal

-- the records before the next piece were written
abbrev pub invariant-loop-at : goal.invariant-loop-at
invariant-loop-at g l = record {
  within : l.at ≤ length l.recs;
  written : Appends (g.K.Sink.written l.fn.sink) (g.K.Sink.written l.sink) (flat_map rec_line (take l.at l.recs));
  faults : g.K.Sink.faults l.sink ≡ g.K.Sink.faults l.fn.sink;
}

abbrev pub decreases-loop-at : goal.decreases-loop-at
decreases-loop-at g l = length l.recs - l.at
