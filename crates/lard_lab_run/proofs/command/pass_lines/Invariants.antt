use Rattle.std.proofs.Common.{◌≡◌, ◌+◌, ◌-◌}
use Rattle.lard_base.specs.declared.limits.TheConstants.{MAX_INPUT_BYTES}
use Rattle.lard_lab_run.specs.Seen.{lab_seen}
use Rattle.lard_lab_run.proofs.Pieces.{Reading}
use Rattle.lard_lab_run.proofs.command.pass_lines.Given as goal

abbrev pub invariant-loop-len : goal.invariant-loop-len
invariant-loop-len g l = record {
  reading : Reading l.fn.policy (g.S.Source.left l.fn.source) (g.S.Source.left l.source) l.lines (lab_seen l.trial) (g.K.Sink.written l.fn.sink) (g.K.Sink.written l.sink);
  read_faults : g.S.Source.faults l.source ≡ g.S.Source.faults l.fn.source;
  faults : g.K.Sink.faults l.sink ≡ g.K.Sink.faults l.fn.sink;
}

abbrev pub decreases-loop-len : goal.decreases-loop-len
decreases-loop-len g l = MAX_INPUT_BYTES + 1 - l.trial.read
