-- What was read so far leads to a course, and the auditor is there.
use Rattle.std.proofs.Common.{◌≡◌, ◌+◌, ◌-◌}
use Rattle.lard_audit_run.specs.declared.auditor.TheConstants.{MAX_REPORT_BYTES}
use Rattle.lard_audit_run.specs.Audited.{Course}
use Rattle.lard_audit_run.specs.Seen.{IsAt, IsAuditCounted}
use Rattle.lard_audit_run.proofs.Reading.{Reading}
use Rattle.lard_audit_run.proofs.run.judge_lines.Given as goal

abbrev pub invariant-loop-len : goal.invariant-loop-len
invariant-loop-len g l = record {
  course : (s : Course) × IsAt l.auditor s × Reading (g.S.Source.left l.fn.source) (g.S.Source.left l.source) l.lines s;
  counted : IsAuditCounted l.auditor;
  read_faults : g.S.Source.faults l.source ≡ g.S.Source.faults l.fn.source;
}

abbrev pub decreases-loop-len : goal.decreases-loop-len
decreases-loop-len g l = MAX_REPORT_BYTES + 1 - l.auditor.read
