-- What the code of an audit has in hand, as the definitions see it.
use Rattle.std.specs.Prelude.{◌≡◌, ◌≤◌, ◌^◌, [], length, Result, Ok, Err}
use Rattle.lard_audit.specs.Audit.{IsAuditOf}
use Rattle.lard_audit_run.specs.declared.auditor.Auditor.{Auditor}
use Rattle.lard_audit_run.specs.declared.auditor.Fault.{Fault}
use Rattle.lard_audit_run.specs.declared.auditor.Fault.TheVariants as fault
use Rattle.lard_audit_run.specs.declared.auditor.Stage.TheVariants.{Files}
use Rattle.lard_audit_run.specs.declared.verdict.Flaw.{Flaw}
use Rattle.lard_audit_run.specs.declared.verdict.Verdict.{Verdict}
use Rattle.lard_audit_run.specs.declared.verdict.Verdict.TheVariants.{Refused, TooLong, NoMemory}
use Rattle.lard_audit_run.specs.Audited.{Course}

-- the auditor has passed what leads to this
pub record IsAt (a : Auditor) (s : Course) : Type 0 where
  pub stage : a.stage ≡ s.stage
  pub audit : IsAuditOf a.audit s.config s.files s.journal
  pub lines : a.lines ≡ s.lines
  pub read : a.read ≡ s.read
  pub records : a.records ≡ length s.journal
  pub none : s.stage ≡ Files → s.journal ≡ []

-- there are no more records than lines, no more lines than bytes, and no more bytes than a report may have
pub record IsAuditCounted (a : Auditor) : Type 0 where
  pub records : a.records ≤ a.lines
  pub lines : a.lines ≤ a.read
  pub read : a.read ≤ 2 ^ 30

-- a line was entered: what it leads to is where the auditor is; or it is refused
abbrev pub Enters : Result Course Flaw → Auditor → Result (Unit {0}) Fault → Type 0
Enters given a (Ok _) = (t : Course) × (given ≡ Ok t) × IsAt a t
Enters given a (Err (fault.Flawed flaw)) = given ≡ Err flaw
Enters given a (Err fault.NoMemory) = Unit {0}

-- a line was passed: what it leads to is where the auditor is; or it ends the audit
abbrev pub AuditPasses : Result Course Verdict → Auditor → Result (Unit {0}) Verdict → Type 0
AuditPasses given a (Ok _) = (t : Course) × (given ≡ Ok t) × IsAt a t
AuditPasses given a (Err (Refused line flaw)) = given ≡ Err (Refused line flaw)
AuditPasses given a (Err (TooLong line)) = given ≡ Err (TooLong line)
AuditPasses given a (Err NoMemory) = Unit {0}
AuditPasses given a (Err _) = ⊥
