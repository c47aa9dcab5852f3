-- What the audit's command says, in the statuses of a run.
use Rattle.std.specs.Prelude.{◌≡◌, ◌⊎◌, ℕ, List, Option, Some, None}
use Rattle.lard_audit_run.specs.declared.verdict.Flaw.{Flaw}
use Rattle.lard_audit_run.specs.declared.verdict.Flaw.TheVariants as flaw
use Rattle.lard_audit_run.specs.declared.verdict.Verdict.{Verdict}
use Rattle.lard_audit_run.specs.declared.verdict.Verdict.TheVariants as verdict
use Rattle.lard_audit_run.specs.Audited.{audited}
use Rattle.lard_audit_run.specs.Runs.{Audited}
use Rattle.lard_rules.specs.declared.fault.What.TheVariants.{Input}
use Rattle.lard_app.specs.declared.status.Status.{Status}
use Rattle.lard_app.specs.declared.status.Status.TheVariants.{Done, Refused, ReadFault, WriteFault, NoMemory, Limit}
use Rattle.lard_app.specs.declared.status.Why.{Why}
use Rattle.lard_app.specs.declared.status.Why.TheVariants as why

abbrev pub flaw_why : Flaw → Why
flaw_why flaw.Syntax = why.Syntax
flaw_why (flaw.Config fault) = why.Config fault
flaw_why (flaw.File fault) = why.File fault
flaw_why (flaw.Broken rule) = why.Broken rule

-- how the program ends behind this verdict
abbrev pub audit_status : Verdict → Status
audit_status (verdict.Sound n) = Done
audit_status (verdict.Refused line cause) = Refused line (flaw_why cause)
audit_status (verdict.TooLong line) = Limit line Input
audit_status verdict.ReadFault = ReadFault
audit_status verdict.WriteFault = WriteFault
audit_status verdict.NoMemory = NoMemory

-- The audit came to this verdict, and says all that it says.
abbrev pub Audits : Status → Option (List ℕ) → Option (List ℕ) → Option (List ℕ) → Option (List ℕ) → Type 0
Audits status left left_now old new = (came : Verdict) × (status ≡ audit_status came) × Audited came left left_now old new

-- the status is that of a known report, unless memory ran out
abbrev pub IsAuditSettled : Status → Option (List ℕ) → Type 0
IsAuditSettled status None = Unit {0}
IsAuditSettled status (Some input) = (status ≡ audit_status (audited input)) ⊎ (status ≡ NoMemory)
