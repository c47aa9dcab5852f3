-- An audit's verdicts are statuses of their own.
use Rattle.std.proofs.Common.{◌≡◌, inl, inr, ℕ, List, Option, Some, None, refl, sym, ap, ◌∙◌}
use Rattle.lard_audit_run.specs.declared.verdict.Verdict.{Verdict}
use Rattle.lard_audit_run.specs.declared.verdict.Verdict.TheVariants as verdict
use Rattle.lard_audit_run.specs.Runs as runs
use Rattle.lard_app.specs.declared.status.Status.{Status}
use Rattle.lard_app.specs.declared.status.Status.TheVariants.{Usage, ReadFault}
use Rattle.lard_app.specs.Audit.{Audits, IsAuditSettled, audit_status}
use Rattle.lard_app.specs.Replay.{EndsCount}

not-usage : (v : Verdict) → ¬ (audit_status v ≡ Usage)
not-usage (verdict.Sound n) is = cc
not-usage (verdict.Refused line flaw) is = cc
not-usage (verdict.TooLong line) is = cc
not-usage verdict.ReadFault is = cc
not-usage verdict.WriteFault is = cc
not-usage verdict.NoMemory is = cc

pub audits-not-usage : (status : Status) (left left_now old new : Option (List ℕ)) → Audits status left left_now old new → ¬ (status ≡ Usage)
audits-not-usage status left left_now old new a is = not-usage a.0 (sym a.1 ∙ is)

pub verdict-read : (v : Verdict) → audit_status v ≡ ReadFault → v ≡ verdict.ReadFault
verdict-read (verdict.Sound n) is = cc
verdict-read (verdict.Refused line flaw) is = cc
verdict-read (verdict.TooLong line) is = cc
verdict-read verdict.ReadFault is = refl
verdict-read verdict.WriteFault is = cc
verdict-read verdict.NoMemory is = cc

pub verdict-counts : (before now : ℕ) (v : Verdict) → runs.AuditEndsCount before now v → EndsCount before now (audit_status v)
verdict-counts before now (verdict.Sound n) h = h
verdict-counts before now (verdict.Refused line flaw) h = h
verdict-counts before now (verdict.TooLong line) h = h
verdict-counts before now verdict.ReadFault h = h
verdict-counts before now verdict.WriteFault h = h
verdict-counts before now verdict.NoMemory h = h

pub verdict-settled : (v : Verdict) (left : Option (List ℕ)) → runs.IsVerdictSettled v left → IsAuditSettled (audit_status v) left
verdict-settled v None h = tt
verdict-settled v (Some input) (inl is) = inl (ap audit_status is)
verdict-settled v (Some input) (inr is) = inr (ap audit_status is)
