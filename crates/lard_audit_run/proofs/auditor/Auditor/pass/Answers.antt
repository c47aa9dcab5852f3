-- A line that stands for something is counted.
use Rattle.std.proofs.Common.{◌≡◌, ◌+◌, length, false, Err, sym, ap, ◌∙◌, subst, arith}
use Rattle.std.proofs.lemmas.Bool.Decides.{nat_tests}
use Rattle.std.specs.Prelude.{nat_lt}
use Rattle.lard_audit_run.specs.declared.auditor.Fault.{Fault}
use Rattle.lard_audit_run.specs.declared.auditor.TheConstants.{MAX_REPORT_BYTES}
use Rattle.lard_audit_run.specs.declared.verdict.Verdict.TheVariants.{Refused}
use Rattle.lard_audit_run.specs.Audited.{counted, audit_entered, audit_passed, taken}
use Rattle.lard_audit_run.specs.Seen.{Enters, AuditPasses}
use Rattle.lard_audit_run.proofs.Passing.{entered-read, passed_by}
use Rattle.lard_audit_run.proofs.auditor.Auditor.pass.Goals as goal

pub returns-in-Ok-clause-passed : goal.returns-in-Ok-clause-passed
returns-in-Ok-clause-passed c = λ s here.
    let line = c.args.line.now in
    let short : nat_lt MAX_REPORT_BYTES (s.read + length line + 1) ≡ false = let f = c.if-self-len.false in let r = here.read in grind (arith, nat_tests, f, r) in
    let t = c.in-Ok.ensures.entered s here in (
      counted line t.0,
      passed_by s line false short ∙ ap (taken (s.lines + 1) line) t.1,
      record {
        stage = t.2.stage;
        audit = t.2.audit;
        lines = ap (λ n. n + 1) (here.lines ∙ sym (entered-read s t.0 line t.1).0);
        read = ap (λ n. n + length line + 1) t.2.read;
        records = t.2.records;
        none = t.2.none;
      },
    )

pub returns-in-Err-Flawed-clause-passed : goal.returns-in-Err-Flawed-clause-passed
returns-in-Err-Flawed-clause-passed c = λ s here.
    let line = c.args.line.now in
    let short : nat_lt MAX_REPORT_BYTES (s.read + length line + 1) ≡ false = let f = c.if-self-len.false in let r = here.read in grind (arith, nat_tests, f, r) in
    let refusal : audit_entered s line ≡ Err c.in-Err-Flawed.flaw = subst (λ (f : Fault). Enters (audit_entered s line) c.enter.new.self (Err f)) c.in-Err-Flawed.field-0-is (c.in-Err-Flawed.ensures.entered s here) in
    subst (λ v. AuditPasses (audit_passed s line) c.enter.new.self (Err v)) (sym c.refused.ensures)
    (passed_by s line false short ∙ ap (taken (s.lines + 1) line) refusal ∙ ap (λ n. Err (Refused (n + 1) c.in-Err-Flawed.flaw)) (sym here.lines))
