-- A file that may be added comes to those before.
use Rattle.std.proofs.Common.{◌≡◌, [], ◌∷◌, ◌++◌, Ok, ap, subst, sym}
use Rattle.lard_audit.specs.Audit.{IsAuditOf}
use Rattle.lard_audit.specs.State.{audit_add_check}
use Rattle.lard_audit_run.specs.Audited.{audit_filed}
use Rattle.lard_audit_run.proofs.auditor.Auditor.file.Goals as goal

pub returns-in-Ok-clause-filed : goal.returns-in-Ok-clause-filed
returns-in-Ok-clause-filed c = λ s stands here.
    let none = here.none stands in
    let path-is = c.as_slice.ensures in
    let audit : IsAuditOf c.args.self.now.audit s.config s.files [] = subst (IsAuditOf c.args.self.now.audit s.config s.files) none here.audit in
    let answer : audit_add_check s.files c.args.path.now c.args.size ≡ Ok tt = subst (λ p. audit_add_check s.files p c.args.size ≡ Ok tt) path-is (c.in-Ok.ensures.answer s.config s.files audit) in
    let added : IsAuditOf c.file.new.self s.config (s.files ++ (c.args.path.now, c.args.size) ∷ []) [] =
    subst (λ p. IsAuditOf c.file.new.self s.config (s.files ++ (p, c.args.size) ∷ []) []) path-is (c.in-Ok.ensures.ok s.config s.files audit) in (
      record s { files = s.files ++ (c.args.path.now, c.args.size) ∷ [] },
      ap (audit_filed s (c.args.path.now, c.args.size)) answer,
      record {
        stage = here.stage;
        audit = subst (IsAuditOf c.file.new.self s.config (s.files ++ (c.args.path.now, c.args.size) ∷ [])) (sym none) added;
        lines = here.lines;
        read = here.read;
        records = here.records;
        none = here.none;
      },
    )
