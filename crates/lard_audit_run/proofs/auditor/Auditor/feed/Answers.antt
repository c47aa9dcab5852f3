-- A record that breaks no rule comes to those before.
use Rattle.std.proofs.Common.{◌≡◌, [], ◌∷◌, ◌++◌, refl, ap, arith, length-append}
use Rattle.lard_audit_run.specs.declared.auditor.Stage.TheVariants.{Files, Records}
use Rattle.lard_audit_run.specs.Audited.{ruled}
use Rattle.lard_audit_run.proofs.auditor.Auditor.feed.Goals as goal

no_files : Records ≡ Files → ⊥
no_files e = cc

pub returns-in-Ok-clause-ruled : goal.returns-in-Ok-clause-ruled
returns-in-Ok-clause-ruled c = λ s here.
    let fed = c.in-Ok.ensures.ok s.config s.files s.journal here.audit in (
      record s { stage = Records; journal = s.journal ++ c.args.rec.now ∷ [] },
      ap (ruled s c.args.rec.now) fed.0,
      record {
        stage = refl;
        audit = fed.1;
        lines = here.lines;
        read = here.read;
        records = omega (arith, here.records, length-append s.journal (c.args.rec.now ∷ []));
        none = λ e. absurd (no_files e);
      },
    )
