-- A record is judged, and noted.
use Rattle.std.proofs.Common.{◌++◌, ◌∷◌, [], sym, subst, ◌∙◌}
use Rattle.lard_audit.specs.declared.audit.Audit.{Audit}
use Rattle.lard_audit.specs.Audit.{IsAuditOf}
use Rattle.lard_audit.proofs.Auditing.{followed, judged}
use Rattle.lard_audit.proofs.audit.Audit.feed.Goals as goal

pub returns-in-Some-clause-fault : goal.returns-in-Some-clause-fault
returns-in-Some-clause-fault c = λ cfg files J h. judged c.args.self.now cfg files J h c.args.rec.now c.broken.ensures.node ∙ sym c.broken.ensures.first ∙ c.in-Some.is

pub returns-in-Ok-clause-ok : goal.returns-in-Ok-clause-ok
returns-in-Ok-clause-ok c = λ cfg files J h. (
  judged c.args.self.now cfg files J h c.args.rec.now c.broken.ensures.node ∙ sym c.broken.ensures.first ∙ c.in_default.is,
  subst (λ (a : Audit). IsAuditOf a cfg files (J ++ c.args.rec.now ∷ [])) (sym c.in-Ok.ensures.ok)
      (followed c.args.self.now cfg files J h c.args.rec.now c.broken.ensures.law c.broken.ensures.node (sym c.broken.ensures.first ∙ c.in_default.is)),
)

pub returns-in-Err-clause-fault : goal.returns-in-Err-clause-fault
returns-in-Err-clause-fault c = λ cfg files J h. judged c.args.self.now cfg files J h c.args.rec.now c.broken.ensures.node ∙ sym c.broken.ensures.first ∙ c.in_default.is
