-- What the audit's command says, in the statuses of a run.
use Rattle.std.proofs.Common.{sym, ap, ◌∙◌, subst}
use Rattle.lard_app.specs.declared.status.Status.{Status}
use Rattle.lard_app.specs.Audit.{IsAuditSettled, audit_status}
use Rattle.lard_app.specs.Replay.{EndsCount}
use Rattle.lard_app.proofs.Audited.{verdict-counts, verdict-read, verdict-settled}
use Rattle.lard_app.proofs.Faults.{fault-rose}
use Rattle.lard_app.proofs.audits.audit_report.Goals as goal

pub returns-clause-audits : goal.returns-clause-audits
returns-clause-audits g c = (c.audit.result, c.audit_status.ensures, c.audit.ensures.audited)

pub returns-clause-read_fault : goal.returns-clause-read_fault
returns-clause-read_fault g c = λ is. c.audit.ensures.read_fault (verdict-read c.audit.result (sym c.audit_status.ensures ∙ is))

pub returns-clause-no_read_fault : goal.returns-clause-no_read_fault
returns-clause-no_read_fault g c = λ other. c.audit.ensures.no_read_fault (λ is. other (c.audit_status.ensures ∙ ap audit_status is))

pub returns-clause-faults : goal.returns-clause-faults
returns-clause-faults g c =
    subst (EndsCount (g.K.Sink.faults c.args.sink.now) (g.K.Sink.faults c.audit.new.sink)) (sym c.audit_status.ensures) (verdict-counts _ _ c.audit.result c.audit.ensures.faults)

pub returns-clause-complete : goal.returns-clause-complete
returns-clause-complete g c = λ read written.
    let count = subst (EndsCount (g.K.Sink.faults c.args.sink.now) (g.K.Sink.faults c.audit.new.sink)) (sym c.audit_status.ensures) (verdict-counts _ _ c.audit.result c.audit.ensures.faults) in
    subst (λ (s : Status). IsAuditSettled s (g.S.Source.left c.args.source.now)) (sym c.audit_status.ensures)
    (verdict-settled c.audit.result _
    (c.audit.ensures.settled (λ is. read (c.audit.ensures.read_fault is)) (λ is. written (fault-rose _ _ c.audit_status.result count (c.audit_status.ensures ∙ ap audit_status is)))))
