-- A replay says what it read and wrote, a generated run what was counted, and other words nothing.
use Rattle.std.proofs.Common.{◌≡◌, ◌⊎◌, subst}
use Rattle.lard_app.specs.declared.status.Status.TheVariants.{NoMemory}
use Rattle.lard_app.specs.Generate.{Generated, run_of}
use Rattle.lard_app.specs.Words.{words_bytes}
use Rattle.lard_app.proofs.Asking.{are-audit, are-generate, are-lab, are-replay, generated-not-read, generated-not-usage, generated-settled, no-audit-generate, no-audit-lab, no-lab-generate, no-replay-audit, no-replay-lab, not-both, of-words, reads-not-usage, same-policy}
use Rattle.lard_app.proofs.Audited.{audits-not-usage}
use Rattle.lard_app.proofs.Faults.{fault-rose, no_fault-same}
use Rattle.lard_lab.specs.declared.policy.Policy.{Policy}
use Rattle.lard_app.specs.Lab.{IsLabSettled, Labs}
use Rattle.lard_app.proofs.Labeled.{labs-not-usage}
use Rattle.lard_app.proofs.Lawful.{ran}
use Rattle.lard_app.proofs.Settled.{settled}
use Rattle.lard_app.proofs.commands.run.Goals as goal

-- ---- a replay

pub returns-in-Some-Replay-clause-usage : goal.returns-in-Some-Replay-clause-usage
returns-in-Some-Replay-clause-usage g c = (λ is. absurd (reads-not-usage c.replay.result _ _ _ _ c.replay.ensures.reads is), λ none. absurd (none.0 (are-replay _ c.in-Some-Replay.field-0 c.in-Some-Replay.field-0-is c.in-Some-Replay.ensures)))

pub returns-in-Some-Replay-clause-unread : goal.returns-in-Some-Replay-clause-unread
returns-in-Some-Replay-clause-unread g c = λ other more last. absurd (other (are-replay _ c.in-Some-Replay.field-0 c.in-Some-Replay.field-0-is c.in-Some-Replay.ensures))

pub returns-in-Some-Replay-clause-unwritten : goal.returns-in-Some-Replay-clause-unwritten
returns-in-Some-Replay-clause-unwritten g c = λ is. absurd (reads-not-usage c.replay.result _ _ _ _ c.replay.ensures.reads is)

pub returns-in-Some-Replay-clause-replay : goal.returns-in-Some-Replay-clause-replay
returns-in-Some-Replay-clause-replay g c = λ asked. ran c.report_tells_all.ensures.whole c.reports_of_runs_pass.ensures.passes c.replay.result _ _ _ _ c.replay.ensures.reads

pub returns-in-Some-Replay-clause-generate : goal.returns-in-Some-Replay-clause-generate
returns-in-Some-Replay-clause-generate g c = λ s k asked. absurd (not-both (words_bytes c.args.words.now) s k (are-replay _ c.in-Some-Replay.field-0 c.in-Some-Replay.field-0-is c.in-Some-Replay.ensures) asked)

pub returns-in-Some-Replay-clause-write_fault : goal.returns-in-Some-Replay-clause-write_fault
returns-in-Some-Replay-clause-write_fault g c = fault-rose _ _ c.replay.result c.replay.ensures.faults

pub returns-in-Some-Replay-clause-no_write_fault : goal.returns-in-Some-Replay-clause-no_write_fault
returns-in-Some-Replay-clause-no_write_fault g c = no_fault-same _ _ c.replay.result c.replay.ensures.faults

pub returns-in-Some-Replay-clause-complete : goal.returns-in-Some-Replay-clause-complete
returns-in-Some-Replay-clause-complete g c = λ asked read written.
    settled c.replay.result _ _ _ _ c.replay.ensures.reads (λ e. read (c.replay.ensures.read_fault e)) (λ e. written (fault-rose _ _ c.replay.result c.replay.ensures.faults e))

pub returns-in-Some-Replay-clause-complete_generate : goal.returns-in-Some-Replay-clause-complete_generate
returns-in-Some-Replay-clause-complete_generate g c = λ s k asked written. absurd (not-both (words_bytes c.args.words.now) s k (are-replay _ c.in-Some-Replay.field-0 c.in-Some-Replay.field-0-is c.in-Some-Replay.ensures) asked)

pub returns-in-Some-Replay-clause-lab : goal.returns-in-Some-Replay-clause-lab
returns-in-Some-Replay-clause-lab g c = λ p asked. absurd (no-replay-lab (words_bytes c.args.words.now) p (are-replay _ c.in-Some-Replay.field-0 c.in-Some-Replay.field-0-is c.in-Some-Replay.ensures) asked)

pub returns-in-Some-Replay-clause-complete_lab : goal.returns-in-Some-Replay-clause-complete_lab
returns-in-Some-Replay-clause-complete_lab g c = λ p asked read written. absurd (no-replay-lab (words_bytes c.args.words.now) p (are-replay _ c.in-Some-Replay.field-0 c.in-Some-Replay.field-0-is c.in-Some-Replay.ensures) asked)

pub returns-in-Some-Replay-clause-audit : goal.returns-in-Some-Replay-clause-audit
returns-in-Some-Replay-clause-audit g c = λ asked. absurd (no-replay-audit (words_bytes c.args.words.now) (are-replay _ c.in-Some-Replay.field-0 c.in-Some-Replay.field-0-is c.in-Some-Replay.ensures) asked)

pub returns-in-Some-Replay-clause-complete_audit : goal.returns-in-Some-Replay-clause-complete_audit
returns-in-Some-Replay-clause-complete_audit g c = λ asked read written. absurd (no-replay-audit (words_bytes c.args.words.now) (are-replay _ c.in-Some-Replay.field-0 c.in-Some-Replay.field-0-is c.in-Some-Replay.ensures) asked)

-- ---- a generated run

pub returns-in-Some-Generate-clause-usage : goal.returns-in-Some-Generate-clause-usage
returns-in-Some-Generate-clause-usage g c = (
  λ is. absurd (generated-not-usage c.in-Some-Generate.seed c.in-Some-Generate.clients c.generate.result _ _ c.generate.ensures.generated is),
  λ none. absurd (none.1 c.in-Some-Generate.seed c.in-Some-Generate.clients (are-generate _ c.in-Some-Generate.field-0 _ _ c.in-Some-Generate.field-0-is c.in-Some-Generate.ensures)),
)

pub returns-in-Some-Generate-clause-unwritten : goal.returns-in-Some-Generate-clause-unwritten
returns-in-Some-Generate-clause-unwritten g c = λ is. absurd (generated-not-usage c.in-Some-Generate.seed c.in-Some-Generate.clients c.generate.result _ _ c.generate.ensures.generated is)

pub returns-in-Some-Generate-clause-replay : goal.returns-in-Some-Generate-clause-replay
returns-in-Some-Generate-clause-replay g c = λ asked. absurd (not-both (words_bytes c.args.words.now) c.in-Some-Generate.seed c.in-Some-Generate.clients asked (are-generate _ c.in-Some-Generate.field-0 _ _ c.in-Some-Generate.field-0-is c.in-Some-Generate.ensures))

pub returns-in-Some-Generate-clause-generate : goal.returns-in-Some-Generate-clause-generate
returns-in-Some-Generate-clause-generate g c = λ s k asked.
    of-words (words_bytes c.args.words.now) c.in-Some-Generate.seed c.in-Some-Generate.clients s k (λ i j. Generated i j c.generate.result (g.K.Sink.written c.args.sink.now) (g.K.Sink.written c.generate.new.sink)) (are-generate _ c.in-Some-Generate.field-0 _ _ c.in-Some-Generate.field-0-is c.in-Some-Generate.ensures) asked
    c.generate.ensures.generated

pub returns-in-Some-Generate-clause-read_fault : goal.returns-in-Some-Generate-clause-read_fault
returns-in-Some-Generate-clause-read_fault g c = λ is. absurd (generated-not-read c.in-Some-Generate.seed c.in-Some-Generate.clients c.generate.result _ _ c.generate.ensures.generated is)

pub returns-in-Some-Generate-clause-write_fault : goal.returns-in-Some-Generate-clause-write_fault
returns-in-Some-Generate-clause-write_fault g c = fault-rose _ _ c.generate.result c.generate.ensures.faults

pub returns-in-Some-Generate-clause-no_write_fault : goal.returns-in-Some-Generate-clause-no_write_fault
returns-in-Some-Generate-clause-no_write_fault g c = no_fault-same _ _ c.generate.result c.generate.ensures.faults

pub returns-in-Some-Generate-clause-complete : goal.returns-in-Some-Generate-clause-complete
returns-in-Some-Generate-clause-complete g c = λ asked read written. absurd (not-both (words_bytes c.args.words.now) c.in-Some-Generate.seed c.in-Some-Generate.clients asked (are-generate _ c.in-Some-Generate.field-0 _ _ c.in-Some-Generate.field-0-is c.in-Some-Generate.ensures))

pub returns-in-Some-Generate-clause-complete_generate : goal.returns-in-Some-Generate-clause-complete_generate
returns-in-Some-Generate-clause-complete_generate g c = λ s k asked written.
    of-words (words_bytes c.args.words.now) c.in-Some-Generate.seed c.in-Some-Generate.clients s k (λ i j. (c.generate.result ≡ (run_of i j).1) ⊎ (c.generate.result ≡ NoMemory)) (are-generate _ c.in-Some-Generate.field-0 _ _ c.in-Some-Generate.field-0-is c.in-Some-Generate.ensures) asked
    (generated-settled c.in-Some-Generate.seed c.in-Some-Generate.clients c.generate.result _ _ c.generate.ensures.generated (λ is. written (fault-rose _ _ c.generate.result c.generate.ensures.faults is)))

pub returns-in-Some-Generate-clause-lab : goal.returns-in-Some-Generate-clause-lab
returns-in-Some-Generate-clause-lab g c = λ p asked. absurd (no-lab-generate (words_bytes c.args.words.now) p _ _ asked (are-generate _ c.in-Some-Generate.field-0 _ _ c.in-Some-Generate.field-0-is c.in-Some-Generate.ensures))

pub returns-in-Some-Generate-clause-complete_lab : goal.returns-in-Some-Generate-clause-complete_lab
returns-in-Some-Generate-clause-complete_lab g c = λ p asked read written.
    absurd (no-lab-generate (words_bytes c.args.words.now) p _ _ asked (are-generate _ c.in-Some-Generate.field-0 _ _ c.in-Some-Generate.field-0-is c.in-Some-Generate.ensures))

pub returns-in-Some-Generate-clause-audit : goal.returns-in-Some-Generate-clause-audit
returns-in-Some-Generate-clause-audit g c = λ asked. absurd (no-audit-generate (words_bytes c.args.words.now) _ _ asked (are-generate _ c.in-Some-Generate.field-0 _ _ c.in-Some-Generate.field-0-is c.in-Some-Generate.ensures))

pub returns-in-Some-Generate-clause-complete_audit : goal.returns-in-Some-Generate-clause-complete_audit
returns-in-Some-Generate-clause-complete_audit g c = λ asked read written. absurd (no-audit-generate (words_bytes c.args.words.now) _ _ asked (are-generate _ c.in-Some-Generate.field-0 _ _ c.in-Some-Generate.field-0-is c.in-Some-Generate.ensures))

-- ---- a lab

pub returns-in-Some-Lab-clause-usage : goal.returns-in-Some-Lab-clause-usage
returns-in-Some-Lab-clause-usage g c = (
  λ is. absurd (labs-not-usage c.in-Some-Lab.policy c.lab.result _ _ _ _ c.lab.ensures.labs is),
  λ none. absurd (none.2 c.in-Some-Lab.policy (are-lab _ c.in-Some-Lab.field-0 _ c.in-Some-Lab.field-0-is c.in-Some-Lab.ensures)),
)

pub returns-in-Some-Lab-clause-unread : goal.returns-in-Some-Lab-clause-unread
returns-in-Some-Lab-clause-unread g c = λ other more last. absurd (more c.in-Some-Lab.policy (are-lab _ c.in-Some-Lab.field-0 _ c.in-Some-Lab.field-0-is c.in-Some-Lab.ensures))

pub returns-in-Some-Lab-clause-unwritten : goal.returns-in-Some-Lab-clause-unwritten
returns-in-Some-Lab-clause-unwritten g c = λ is. absurd (labs-not-usage c.in-Some-Lab.policy c.lab.result _ _ _ _ c.lab.ensures.labs is)

pub returns-in-Some-Lab-clause-replay : goal.returns-in-Some-Lab-clause-replay
returns-in-Some-Lab-clause-replay g c = λ asked. absurd (no-replay-lab (words_bytes c.args.words.now) c.in-Some-Lab.policy asked (are-lab _ c.in-Some-Lab.field-0 _ c.in-Some-Lab.field-0-is c.in-Some-Lab.ensures))

pub returns-in-Some-Lab-clause-generate : goal.returns-in-Some-Lab-clause-generate
returns-in-Some-Lab-clause-generate g c = λ s k asked. absurd (no-lab-generate (words_bytes c.args.words.now) c.in-Some-Lab.policy s k (are-lab _ c.in-Some-Lab.field-0 _ c.in-Some-Lab.field-0-is c.in-Some-Lab.ensures) asked)

pub returns-in-Some-Lab-clause-lab : goal.returns-in-Some-Lab-clause-lab
returns-in-Some-Lab-clause-lab g c = λ p asked.
    subst (λ (q : Policy). Labs q c.lab.result (g.S.Source.left c.args.source.now) (g.S.Source.left c.lab.new.source) (g.K.Sink.written c.args.sink.now) (g.K.Sink.written c.lab.new.sink))
    (same-policy (words_bytes c.args.words.now) c.in-Some-Lab.policy p (are-lab _ c.in-Some-Lab.field-0 _ c.in-Some-Lab.field-0-is c.in-Some-Lab.ensures) asked) c.lab.ensures.labs

pub returns-in-Some-Lab-clause-write_fault : goal.returns-in-Some-Lab-clause-write_fault
returns-in-Some-Lab-clause-write_fault g c = fault-rose _ _ c.lab.result c.lab.ensures.faults

pub returns-in-Some-Lab-clause-no_write_fault : goal.returns-in-Some-Lab-clause-no_write_fault
returns-in-Some-Lab-clause-no_write_fault g c = no_fault-same _ _ c.lab.result c.lab.ensures.faults

pub returns-in-Some-Lab-clause-complete : goal.returns-in-Some-Lab-clause-complete
returns-in-Some-Lab-clause-complete g c = λ asked read written. absurd (no-replay-lab (words_bytes c.args.words.now) c.in-Some-Lab.policy asked (are-lab _ c.in-Some-Lab.field-0 _ c.in-Some-Lab.field-0-is c.in-Some-Lab.ensures))

pub returns-in-Some-Lab-clause-complete_generate : goal.returns-in-Some-Lab-clause-complete_generate
returns-in-Some-Lab-clause-complete_generate g c = λ s k asked written.
    absurd (no-lab-generate (words_bytes c.args.words.now) c.in-Some-Lab.policy s k (are-lab _ c.in-Some-Lab.field-0 _ c.in-Some-Lab.field-0-is c.in-Some-Lab.ensures) asked)

pub returns-in-Some-Lab-clause-complete_lab : goal.returns-in-Some-Lab-clause-complete_lab
returns-in-Some-Lab-clause-complete_lab g c = λ p asked read written.
    subst (λ (q : Policy). IsLabSettled q c.lab.result (g.S.Source.left c.args.source.now))
    (same-policy (words_bytes c.args.words.now) c.in-Some-Lab.policy p (are-lab _ c.in-Some-Lab.field-0 _ c.in-Some-Lab.field-0-is c.in-Some-Lab.ensures) asked) (c.lab.ensures.complete read written)

pub returns-in-Some-Lab-clause-audit : goal.returns-in-Some-Lab-clause-audit
returns-in-Some-Lab-clause-audit g c = λ asked. absurd (no-audit-lab (words_bytes c.args.words.now) _ asked (are-lab _ c.in-Some-Lab.field-0 _ c.in-Some-Lab.field-0-is c.in-Some-Lab.ensures))

pub returns-in-Some-Lab-clause-complete_audit : goal.returns-in-Some-Lab-clause-complete_audit
returns-in-Some-Lab-clause-complete_audit g c = λ asked read written. absurd (no-audit-lab (words_bytes c.args.words.now) _ asked (are-lab _ c.in-Some-Lab.field-0 _ c.in-Some-Lab.field-0-is c.in-Some-Lab.ensures))

-- ---- an audit

pub returns-in-Some-Audit-clause-usage : goal.returns-in-Some-Audit-clause-usage
returns-in-Some-Audit-clause-usage g c = (λ is. absurd (audits-not-usage c.audit_report.result _ _ _ _ c.audit_report.ensures.audits is), λ none. absurd (none.3 (are-audit _ c.in-Some-Audit.field-0 c.in-Some-Audit.field-0-is c.in-Some-Audit.ensures)))

pub returns-in-Some-Audit-clause-unread : goal.returns-in-Some-Audit-clause-unread
returns-in-Some-Audit-clause-unread g c = λ other more last. absurd (last (are-audit _ c.in-Some-Audit.field-0 c.in-Some-Audit.field-0-is c.in-Some-Audit.ensures))

pub returns-in-Some-Audit-clause-unwritten : goal.returns-in-Some-Audit-clause-unwritten
returns-in-Some-Audit-clause-unwritten g c = λ is. absurd (audits-not-usage c.audit_report.result _ _ _ _ c.audit_report.ensures.audits is)

pub returns-in-Some-Audit-clause-replay : goal.returns-in-Some-Audit-clause-replay
returns-in-Some-Audit-clause-replay g c = λ asked. absurd (no-replay-audit (words_bytes c.args.words.now) asked (are-audit _ c.in-Some-Audit.field-0 c.in-Some-Audit.field-0-is c.in-Some-Audit.ensures))

pub returns-in-Some-Audit-clause-generate : goal.returns-in-Some-Audit-clause-generate
returns-in-Some-Audit-clause-generate g c = λ s k asked. absurd (no-audit-generate (words_bytes c.args.words.now) s k (are-audit _ c.in-Some-Audit.field-0 c.in-Some-Audit.field-0-is c.in-Some-Audit.ensures) asked)

pub returns-in-Some-Audit-clause-lab : goal.returns-in-Some-Audit-clause-lab
returns-in-Some-Audit-clause-lab g c = λ p asked. absurd (no-audit-lab (words_bytes c.args.words.now) p (are-audit _ c.in-Some-Audit.field-0 c.in-Some-Audit.field-0-is c.in-Some-Audit.ensures) asked)

pub returns-in-Some-Audit-clause-write_fault : goal.returns-in-Some-Audit-clause-write_fault
returns-in-Some-Audit-clause-write_fault g c = fault-rose _ _ c.audit_report.result c.audit_report.ensures.faults

pub returns-in-Some-Audit-clause-no_write_fault : goal.returns-in-Some-Audit-clause-no_write_fault
returns-in-Some-Audit-clause-no_write_fault g c = no_fault-same _ _ c.audit_report.result c.audit_report.ensures.faults

pub returns-in-Some-Audit-clause-complete : goal.returns-in-Some-Audit-clause-complete
returns-in-Some-Audit-clause-complete g c = λ asked read written. absurd (no-replay-audit (words_bytes c.args.words.now) asked (are-audit _ c.in-Some-Audit.field-0 c.in-Some-Audit.field-0-is c.in-Some-Audit.ensures))

pub returns-in-Some-Audit-clause-complete_generate : goal.returns-in-Some-Audit-clause-complete_generate
returns-in-Some-Audit-clause-complete_generate g c = λ s k asked written. absurd (no-audit-generate (words_bytes c.args.words.now) s k (are-audit _ c.in-Some-Audit.field-0 c.in-Some-Audit.field-0-is c.in-Some-Audit.ensures) asked)

pub returns-in-Some-Audit-clause-complete_lab : goal.returns-in-Some-Audit-clause-complete_lab
returns-in-Some-Audit-clause-complete_lab g c = λ p asked read written. absurd (no-audit-lab (words_bytes c.args.words.now) p (are-audit _ c.in-Some-Audit.field-0 c.in-Some-Audit.field-0-is c.in-Some-Audit.ensures) asked)
