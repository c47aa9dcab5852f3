-- What the lab's command says, in the statuses of a run.
use Rattle.std.proofs.Common.{sym, ap, ◌∙◌, subst}
use Rattle.lard_app.specs.declared.status.Status.{Status}
use Rattle.lard_app.specs.Lab.{IsLabSettled, lab_status}
use Rattle.lard_app.specs.Replay.{EndsCount}
use Rattle.lard_app.proofs.Labeled.{counts, labs-settled, read-back}
use Rattle.lard_app.proofs.labs.lab.Goals as goal

pub returns-clause-labs : goal.returns-clause-labs
returns-clause-labs g c = (c.run_lab.result, c.lab_status.ensures, c.run_lab.ensures.ran)

pub returns-clause-read_fault : goal.returns-clause-read_fault
returns-clause-read_fault g c = λ is. c.run_lab.ensures.read_fault (read-back c.run_lab.result (sym c.lab_status.ensures ∙ is))

pub returns-clause-no_read_fault : goal.returns-clause-no_read_fault
returns-clause-no_read_fault g c = λ other. c.run_lab.ensures.no_read_fault (λ is. other (c.lab_status.ensures ∙ ap lab_status is))

pub returns-clause-faults : goal.returns-clause-faults
returns-clause-faults g c =
    subst (EndsCount (g.K.Sink.faults c.args.sink.now) (g.K.Sink.faults c.run_lab.new.sink)) (sym c.lab_status.ensures) (counts _ _ c.run_lab.result c.run_lab.ensures.faults)

pub returns-clause-complete : goal.returns-clause-complete
returns-clause-complete g c = λ read written.
    subst (λ (s : Status). IsLabSettled c.args.policy s (g.S.Source.left c.args.source.now)) (sym c.lab_status.ensures) (labs-settled c.args.policy c.run_lab.result _ (c.run_lab.ensures.complete read written))
