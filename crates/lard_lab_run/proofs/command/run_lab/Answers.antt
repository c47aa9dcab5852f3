-- Without memory nothing was read; and what the lines' call says is all that the command says.
use Rattle.lard_lab_run.specs.Trial.{EndsLabCount}
use Rattle.std.proofs.Common.{subst}
use Rattle.lard_lab_run.proofs.Endings.{ran, settled}
use Rattle.lard_lab_run.proofs.Pieces.{reads-nothing}
use Rattle.lard_lab_run.proofs.command.run_lab.Goals as goal

pub returns-in-Err-clause-ran : goal.returns-in-Err-clause-ran
returns-in-Err-clause-ran g c = ran _ _ _ _ _ _ (reads-nothing _ _ _)

pub returns-in-Err-new-clause-ran : goal.returns-in-Err-new-clause-ran
returns-in-Err-new-clause-ran g c = ran _ _ _ _ _ _ (reads-nothing _ _ _)

pub returns-clause-ran : goal.returns-clause-ran
returns-clause-ran g c = ran _ _ _ _ _ _ c.pass_lines.ensures.reads

pub returns-clause-complete : goal.returns-clause-complete
returns-clause-complete g c = λ read written.
    settled _ c.pass_lines.result _ _ _ _ c.pass_lines.ensures.reads (λ e. read (c.pass_lines.ensures.read_fault e))
    (λ e. written (subst (EndsLabCount (g.K.Sink.faults c.args.sink.now) (g.K.Sink.faults c.pass_lines.new.sink)) e c.pass_lines.ensures.faults))
