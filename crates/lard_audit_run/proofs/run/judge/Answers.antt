-- Without memory nothing was read.
use Rattle.lard_audit_run.proofs.Reading.{judged-nothing}
use Rattle.lard_audit_run.proofs.run.judge.Goals as goal

pub returns-in-Err-clause-judged : goal.returns-in-Err-clause-judged
returns-in-Err-clause-judged g c = judged-nothing _

pub returns-in-Err-new-clause-judged : goal.returns-in-Err-new-clause-judged
returns-in-Err-new-clause-judged g c = judged-nothing _
