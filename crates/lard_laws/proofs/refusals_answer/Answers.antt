-- By what each rule keeps.
use Rattle.lard_laws.proofs.WindowsRefusals.{refusals-answer}
use Rattle.lard_laws.proofs.refusals_answer.Goals as goal

pub returns : goal.returns
returns c = refusals-answer
