-- It is proved as a lemma.
use Rattle.lard_lab.proofs.Reported.{report-told}
use Rattle.lard_lab.proofs.laws.the_report_is_told.Goals as goal

pub returns : goal.returns
returns c = report-told
