-- It is proved as a lemma.
use Rattle.lard_lab.proofs.Reported.{totals-added}
use Rattle.lard_lab.proofs.laws.totals_add_up.Goals as goal

pub returns : goal.returns
returns c = totals-added
