-- It is proved as a lemma.
use Rattle.lard_lab.proofs.Reported.{caches-apart}
use Rattle.lard_lab.proofs.laws.caches_are_apart.Goals as goal

pub returns : goal.returns
returns c = caches-apart
