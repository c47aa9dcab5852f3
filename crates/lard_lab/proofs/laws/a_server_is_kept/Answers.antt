-- It is proved as a lemma.
use Rattle.lard_lab.proofs.Choosing.{servers-kept}
use Rattle.lard_lab.proofs.laws.a_server_is_kept.Goals as goal

pub returns : goal.returns
returns c = servers-kept
