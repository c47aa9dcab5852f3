-- It is proved as a lemma.
use Rattle.lard_lab.proofs.Choosing.{paths-keep}
use Rattle.lard_lab.proofs.laws.a_path_keeps_its_node.Goals as goal

pub returns : goal.returns
returns c = paths-keep
