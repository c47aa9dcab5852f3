-- By what each rule of a node says.
use Rattle.lard_laws.proofs.WaysNaming.{asks-name}
use Rattle.lard_laws.proofs.asks_name_the_next_paths.Goals as goal

pub returns : goal.returns
returns c = asks-name
