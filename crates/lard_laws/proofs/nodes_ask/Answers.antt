-- By what each rule of a node sends, and what its disk has then.
use Rattle.lard_laws.proofs.AsksAsking.{asks-go-on}
use Rattle.lard_laws.proofs.nodes_ask.Goals as goal

pub returns : goal.returns
returns c = asks-go-on
