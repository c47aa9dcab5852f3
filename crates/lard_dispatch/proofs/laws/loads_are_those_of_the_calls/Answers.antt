-- The law is the lemma of proofs/Counted.antt.
use Rattle.lard_dispatch.proofs.Counted.{loads-are-charges}
use Rattle.lard_dispatch.proofs.laws.loads_are_those_of_the_calls.Goals as goal

pub returns : goal.returns
returns c = loads-are-charges
