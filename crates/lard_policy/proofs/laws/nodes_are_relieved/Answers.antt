-- The law is the lemma of proofs/Relief.antt.
use Rattle.lard_policy.proofs.Relief.{relieves}
use Rattle.lard_policy.proofs.laws.nodes_are_relieved.Goals as goal

pub returns : goal.returns
returns c = relieves
