-- The law is the lemma of proofs/Serving.antt.
use Rattle.lard_policy.proofs.Serving.{serves}
use Rattle.lard_policy.proofs.laws.the_node_serves.Goals as goal

pub returns : goal.returns
returns c = serves
