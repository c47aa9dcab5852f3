-- The law is the lemma of proofs/Offers.antt.
use Rattle.lard_handoff_front.proofs.Offers.{once}
use Rattle.lard_handoff_front.proofs.laws.ends_once.Goals as goal

pub returns : goal.returns
returns c = once
