-- The law is the lemma of proofs/Offers.antt.
use Rattle.lard_handoff_front.proofs.Offers.{rises}
use Rattle.lard_handoff_front.proofs.laws.offers_once.Goals as goal

pub returns : goal.returns
returns c = rises
