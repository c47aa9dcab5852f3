-- The law is the lemma of proofs/Leaving.antt.
use Rattle.lard_handoff_back.proofs.Leaving.{refusals-stay}
use Rattle.lard_handoff_back.proofs.laws.refusals_stay.Goals as goal

pub returns : goal.returns
returns c = refusals-stay
