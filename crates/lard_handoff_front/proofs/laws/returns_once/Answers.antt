-- The law is the lemma of proofs/Returns.antt.
use Rattle.lard_handoff_front.proofs.Returns.{back-once}
use Rattle.lard_handoff_front.proofs.laws.returns_once.Goals as goal

pub returns : goal.returns
returns c = back-once
