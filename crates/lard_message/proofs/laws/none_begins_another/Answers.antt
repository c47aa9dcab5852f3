-- The law is the lemma of proofs/Whole.antt.
use Rattle.lard_message.proofs.Whole.{none_begins}
use Rattle.lard_message.proofs.laws.none_begins_another.Goals as goal

pub returns : goal.returns
returns c = none_begins
