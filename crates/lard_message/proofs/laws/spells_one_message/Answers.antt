-- The law is the lemma of proofs/Whole.antt.
use Rattle.lard_message.proofs.Whole.{one_message}
use Rattle.lard_message.proofs.laws.spells_one_message.Goals as goal

pub returns : goal.returns
returns c = one_message
