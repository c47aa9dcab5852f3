-- The law is the lemma of proofs/Whole.antt.
use Rattle.lard_message.proofs.Whole.{again}
use Rattle.lard_message.proofs.laws.reads_again.Goals as goal

pub returns : goal.returns
returns c = again
