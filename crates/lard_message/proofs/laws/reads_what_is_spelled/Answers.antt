-- The law is the lemma of proofs/Whole.antt.
use Rattle.lard_message.proofs.Whole.{spelled_so}
use Rattle.lard_message.proofs.laws.reads_what_is_spelled.Goals as goal

pub returns : goal.returns
returns c = spelled_so
