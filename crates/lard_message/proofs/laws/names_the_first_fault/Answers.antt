-- The law is the lemma of proofs/Whole.antt.
use Rattle.lard_message.proofs.Whole.{first_fault}
use Rattle.lard_message.proofs.laws.names_the_first_fault.Goals as goal

pub returns : goal.returns
returns c = first_fault
