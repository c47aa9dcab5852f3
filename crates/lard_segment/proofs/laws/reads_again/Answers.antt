-- The law is the lemma of proofs/Again.antt.
use Rattle.lard_segment.proofs.Again.{again}
use Rattle.lard_segment.proofs.laws.reads_again.Goals as goal

pub returns : goal.returns
returns c = again
