-- The law is the lemma of proofs/Changes.antt.
use Rattle.lard_sets.proofs.Changes.{last_decides}
use Rattle.lard_sets.proofs.laws.the_last_call_decides.Goals as goal

pub returns : goal.returns
returns c = last_decides
