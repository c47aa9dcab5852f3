-- The law is the lemma of proofs/Changes.antt.
use Rattle.lard_sets.proofs.Changes.{last_change}
use Rattle.lard_sets.proofs.laws.the_last_change_is_told.Goals as goal

pub returns : goal.returns
returns c = last_change
