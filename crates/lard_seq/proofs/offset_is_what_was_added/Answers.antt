-- The law is the lemma of proofs/Laws.antt.
use Rattle.lard_seq.proofs.Laws.{offset-add}
use Rattle.lard_seq.proofs.offset_is_what_was_added.Goals as goal

pub returns : goal.returns
returns c = offset-add
