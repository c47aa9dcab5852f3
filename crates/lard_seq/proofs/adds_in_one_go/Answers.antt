-- The law is the lemma of proofs/Laws.antt.
use Rattle.lard_seq.proofs.Laws.{add-add}
use Rattle.lard_seq.proofs.adds_in_one_go.Goals as goal

pub returns : goal.returns
returns c = add-add
