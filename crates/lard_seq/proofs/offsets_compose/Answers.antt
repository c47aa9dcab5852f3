-- The law is the lemma of proofs/Laws.antt.
use Rattle.lard_seq.proofs.Laws.{offset-offset}
use Rattle.lard_seq.proofs.offsets_compose.Goals as goal

pub returns : goal.returns
returns c = offset-offset
