-- The law is the lemma of proofs/Laws.antt.
use Rattle.lard_seq.proofs.Laws.{add-offset}
use Rattle.lard_seq.proofs.offset_leads_back.Goals as goal

pub returns : goal.returns
returns c = add-offset
