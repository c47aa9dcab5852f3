-- The law is the lemma of proofs/AllCalls.antt.
use Rattle.lard_dispatch.proofs.AllCalls.{within-room}
use Rattle.lard_dispatch.proofs.laws.admission_is_bounded.Goals as goal

pub returns : goal.returns
returns c = within-room
