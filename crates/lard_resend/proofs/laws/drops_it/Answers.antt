-- The law is the lemma of proofs/Ordered.antt.
use Rattle.lard_resend.proofs.Ordered.{drops}
use Rattle.lard_resend.proofs.laws.drops_it.Goals as goal

pub returns : goal.returns
returns c = drops
