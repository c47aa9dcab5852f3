-- The law is the lemma of proofs/Ordered.antt.
use Rattle.lard_resend.proofs.Ordered.{keeps}
use Rattle.lard_resend.proofs.laws.keeps_the_order.Goals as goal

pub returns : goal.returns
returns c = keeps
