-- The law is the lemma of proofs/Ordered.antt.
use Rattle.lard_resend.proofs.Ordered.{holds}
use Rattle.lard_resend.proofs.laws.holds_it.Goals as goal

pub returns : goal.returns
returns c = holds
