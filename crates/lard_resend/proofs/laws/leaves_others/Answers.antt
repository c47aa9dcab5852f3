-- The law is the lemma of proofs/Ordered.antt.
use Rattle.lard_resend.proofs.Ordered.{leaves}
use Rattle.lard_resend.proofs.laws.leaves_others.Goals as goal

pub returns : goal.returns
returns c = leaves
