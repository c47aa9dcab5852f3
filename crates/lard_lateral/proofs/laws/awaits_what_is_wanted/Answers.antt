-- The law is the lemma of proofs/Awaited.antt.
use Rattle.lard_lateral.proofs.Awaited.{awaits}
use Rattle.lard_lateral.proofs.laws.awaits_what_is_wanted.Goals as goal

pub returns : goal.returns
returns c = awaits
