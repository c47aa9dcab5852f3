-- The law is the lemma of proofs/Awaited.antt.
use Rattle.lard_lateral.proofs.Awaited.{once}
use Rattle.lard_lateral.proofs.laws.awaits_it_once.Goals as goal

pub returns : goal.returns
returns c = once
