-- The law is the lemma of proofs/Fronts.antt.
use Rattle.lard_cache.proofs.Fronts.{longest}
use Rattle.lard_cache.proofs.laws.evicts_from_the_end.Goals as goal

pub returns : goal.returns
returns c = longest
