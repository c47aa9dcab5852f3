-- The law is the lemma of proofs/Fronts.antt.
use Rattle.lard_cache.proofs.Fronts.{stays-within}
use Rattle.lard_cache.proofs.laws.stays_within_its_bounds.Goals as goal

pub returns : goal.returns
returns c = stays-within
