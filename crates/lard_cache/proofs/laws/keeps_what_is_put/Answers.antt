-- The law is the lemma of proofs/Fronts.antt.
use Rattle.lard_cache.proofs.Fronts.{put-found}
use Rattle.lard_cache.proofs.laws.keeps_what_is_put.Goals as goal

pub returns : goal.returns
returns c = put-found
