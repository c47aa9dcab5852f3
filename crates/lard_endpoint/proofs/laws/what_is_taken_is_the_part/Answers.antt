-- The bytes, by their lemma.
use Rattle.lard_endpoint.proofs.Fresh.{gained-part}
use Rattle.lard_endpoint.proofs.laws.what_is_taken_is_the_part.Goals as goal

pub returns-clause-bytes : goal.returns-clause-bytes
returns-clause-bytes c = gained-part
