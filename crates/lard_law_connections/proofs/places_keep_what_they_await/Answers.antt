-- By what each rule keeps.
use Rattle.lard_law_connections.proofs.KeptRuns.{connections-are-kept}
use Rattle.lard_law_connections.proofs.places_keep_what_they_await.Goals as goal

pub returns : goal.returns
returns c = connections-are-kept
