-- By what each rule keeps.
use Rattle.lard_law_connections.proofs.AwaitsRuns.{connections-await}
use Rattle.lard_law_connections.proofs.what_is_awaited_was_asked_for.Goals as goal

pub returns : goal.returns
returns c = connections-await
