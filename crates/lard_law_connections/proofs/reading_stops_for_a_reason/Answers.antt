-- By what each rule keeps.
use Rattle.lard_law_connections.proofs.StopsRuns.{connections-stop}
use Rattle.lard_law_connections.proofs.reading_stops_for_a_reason.Goals as goal

pub returns : goal.returns
returns c = connections-stop
