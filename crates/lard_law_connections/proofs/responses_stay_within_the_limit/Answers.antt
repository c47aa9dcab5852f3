-- By what each rule keeps.
use Rattle.lard_law_connections.proofs.LimitsRuns.{connections-counted, resets-lawful}
use Rattle.lard_law_connections.proofs.responses_stay_within_the_limit.Goals as goal

pub returns : goal.returns
returns c = record {
  connections = connections-counted;
  resets = resets-lawful;
}
