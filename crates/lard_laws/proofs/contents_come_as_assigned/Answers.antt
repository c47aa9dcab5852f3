-- By what each rule leaves of each connection.
use Rattle.lard_laws.proofs.WaysRuns.{contents-come}
use Rattle.lard_laws.proofs.contents_come_as_assigned.Goals as goal

pub returns : goal.returns
returns c = record { ways = contents-come }
