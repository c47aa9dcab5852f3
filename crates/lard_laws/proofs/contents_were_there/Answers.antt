-- By what each rule leaves of a node's batch.
use Rattle.lard_laws.proofs.WaysEarlier.{contents-were-there}
use Rattle.lard_laws.proofs.contents_were_there.Goals as goal

pub returns : goal.returns
returns c = record { came = contents-were-there }
