-- By the jobs that were queued and the Fetches that were sent.
use Rattle.lard_laws.proofs.BackingRuns.{responses-backed}
use Rattle.lard_laws.proofs.responses_are_backed.Goals as goal

pub returns : goal.returns
returns c = record { backed = responses-backed }
