-- By what backs each response.
use Rattle.lard_laws.proofs.BackingRuns.{jobs-start}
use Rattle.lard_laws.proofs.jobs_start_when_told.Goals as goal

pub returns : goal.returns
returns c = record { starts = jobs-start }
