-- By what each rule keeps, and by the jobs that the journal tells.
use Rattle.lard_laws.proofs.OriginsJobs.{jobs-from-home}
use Rattle.lard_laws.proofs.jobs_come_from_home.Goals as goal

pub returns : goal.returns
returns c = jobs-from-home
