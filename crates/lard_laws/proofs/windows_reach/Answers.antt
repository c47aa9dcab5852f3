-- By what each rule keeps.
use Rattle.lard_laws.proofs.WindowsRuns.{windows-reach}
use Rattle.lard_laws.proofs.windows_reach.Goals as goal

pub returns : goal.returns
returns c = windows-reach
