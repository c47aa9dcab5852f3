-- By the step that queues them.
use Rattle.lard_laws.proofs.RecordsShort.{disks-stay}
use Rattle.lard_laws.proofs.disks_stay_short.Goals as goal

pub returns : goal.returns
returns c = record { short = disks-stay }
