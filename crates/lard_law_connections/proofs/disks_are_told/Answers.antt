-- By what holds of every state.
use Rattle.lard_law_connections.proofs.StoresStored.{caches-told, jobs-told}
use Rattle.lard_law_connections.proofs.disks_are_told.Goals as goal

pub returns-clause-jobs : goal.returns-clause-jobs
returns-clause-jobs c = jobs-told

pub returns-clause-caches : goal.returns-clause-caches
returns-clause-caches c = caches-told
