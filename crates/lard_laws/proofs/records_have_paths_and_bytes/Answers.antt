-- By what each connection saw, and what caches and disks have.
use Rattle.lard_laws.proofs.FormedRuns.{records-told}
use Rattle.lard_laws.proofs.records_have_paths_and_bytes.Goals as goal

pub returns : goal.returns
returns c = record { formed = records-told }
