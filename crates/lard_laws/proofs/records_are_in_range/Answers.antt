-- By the induction over steps.
use Rattle.lard_laws.proofs.RecordsReached.{records-ranges}
use Rattle.lard_laws.proofs.records_are_in_range.Goals as goal

pub returns : goal.returns
returns c = record { range = records-ranges }
