-- By the laws of every run.
use Rattle.lard_law_settles.proofs.KnownRuns.{each-known}
use Rattle.lard_law_settles.proofs.each_connection_is_known.Goals as goal

pub returns : goal.returns
returns c = each-known
