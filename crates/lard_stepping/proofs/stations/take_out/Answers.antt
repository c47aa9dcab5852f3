-- The station that stands in is found.
use Rattle.lard_stepping.proofs.Lent.{there_after}
use Rattle.lard_stepping.proofs.stations.take_out.Goals as goal

pub returns-clause-there : goal.returns-clause-there
returns-clause-there c = there_after _ _ c.args.c c.number-2.result _ c.number-2.ensures.value c.replace-station.ensures.after
