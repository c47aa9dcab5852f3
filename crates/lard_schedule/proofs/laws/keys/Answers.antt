use Rattle.lard_schedule.proofs.KeysSet.{has_set, has_other}
use Rattle.lard_schedule.proofs.laws.keys.Goals as goal

pub returns-clause-set : goal.returns-clause-set
returns-clause-set c keys key = has_set keys key

pub returns-clause-others : goal.returns-clause-others
returns-clause-others c keys key other ne = has_other keys key other ne
