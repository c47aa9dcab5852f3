use Rattle.lard_loads.proofs.Charged.{all_add_up}
use Rattle.lard_loads.proofs.laws.loads_add_up.Goals as goal

pub returns : goal.returns
returns c = all_add_up
