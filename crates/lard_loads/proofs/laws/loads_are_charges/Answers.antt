use Rattle.lard_loads.proofs.Charged.{all_charged}
use Rattle.lard_loads.proofs.laws.loads_are_charges.Goals as goal

pub returns : goal.returns
returns c = λ nodes calls may. (all_charged nodes calls may).loads
