-- Each of them has a rule.
use Rattle.lard_settle.proofs.Ruled.{deliveries-ruled, ruled-result}
use Rattle.lard_settle.proofs.lists.deliveries.Goals as goal

pub returns-clause-ruled : goal.returns-clause-ruled
returns-clause-ruled c = ruled-result c.deliveries_of.result _ c.deliveries_of.ensures (deliveries-ruled c.in_ok-on_way.field-0)
