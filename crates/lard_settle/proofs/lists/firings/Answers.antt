-- Each of them has a rule.
use Rattle.lard_settle.proofs.Ruled.{firings-ruled, ruled-result}
use Rattle.lard_settle.proofs.lists.firings.Goals as goal

pub returns-clause-ruled : goal.returns-clause-ruled
returns-clause-ruled c = ruled-result c.firings_of.result _ c.firings_of.ensures (firings-ruled c.in_ok-due.field-0)
