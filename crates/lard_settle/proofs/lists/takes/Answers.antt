-- Each of them has a rule.
use Rattle.std.proofs.Common.{filter}
use Rattle.lard_settle.proofs.Ruled.{takes-ruled, ruled-result}
use Rattle.lard_settling.specs.Left.{is_holder}
use Rattle.lard_settle.proofs.lists.takes.Goals as goal

pub returns-clause-ruled : goal.returns-clause-ruled
returns-clause-ruled c = ruled-result c.takes_of.result _ c.takes_of.ensures (takes-ruled (filter (is_holder c.args.world.now.machine) c.in_ok-holders.field-0))
