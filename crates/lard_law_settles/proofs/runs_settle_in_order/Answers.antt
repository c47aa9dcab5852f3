-- Step by step.
use Rattle.lard_law_settles.proofs.SettlesOrder.{in-order}
use Rattle.lard_law_settles.proofs.runs_settle_in_order.Goals as goal

pub returns : goal.returns
returns c = record { order = in-order }
