-- By the shapes of a step.
use Rattle.lard_law_view.specs.Prelude.{PassesTest}
use Rattle.lard_law_view.proofs.Carried.{step_moves}
use Rattle.lard_law_view.proofs.connections_go_by_rules.Goals as goal

pub returns : goal.returns
returns c = λ m n e test view R rule is q. step_moves m n e (PassesTest test) view R rule is q
