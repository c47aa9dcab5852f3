-- By what holds of every step.
use Rattle.lard_law_connections.proofs.LineRuns.{takes-release}
use Rattle.lard_law_connections.proofs.what_is_taken_back_is_released.Goals as goal

pub returns : goal.returns
returns c = takes-release
