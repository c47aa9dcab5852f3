-- By what each rule does.
use Rattle.lard_law_connections.proofs.MotionRuns.{connections-move}
use Rattle.lard_law_connections.proofs.connections_move.Goals as goal

pub returns : goal.returns
returns c = connections-move
