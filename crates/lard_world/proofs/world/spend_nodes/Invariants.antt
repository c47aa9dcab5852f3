use Rattle.std.proofs.Common.{length}
use Rattle.lard_world.proofs.world.spend_nodes.Given as goal

abbrev pub decreases-loop-node : goal.decreases-loop-node
decreases-loop-node l = length l.nodes
