use Rattle.std.proofs.Common.{◌≡◌, replicate}
use Rattle.lard_rules.specs.NodePlace.{no_stays}
use Rattle.lard_world.proofs.world.begin_nodes.Given as goal

-- so many nodes have begun
abbrev pub invariant-loop-made : goal.invariant-loop-made
invariant-loop-made l = l.nodes ≡ replicate l._made (no_stays l.fn.cache)
