-- What was written goes on by the lines of the nodes that are left.
use Rattle.std.proofs.Common.{◌≡◌, ◌≤◌, ◌+◌, ◌-◌, ◌++◌, drop, length}
use Rattle.lard_lab.specs.Text.{node_lines}
use Rattle.lard_lab.proofs.text.push_nodes.Given as goal

abbrev pub invariant-loop-at : goal.invariant-loop-at
invariant-loop-at l = (l.at ≤ length l.nodes) × (l.text.items ++ node_lines (l.at + 1) (drop l.at l.nodes) ≡ l.initial.text.items ++ node_lines 1 l.nodes)

abbrev pub decreases-loop-at : goal.decreases-loop-at
decreases-loop-at l = length l.nodes - l.at
