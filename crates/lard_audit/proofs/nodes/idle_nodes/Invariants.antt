-- So many nodes were made.
use Rattle.std.proofs.Common.{◌≡◌, replicate}
use Rattle.lard_audit.specs.Nodes.{idle}
use Rattle.lard_audit.proofs.nodes.idle_nodes.Given as goal

abbrev pub invariant-loop : goal.invariant-loop
invariant-loop l = l.all.items ≡ replicate l.counter (idle l.bytes)
