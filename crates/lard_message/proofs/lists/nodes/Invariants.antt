-- What was read so far and what is read of the rest is what all gives.
use Rattle.std.proofs.Common.{◌≡◌, drop}
use Rattle.lard_message.specs.Reading.{nodes_of}
use Rattle.lard_message.proofs.Loops.{with_nodes}
use Rattle.lard_message.proofs.lists.nodes.Given as goal

abbrev pub invariant-loop-byte : goal.invariant-loop-byte
invariant-loop-byte l = with_nodes l.nodes (nodes_of (drop l.byte-index l.bytes)) ≡ nodes_of l.bytes
