-- The bytes of the paths so far.
use Rattle.std.proofs.Common.{◌≡◌, ◌≤◌, ◌*◌, length, take, flat_map}
use Rattle.lard_message.specs.Message.{counted_bytes}
use Rattle.lard_message.proofs.writing.paths_len.Given as goal

abbrev pub invariant-loop-path : goal.invariant-loop-path
invariant-loop-path l = record {
  value : l.total ≡ length (flat_map counted_bytes (take l.path-index l.paths));
  small : l.total ≤ 1026 * l.path-index;
}
