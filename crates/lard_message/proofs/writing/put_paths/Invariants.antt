-- The paths so far are written.
use Rattle.std.proofs.Common.{◌≡◌, ◌∷◌, ◌++◌, length, take, flat_map}
use Rattle.lard_message.specs.Message.{counted_bytes}
use Rattle.lard_message.proofs.writing.put_paths.Given as goal

abbrev pub invariant-loop-path : goal.invariant-loop-path
invariant-loop-path l = l.out.items ≡ l.fn.out.items ++ length l.paths ∷ flat_map counted_bytes (take l.path-index l.paths)
