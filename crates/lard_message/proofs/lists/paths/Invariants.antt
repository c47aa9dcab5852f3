-- What was read so far and what is read of the rest is what all gives.
use Rattle.std.proofs.Common.{◌≡◌, ◌-◌}
use Rattle.lard_message.specs.Reading.{paths_at}
use Rattle.lard_message.proofs.Loops.{with_front}
use Rattle.lard_message.proofs.lists.paths.Given as goal

abbrev pub invariant-loop : goal.invariant-loop
invariant-loop l = with_front l.paths (paths_at (l.count - l.counter) l.rest) ≡ paths_at l.count l.bytes
