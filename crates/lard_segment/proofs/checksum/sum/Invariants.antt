-- What is summed so far and what the rest adds is the whole sum.
use Rattle.std.proofs.Common.{◌≡◌, ◌≤◌, ◌+◌, ◌*◌, length}
use Rattle.lard_segment.specs.Checksum.{words_sum}
use Rattle.lard_segment.proofs.checksum.sum.Given as goal

abbrev pub invariant-loop-rest : goal.invariant-loop-rest
invariant-loop-rest l = record {
  total : l.total + words_sum l.rest ≡ words_sum l.bytes;
  small : 2 * l.total + 65535 * length l.rest ≤ 65535 * length l.bytes;
}

abbrev pub decreases-loop-rest : goal.decreases-loop-rest
decreases-loop-rest l = length l.rest
