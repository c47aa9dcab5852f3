-- What the rest of the options gives is what all of them give.
use Rattle.std.proofs.Common.{◌≡◌, length}
use Rattle.lard_segment.specs.Options.{mss_among, mss_in}
use Rattle.lard_segment.proofs.options.mss_of.Given as goal

abbrev pub invariant-loop-kind : goal.invariant-loop-kind
invariant-loop-kind l = mss_among (length l.rest) l.rest l.mss ≡ mss_in l.bytes

abbrev pub decreases-loop-kind : goal.decreases-loop-kind
decreases-loop-kind l = length l.rest
