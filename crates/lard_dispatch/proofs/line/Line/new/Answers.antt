-- Nobody waits, and no arrival is known.
use Rattle.std.proofs.Common.{refl}
use Rattle.lard_dispatch.proofs.Kept.{nobody}
use Rattle.lard_dispatch.proofs.line.Line.new.Goals as goal

pub invariant_of-result : goal.invariant_of-result
invariant_of-result c = nobody c.new-waiting.result.entries c.in_ok-arrivals.arrivals.items 16384 c.new-waiting.ensures.empty refl c.in_ok-arrivals.ensures c.new-waiting.ensures.ordered
