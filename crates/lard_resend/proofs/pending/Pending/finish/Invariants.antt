-- Each turn leaves one connection less.
use Rattle.std.specs.FinMap as map
use Rattle.lard_resend.proofs.pending.Pending.finish.Given as goal

abbrev pub decreases-loop-list : goal.decreases-loop-list
decreases-loop-list l = map.len l.all
