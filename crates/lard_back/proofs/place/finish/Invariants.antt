use Rattle.std.specs.FinMap as table
use Rattle.lard_back.proofs.place.finish.Given as goal

abbrev pub decreases-loop-stay : goal.decreases-loop-stay
decreases-loop-stay l = table.len l.stays
