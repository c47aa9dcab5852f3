use Rattle.std.specs.FinMap as table
use Rattle.lard_front.proofs.place.finish.Given as goal

abbrev pub decreases-loop-rest : goal.decreases-loop-rest
decreases-loop-rest l = table.len l.rests
