-- Each turn leaves one connection less.
use Rattle.std.specs.FinMap as map
use Rattle.lard_handoff_front.proofs.table.FrontTable.finish.Given as goal

abbrev pub decreases-loop-row : goal.decreases-loop-row
decreases-loop-row l = map.len l.conns
