-- Each turn leaves one connection less, one refused epoch, or one count of responses.
use Rattle.std.specs.FinMap as map
use Rattle.lard_handoff_back.proofs.table.BackTable.finish.Given as goal

abbrev pub decreases-loop-row : goal.decreases-loop-row
decreases-loop-row l = map.len l.conns

abbrev pub decreases-loop-epoch : goal.decreases-loop-epoch
decreases-loop-epoch l = map.len l.refused

abbrev pub decreases-loop-served : goal.decreases-loop-served
decreases-loop-served l = map.len l.returned
