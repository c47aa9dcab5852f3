-- Each turn leaves one value less.
use Rattle.std.specs.FinMap as map
use Rattle.lard_tests_texts.proofs.table.finish.Given as goal

abbrev pub decreases-loop-ticket : goal.decreases-loop-ticket
decreases-loop-ticket l = map.len l.table
