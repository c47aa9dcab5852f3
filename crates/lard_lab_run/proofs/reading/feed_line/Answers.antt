use Rattle.lard_lab_run.proofs.Spelled.{line_spelled}
use Rattle.lard_lab_run.proofs.reading.feed_line.Goals as goal

-- what a line stands for is one that a line can have
pub returns-clause-range : goal.returns-clause-range
returns-clause-range c = (line_spelled c.args.reader.now c.args.line.now c.in_ok-item.item c.in_ok-item.ensures).2
