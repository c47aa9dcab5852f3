use Rattle.lard_schedule.proofs.Lines.{line_spelled}
use Rattle.lard_schedule.proofs.reader.Reader.feed_line.Goals as goal

-- what a line stands for is one that a line can have
pub returns-clause-range : goal.returns-clause-range
returns-clause-range c = (line_spelled c.args.self.now c.args.line.now c.in_ok-item.item c.in_ok-item.ensures).2
