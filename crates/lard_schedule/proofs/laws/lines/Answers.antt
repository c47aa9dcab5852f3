use Rattle.lard_schedule.proofs.Lines.{line_spelled, line_read, none_is}
use Rattle.lard_schedule.proofs.laws.lines.Goals as goal

pub returns-clause-item : goal.returns-clause-item
returns-clause-item c reader line what = (line_spelled reader line what, λ h. line_read reader line what h.0 h.1 h.2)

pub returns-clause-nothing : goal.returns-clause-nothing
returns-clause-nothing c reader line = none_is reader line
