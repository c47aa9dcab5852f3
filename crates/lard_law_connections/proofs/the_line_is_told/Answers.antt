-- By what holds of every state.
use Rattle.lard_law_connections.proofs.LineRuns.{line-is-kept, line-is-of-those-who-wait, line-passes, waits-at-a-full-room, waits-at-the-front-end}
use Rattle.lard_law_connections.proofs.the_line_is_told.Goals as goal

pub returns-clause-kept : goal.returns-clause-kept
returns-clause-kept c = line-is-kept

pub returns-clause-full : goal.returns-clause-full
returns-clause-full c = waits-at-a-full-room

pub returns-clause-order : goal.returns-clause-order
returns-clause-order c = line-passes

pub returns-clause-those : goal.returns-clause-those
returns-clause-those c = line-is-of-those-who-wait

pub returns-clause-joins : goal.returns-clause-joins
returns-clause-joins c = waits-at-the-front-end
