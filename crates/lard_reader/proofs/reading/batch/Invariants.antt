-- What was read so far, and what is left to read, are the batch.
use Rattle.std.proofs.Common.{◌-◌}
use Rattle.lard_reader.proofs.Going.{Going}
use Rattle.lard_reader.proofs.reading.batch.Given as goal

abbrev pub invariant-loop-turn : goal.invariant-loop-turn
invariant-loop-turn l = Going l.unread l.verdicts l.used (8 - l._turn)
