-- The heading and the files are written, and the run does not end in this.
use Rattle.lard_app.proofs.Halts.{writes-halts}
use Rattle.lard_app.proofs.replay.Replay.go.Goals as goal

pub returns-in-Ok-clause-halts : goal.returns-in-Ok-clause-halts
returns-in-Ok-clause-halts g c = writes-halts _ _ _ _ _ c.write.result c.write.ensures.written
