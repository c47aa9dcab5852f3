-- Each piece is written behind those before it; where one is not, a front of the whole was written.
use Rattle.std.proofs.Common.{refl, ◌∙◌, arith}
use Rattle.std.proofs.KnownBytes.{Appends-nil}
use Rattle.lard_app.proofs.Faults.{counted-from}
use Rattle.lard_app.proofs.Pieces.{all-written, piece-failed, piece-written}
use Rattle.lard_app.proofs.replay.write_pieces.Goals as goal

pub loop-at-init : goal.loop-at-init
loop-at-init g c = record { within = omega arith; written = Appends-nil (g.K.Sink.written c.args.sink.now); faults = refl }

pub loop-at-preserved : goal.loop-at-preserved
loop-at-preserved g c = record {
  within = c.end_of_piece-next.ensures.within;
  written = piece-written c.args.recs.now c.loop-at.at c.end_of_piece-next.result c.end_of_piece-next.ensures.more _ _ _ c.loop-at.invariant.written c.in-Ok.ensures.written;
  faults = c.in-Ok.ensures.faults ∙ c.loop-at.invariant.faults;
}

pub returns-in-Err-clause-written : goal.returns-in-Err-clause-written
returns-in-Err-clause-written g c =
    piece-failed c.args.recs.now c.loop-at.at c.end_of_piece-next.result c.end_of_piece-next.ensures.more _ _ _ c.in-Err.status c.loop-at.invariant.written c.in-Err.ensures.written

pub returns-in-Err-clause-faults : goal.returns-in-Err-clause-faults
returns-in-Err-clause-faults g c = counted-from _ _ _ c.in-Err.status c.loop-at.invariant.faults c.in-Err.ensures.faults

pub returns-clause-written : goal.returns-clause-written
returns-clause-written g c = all-written c.args.recs.now c.loop-at.at _ _ c.loop-at-test.false c.loop-at.invariant.written

pub returns-clause-faults : goal.returns-clause-faults
returns-clause-faults g c = c.loop-at.invariant.faults
