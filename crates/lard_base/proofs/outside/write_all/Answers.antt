-- A front was written, and each call writes more of it.
use Rattle.std.proofs.Common.{take, drop, ◌∙◌}
use Rattle.std.proofs.KnownBytes.{Appends-kept}
use Rattle.std.proofs.lemmas.List.{take-append-drop}
use Rattle.lard_base.proofs.Pieces.{on_err_from, rest_length, written_more}
use Rattle.lard_base.proofs.outside.write_all.Goals as goal

pub returns-in_err-done-clause-err : goal.returns-in_err-done-clause-err
returns-in_err-done-clause-err g c = on_err_from c.from_residual.result (record {
  front = take c.loop-done.done c.args.bytes.now;
  rest = drop c.loop-done.done c.args.bytes.now;
  is = take-append-drop c.loop-done.done c.args.bytes.now;
  written = Appends-kept _ _ _ _ c.loop-done.invariant.written c.in_err-done.ensures.bytes;
})

pub loop-done-preserved : goal.loop-done-preserved
loop-done-preserved g c = record {
  within = rest_length c.args.bytes.now c.loop-done.done _ c.loop-done.invariant.within c.in_ok-done.ensures.bound;
  written = written_more _ _ _ c.args.bytes.now c.loop-done.done _ c.loop-done.invariant.written c.in_ok-done.ensures.bytes;
  faults = c.in_ok-done.ensures.cause.same ∙ c.loop-done.invariant.faults;
}
