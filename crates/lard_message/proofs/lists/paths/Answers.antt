-- A path more, the end by a path that is none, and the end of all.
use Rattle.std.proofs.lemmas.Result.{err_from_is_err_and}
use Rattle.lard_message.specs.Reading.{paths_at}
use Rattle.lard_message.proofs.Loops.{path_more, path_stops, paths_done}
use Rattle.lard_message.proofs.lists.paths.Goals as goal

pub returns-in_err-path : goal.returns-in_err-path
returns-in_err-path c =
    let p = err_from_is_err_and c.from_residual.result c.from_residual.ensures.1 in
    rw (p.1, p.2) (path_stops c.in_err-path.field-0.0 c.loop.paths c.args.count c.loop.counter c.loop.rest.now (paths_at c.args.count c.args.bytes.now) c.loop-test.true c.in_err-path.ensures c.loop.invariant)

pub loop-preserved : goal.loop-preserved
loop-preserved c = rw c.in_ok-push.ensures.ok (path_more c.loop.paths c.args.count c.loop.counter c.loop.rest.now c.in_ok-from_slice.field-0 c.in_ok-path.after.now (paths_at c.args.count c.args.bytes.now) c.loop-test.true (rw c.in_ok-from_slice.ensures c.in_ok-path.ensures) c.loop.invariant)

pub returns : goal.returns
returns c = paths_done c.loop.paths c.args.count c.loop.counter c.loop.rest.now (paths_at c.args.count c.args.bytes.now) c.loop-test.false c.loop.invariant
