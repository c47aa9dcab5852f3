-- Without memory for the list none is done.
use Rattle.std.proofs.lemmas.Result.{err_from_is_err_and}
use Rattle.lard_settling.specs.Settling.{takes}
use Rattle.lard_settle.proofs.Going.{none-done}
use Rattle.lard_settle.proofs.settles.take_all.Goals as goal

pub returns-in_err-events-clause-does : goal.returns-in_err-events-clause-does
returns-in_err-events-clause-does c =
    let m = c.args.world.now.machine in
    let p = err_from_is_err_and c.from_residual.result c.from_residual.ensures.1 in
    rw (p.1, p.2) (none-done m (takes m))
