-- Where the rounds stop, the settle does.
use Rattle.std.proofs.lemmas.Result.{err_from_is_err_and}
use Rattle.lard_settling.specs.Settling.{rounds_from}
use Rattle.lard_settle.proofs.Going.{closed-stops}
use Rattle.lard_settle.proofs.Growth.{front-over}
use Rattle.lard_settle.proofs.settles.do_and_close.Goals as goal

pub returns-in_err-done-clause-settled : goal.returns-in_err-done-clause-settled
returns-in_err-done-clause-settled c =
    let p = err_from_is_err_and c.from_residual.result c.from_residual.ensures.1 in
    rw (p.1, p.2) (closed-stops (rounds_from c.args.rounds 0 c.args.world.now.machine) c.do_rounds.new.world.machine c.in_err-done.field-0.0 c.in_err-done.ensures.does)

pub returns-clause-grows : goal.returns-clause-grows
returns-clause-grows c = front-over c.args.world.now.machine.journal c.do_rounds.new.world.machine.journal c.close.new.world.machine.journal c.in_ok-done.ensures.grows c.close.ensures.grows
