-- Where the takes stop, the settle does.
use Rattle.std.proofs.lemmas.Result.{err_from_is_err_and}
use Rattle.lard_settling.specs.Settling.{all_inner, takes}
use Rattle.lard_settle.proofs.Going.{takes-stop}
use Rattle.lard_settle.proofs.Growth.{front-over}
use Rattle.lard_settle.proofs.settles.settle_from.Goals as goal

pub returns-in_err-take_all-clause-settled : goal.returns-in_err-take_all-clause-settled
returns-in_err-take_all-clause-settled c =
    let m = c.args.world.now.machine in
    let p = err_from_is_err_and c.from_residual.result c.from_residual.ensures.1 in
    rw (p.1, p.2) (takes-stop c.args.rounds (all_inner m (takes m)) c.take_all.new.world.machine c.in_err-take_all.field-0.0 c.in_err-take_all.ensures.does)

pub returns-clause-grows : goal.returns-clause-grows
returns-clause-grows c = front-over c.args.world.now.machine.journal c.take_all.new.world.machine.journal c.do_and_close.new.world.machine.journal c.in_ok-take_all.ensures.grows c.do_and_close.ensures.grows
