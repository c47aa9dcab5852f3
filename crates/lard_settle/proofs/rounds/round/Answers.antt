-- The deliveries, and what is behind them.
use Rattle.std.proofs.Common.{◌∙◌, ap, length}
use Rattle.std.proofs.lemmas.Result.{err_from_is_err_and}
use Rattle.lard_settle.proofs.Going.{round-goes, round-stops}
use Rattle.lard_settle.proofs.Growth.{front-over}
use Rattle.lard_settle.proofs.rounds.round.Goals as goal

pub returns-in_err-deliver_all-clause-does : goal.returns-in_err-deliver_all-clause-does
returns-in_err-deliver_all-clause-does c =
    let p = err_from_is_err_and c.from_residual.result c.from_residual.ensures.1 in
    rw (p.1, p.2) (round-stops c.args.world.now.machine c.deliver_all.new.world.machine c.in_err-deliver_all.field-0.0 c.in_err-deliver_all.ensures.does)

pub returns-clause-does : goal.returns-clause-does
returns-clause-does c = round-goes c.args.world.now.machine c.deliver_all.new.world.machine c.complete_since.new.world.machine c.complete_since.result c.len-records.result
    (c.len-records.ensures ∙ ap length c.journal.ensures) c.in_ok-deliver_all.ensures.does c.complete_since.ensures.does

pub returns-clause-grows : goal.returns-clause-grows
returns-clause-grows c = front-over c.args.world.now.machine.journal c.deliver_all.new.world.machine.journal c.complete_since.new.world.machine.journal c.in_ok-deliver_all.ensures.grows c.complete_since.ensures.grows
