-- The closing record is one more, and closes the settle.
use Rattle.std.proofs.Common.{List, sym, subst}
use Rattle.std.proofs.lemmas.Result.{err_from_is_err_and}
use Rattle.lard_journal.specs.declared.rec.Rec.{Rec}
use Rattle.lard_rules.specs.declared.machine.Machine.{Machine}
use Rattle.lard_settling.specs.Settling.{IsFrontOf, settle_left}
use Rattle.lard_settling.specs.Steps.{settle_closed}
use Rattle.lard_settle.proofs.Growth.{closed-front, front-same}
use Rattle.lard_settle.proofs.settles.close.Goals as goal

pub returns-in_err-count-clause-settled : goal.returns-in_err-count-clause-settled
returns-in_err-count-clause-settled c =
    let m = c.args.world.now.machine in
    let p = err_from_is_err_and c.from_residual.result c.from_residual.ensures.1 in
    rw (p.1, p.2) (closed-front m c.args.done (settle_left m))

pub returns-in_err-end_settle-clause-settled : goal.returns-in_err-end_settle-clause-settled
returns-in_err-end_settle-clause-settled c =
    let m = c.args.world.now.machine in
    let p = err_from_is_err_and c.from_residual-in_err-end_settle.result c.from_residual-in_err-end_settle.ensures.1 in
    rw (p.1, p.2) (subst (λ (J : List Rec). IsFrontOf J (settle_closed m c.args.done (settle_left m)).journal) (sym c.in_err-end_settle.ensures.err) (closed-front m c.args.done (settle_left m)))

pub returns-in_err-end_settle-clause-grows : goal.returns-in_err-end_settle-clause-grows
returns-in_err-end_settle-clause-grows c =
    let J = c.args.world.now.machine.journal in
    subst (IsFrontOf J) (sym c.in_err-end_settle.ensures.err) (front-same J)

pub returns-clause-grows : goal.returns-clause-grows
returns-clause-grows c =
    let m = c.args.world.now.machine in
    subst (λ (n : Machine). IsFrontOf m.journal n.journal) (sym c.in_ok-end_settle.ensures.ok) (closed-front m c.args.done c.in_ok-count.count)
