-- A settle begins, and goes on from there.
use Rattle.std.proofs.Common.{Result, sym, subst}
use Rattle.std.proofs.lemmas.Result.{err_from_is_err_and}
use Rattle.lard_rules.specs.declared.machine.Machine.{Machine}
use Rattle.lard_settling.specs.declared.settled.Settled.{Settled}
use Rattle.lard_settling.specs.Settling.{Settles, Stop}
use Rattle.lard_settling.specs.Steps.{settle_begun}
use Rattle.lard_settle.proofs.Going.{agenda-on, begun-front, begun-on, begun-stops, undone-front}
use Rattle.lard_settle.proofs.Enough.{settled-enough}
use Rattle.lard_settle.proofs.Growth.{front-over}
use Rattle.lard_settle.proofs.settles.settle.Goals as goal

pub returns-in_err-begin_settle-clause-settled : goal.returns-in_err-begin_settle-clause-settled
returns-in_err-begin_settle-clause-settled c =
    let p = err_from_is_err_and c.from_residual.result c.from_residual.ensures.1 in
    rw (p.1, p.2) (begun-stops c.args.world.now.machine c.args.rounds c.begin_settle.new.self.machine c.in_err-begin_settle.field-0.0 c.in_err-begin_settle.ensures.step)

pub returns-in_err-begin_settle-clause-grows : goal.returns-in_err-begin_settle-clause-grows
returns-in_err-begin_settle-clause-grows c =
    let m = c.args.world.now.machine in
    undone-front (settle_begun m c.args.rounds) m c.begin_settle.new.self.machine c.in_err-begin_settle.field-0.0 c.in_err-begin_settle.ensures.step

pub settle_from-requires-clause-agenda : goal.settle_from-requires-clause-agenda
settle_from-requires-clause-agenda c =
    let old = c.args.world.now.machine in
    let new = c.begin_settle.new.self.machine in
    agenda-on c.args.agenda.now old.journal new.journal (begun-front old c.args.rounds new c.in_ok-begin_settle.ensures.step) c.requires.agenda

pub returns-clause-settled : goal.returns-clause-settled
returns-clause-settled c =
    subst (λ (x : Result (Machine × Settled) Stop). Settles x c.settle_from.new.world.machine c.settle_from.result)
    (sym (begun-on c.args.world.now.machine c.args.rounds c.begin_settle.new.self.machine c.in_ok-begin_settle.ensures.step)) c.settle_from.ensures.settled

pub returns-clause-grows : goal.returns-clause-grows
returns-clause-grows c =
    let old = c.args.world.now.machine in
    let new = c.begin_settle.new.self.machine in
    front-over old.journal new.journal c.settle_from.new.world.machine.journal (begun-front old c.args.rounds new c.in_ok-begin_settle.ensures.step) c.settle_from.ensures.grows

pub returns-clause-enough : goal.returns-clause-enough
returns-clause-enough c =
    settled-enough c.args.world.now.machine c.args.rounds c.settle_from.new.world.machine c.settle_from.result
    (subst (λ (x : Result (Machine × Settled) Stop). Settles x c.settle_from.new.world.machine c.settle_from.result)
    (sym (begun-on c.args.world.now.machine c.args.rounds c.begin_settle.new.self.machine c.in_ok-begin_settle.ensures.step)) c.settle_from.ensures.settled)
    c.settle_from.ensures.rests
