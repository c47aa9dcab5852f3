-- One round more, or one that stops; and the end, by quiet or by number.
use Rattle.std.proofs.Common.{◌-◌, ◌+◌, ◌∙◌, ℕ, Result, Err, arith, sym, subst}
use Rattle.std.proofs.lemmas.Result.{err_from_is_err_and}
use Rattle.lard_rules.specs.declared.machine.Machine.{Machine}
use Rattle.lard_settling.specs.Settling.{DoesRounds, IsFrontOf, Stop, rounds_journal}
use Rattle.lard_settle.proofs.Going.{rounds-none, rounds-on, rounds-quiet, rounds-stop}
use Rattle.lard_settle.proofs.Growth.{front-over, rounds-grow}
use Rattle.lard_settle.proofs.rounds.do_rounds.Goals as goal

pub returns-in_err-is_quiet-clause-does : goal.returns-in_err-is_quiet-clause-does
returns-in_err-is_quiet-clause-does c =
    let now = c.loop-done.world.machine in
    let done : ℕ = c.loop-done.done in
    let p = err_from_is_err_and c.from_residual.result c.from_residual.ensures.1 in
    rw (p.1, p.2) (subst (λ (x : Result (Machine × ℕ) Stop). IsFrontOf now.journal (rounds_journal x)) (sym c.loop-done.invariant.does) (rounds-grow (c.args.rounds - done) done now))

pub returns-then-branch-clause-does : goal.returns-then-branch-clause-does
returns-then-branch-clause-does c =
    let done : ℕ = c.loop-done.done in
    let less = c.loop-done-test.true in
    c.loop-done.invariant.does ∙ rounds-quiet (c.args.rounds - done) (c.args.rounds - (done + 1)) done c.loop-done.world.machine (omega (arith, less)) (sym c.in_ok-is_quiet.ensures.quiet ∙ c.if-branch.true)

pub returns-in_err-round-clause-does : goal.returns-in_err-round-clause-does
returns-in_err-round-clause-does c =
    let now = c.loop-done.world.machine in
    let new = c.round.new.world.machine in
    let done : ℕ = c.loop-done.done in
    let fault = c.in_err-round.field-0.0 in
    let less = c.loop-done-test.true in
    let p = err_from_is_err_and c.from_residual-in_err-round.result c.from_residual-in_err-round.ensures.1 in
    rw (p.1, p.2) (subst (λ (x : Result (Machine × ℕ) Stop). DoesRounds x new (Err fault)) (sym c.loop-done.invariant.does)
    (rounds-stop (c.args.rounds - done) (c.args.rounds - (done + 1)) done now (omega (arith, less)) new fault (sym c.in_ok-is_quiet.ensures.quiet ∙ c.if-branch.false) c.in_err-round.ensures.does))

pub loop-done-preserved : goal.loop-done-preserved
loop-done-preserved c =
    let now = c.loop-done.world.machine in
    let new = c.round.new.world.machine in
    let done : ℕ = c.loop-done.done in
    let less = c.loop-done-test.true in
    let old = c.loop-done.invariant in record {
      does = old.does ∙ rounds-on (c.args.rounds - done) (c.args.rounds - (done + 1)) done now (omega (arith, less)) new (sym c.in_ok-is_quiet.ensures.quiet ∙ c.if-branch.false) c.in_ok-round.ensures.does;
      usable = c.in_ok-round.ensures.usable;
      grows = front-over c.args.world.now.machine.journal now.journal new.journal old.grows c.in_ok-round.ensures.grows;
      agenda = c.in_ok-round.ensures.agenda;
    }

pub returns-clause-does : goal.returns-clause-does
returns-clause-does c =
    let done : ℕ = c.loop-done.done in
    let over = c.loop-done-test.false in
    let most = c.loop-done.auto.done-end in
    c.loop-done.invariant.does ∙ rounds-none (c.args.rounds - done) done c.args.rounds c.loop-done.world.machine (omega (arith, over)) (omega (arith, over, most))
