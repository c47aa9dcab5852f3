-- Each call goes on behind what stands.
use Rattle.std.proofs.Common.{◌≡◌, ap, subst, ◌∙◌, List, ℕ, OnOk}
use Rattle.std.specs.List.{fold}
use Rattle.std.specs.Fmt.{decimal}
use Rattle.lard_base.specs.Spelling.{spaced, event_words}
use Rattle.lard_journal.proofs.Begins.{begins_behind, on_err, on_err_behind}
use Rattle.lard_journal.proofs.lines.numbered.Goals as goal

pub returns-in_err-bytes-clause-err : goal.returns-in_err-bytes-clause-err
returns-in_err-bytes-clause-err c = on_err _ c.in_err-bytes.ensures.err

pub returns-in_err-number-clause-err : goal.returns-in_err-number-clause-err
returns-in_err-number-clause-err c = on_err _ (begins_behind _ _ _ _ c.in_ok-bytes.ensures.ok c.in_err-number.ensures.err)

pub returns-clause-ok : goal.returns-clause-ok
returns-clause-ok c =
    subst (λ (t : List ℕ). OnOk c.event.result (c.event.new.out.items ≡ fold spaced t (event_words c.args.line.now)))
    (c.in_ok-number.ensures.ok ∙ ap (λ (t : List ℕ). spaced t (decimal c.args.i)) c.in_ok-bytes.ensures.ok) c.event.ensures.ok

pub returns-clause-err : goal.returns-clause-err
returns-clause-err c =
    on_err_behind _ (λ h. begins_behind _ _ _ _ c.in_ok-bytes.ensures.ok (begins_behind _ _ _ _ c.in_ok-number.ensures.ok h)) c.event.ensures.err
