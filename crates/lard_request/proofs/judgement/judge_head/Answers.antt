-- The judgements on a head, in their order.
use Rattle.std.proofs.Common.{List, ℕ, sym, ◌∙◌, ap}
use Rattle.lard_request.specs.Verdict.{asked}
use Rattle.lard_request.proofs.Judging.{host-told, content-told, close-told, verdict-host, verdict-content, verdict-asked, is_too}
use Rattle.lard_request.proofs.judgement.judge_head.Goals as goal

pub returns-then-not-has_good_host : goal.returns-then-not-has_good_host
returns-then-not-has_good_host c = λ h at.
    verdict-host h (sym (host-told c.in_ok-fields.fields c.args.block.now c.args.spans.now c.args.head.now h c.in_ok-fields.ensures at) ∙ sym c.has_good_host.ensures ∙ c.if-not-has_good_host.true)

pub returns-then-has_content : goal.returns-then-has_content
returns-then-has_content c = λ h at.
    verdict-content h
    (sym (host-told c.in_ok-fields.fields c.args.block.now c.args.spans.now c.args.head.now h c.in_ok-fields.ensures at) ∙ sym c.has_good_host.ensures ∙ c.if-not-has_good_host.false)
    (sym (content-told c.in_ok-fields.fields c.args.block.now c.args.spans.now c.args.head.now h c.in_ok-fields.ensures at) ∙ sym c.has_content.ensures ∙ c.if-has_content.true)

pub returns : goal.returns
returns c = λ h at.
    is_too c.judge_ask.result _ _
    (ap (λ (m : List ℕ). asked m c.of-2.result.now c.closes_behind-close.result) (c.of.ensures ∙ at.method)
    ∙ ap (λ (t : List ℕ). asked h.method t c.closes_behind-close.result) (c.of-2.ensures ∙ at.path)
    ∙ ap (asked h.method h.target) (c.closes_behind-close.ensures ∙ close-told c.in_ok-fields.fields c.args.block.now c.args.spans.now c.args.head.now h c.in_ok-fields.ensures at)
    ∙ verdict-asked h
    (sym (host-told c.in_ok-fields.fields c.args.block.now c.args.spans.now c.args.head.now h c.in_ok-fields.ensures at) ∙ sym c.has_good_host.ensures ∙ c.if-not-has_good_host.false)
    (sym (content-told c.in_ok-fields.fields c.args.block.now c.args.spans.now c.args.head.now h c.in_ok-fields.ensures at) ∙ sym c.has_content.ensures ∙ c.if-has_content.false))
    c.judge_ask.ensures
