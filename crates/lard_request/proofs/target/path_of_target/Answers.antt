-- A target that begins with `/` is origin-form, and one with a scheme is absolute-form.
use Rattle.std.proofs.Common.{take, drop, sym, ap, ◌∙◌, option_copied}
use Rattle.lard_request.proofs.Places.{path-origin, path-other, path-absolute}
use Rattle.lard_request.proofs.target.path_of_target.Goals as goal

pub returns-then-starts_with : goal.returns-then-starts_with
returns-then-starts_with c = path-origin c.args.target.now c.before_query.result.now (sym c.starts_with.ensures.value ∙ c.if-starts_with.true) c.before_query.ensures

pub returns-then-not-is_word : goal.returns-then-not-is_word
returns-then-not-is_word c =
    path-other c.args.target.now c.split_at.result.0.now (sym c.starts_with.ensures.value ∙ c.if-starts_with.false)
    (c.split_at.ensures.front ∙ ap (λ k. take k c.args.target.now) c.min.ensures) (sym c.is_word.ensures ∙ c.if-not-is_word.true)

pub returns : goal.returns
returns c =
    path-absolute c.args.target.now c.split_at.result.0.now c.split_at.result.1.now (option_copied c.path_of_absolute.result) (sym c.starts_with.ensures.value ∙ c.if-starts_with.false)
    (c.split_at.ensures.front ∙ ap (λ k. take k c.args.target.now) c.min.ensures) (c.split_at.ensures.back ∙ ap (λ k. drop k c.args.target.now) c.min.ensures)
    (sym c.is_word.ensures ∙ c.if-not-is_word.false) c.path_of_absolute.ensures
