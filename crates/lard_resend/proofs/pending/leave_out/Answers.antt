-- What is kept are those that the test lets through.
use Rattle.std.proofs.Common.{rules, not}
use Rattle.std.proofs.lemmas.Fn.{filter_same}
use Rattle.lard_resend.specs.Kept.{is_under}
use Rattle.lard_resend.proofs.pending.leave_out.Goals as goal

pub returns : goal.returns
returns c = filter_same _ (λ k. not (is_under c.args.kind c.args.r k)) _ (λ x b f' k. search rules) _ _ c.retain.ensures.filtered
