-- The flags are told by the members.
use Rattle.std.proofs.Common.{◌∙◌, sym, arith}
use Rattle.lard_sets.proofs.Flags.{same_flags, has-with_member}
use Rattle.lard_sets.proofs.sets.with_member.Goals as goal

pub returns : goal.returns
returns c = same_flags _ _ (λ k h. c.with.ensures k h ∙ sym (has-with_member c.args.members c.args.n k (omega arith) h))
