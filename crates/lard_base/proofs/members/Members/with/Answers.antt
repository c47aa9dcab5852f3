-- One flag is set.
use Rattle.std.proofs.Common.{arith}
use Rattle.std.proofs.lemmas.Nat.{or_lt}
use Rattle.lard_base.proofs.Flags.{set_flag}
use Rattle.lard_base.proofs.members.Members.with.Goals as goal

pub returns : goal.returns
returns c = λ k h. rw (c.number.ensures.value, ← c.self.view_is) (set_flag _ _ k (omega arith) (omega arith) h)

pub invariant_of-result : goal.invariant_of-result
invariant_of-result c = or_lt 64 _ _ c.self.invariant (omega arith)
