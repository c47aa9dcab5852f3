-- One flag is cleared.
use Rattle.std.proofs.Common.{arith}
use Rattle.lard_base.proofs.Flags.{clear_flag}
use Rattle.lard_base.proofs.members.Members.without.Goals as goal

pub returns : goal.returns
returns c = λ k h. rw (c.number.ensures.value, ← c.self.view_is) (clear_flag _ _ k c.self.invariant (omega arith) (omega arith) h)
