-- The ones are the members.
use Rattle.lard_base.proofs.Flags.{ones_members}
use Rattle.lard_base.proofs.members.Members.count.Goals as goal

pub returns-clause-count : goal.returns-clause-count
returns-clause-count c = rw (← c.self.view_is) (ones_members _ c.self.invariant)
