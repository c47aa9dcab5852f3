-- What is left is in order.
use Rattle.std.proofs.Common.{sym, subst}
use Rattle.lard_resend.specs.Pending.{AreHeld}
use Rattle.lard_resend.proofs.Held.{one_less}
use Rattle.lard_resend.proofs.pending.Pending.settle.Goals as goal

pub invariant_of-self : goal.invariant_of-self
invariant_of-self c = subst AreHeld (sym c.drop_one.ensures) (one_less c.self.inside.all c.args.key.c c.args.key.kind c.args.key.r c.self.invariant)
