-- With one message more they are in order.
use Rattle.std.proofs.Common.{◌≡◌, ℕ, false, is_some, sym, subst}
use Rattle.lard_resend.specs.Pending.{under}
use Rattle.lard_resend.proofs.Held.{Held, held_or_same}
use Rattle.lard_resend.proofs.pending.Pending.hold.Goals as goal

pub invariant_of-self : goal.invariant_of-self
invariant_of-self c =
    held_or_same c.self.inside.all c.add.new.all c.number.result (record { kind = c.args.key.kind; r = c.args.key.r; to = c.args.to; bytes = c.args.bytes })
    c.add.result c.add.ensures.ok c.add.ensures.err c.self.invariant
    (subst (λ (m : Held). is_some (under m c.number.result c.args.key.kind c.args.key.r) ≡ false) (sym c.self.view_is)
    (subst (λ (n : ℕ). is_some (under c.args.self.now n c.args.key.kind c.args.key.r) ≡ false) (sym c.number.ensures.value) c.requires.fresh)) c.requires.fits
