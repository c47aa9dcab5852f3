-- The time moves on.
use Rattle.lard_lab.specs.Desk.{Desk}
use Rattle.lard_lab.proofs.Soundness.{later-sound}
use Rattle.lard_lab.proofs.assigner.Assigner.advance.Goals as goal

pub invariant_of-self : goal.invariant_of-self
invariant_of-self c =
    let old : Desk = record { policy = c.self.inside.policy; config = c.self.inside.config; time = c.self.inside.time; made = c.self.inside.made; loads = c.self.inside.loads; targets = c.self.inside.targets } in
    (c.self.invariant.0, later-sound old c.from.result c.self.invariant.1)
