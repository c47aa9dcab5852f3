-- A request that is open is released.
use Rattle.std.proofs.Common.{sym, subst}
use Rattle.lard_loads.specs.Tally.{Tally}
use Rattle.lard_lab.specs.Desk.{Desk}
use Rattle.lard_lab.specs.Sound.{IsDeskSound}
use Rattle.lard_lab.proofs.Soundness.{done-sound}
use Rattle.lard_lab.proofs.assigner.Assigner.end.Goals as goal

pub invariant_of-self : goal.invariant_of-self
invariant_of-self c =
    let old : Desk = record { policy = c.self.inside.policy; config = c.self.inside.config; time = c.self.inside.time; made = c.self.inside.made; loads = c.self.inside.loads; targets = c.self.inside.targets } in
    (c.self.invariant.0, subst (λ (l : Tally). IsDeskSound (record old { loads = l })) (sym c.release.ensures) (done-sound old c.in-Some.c c.self.invariant.1))
