-- Its configuration passed its check.
use Rattle.std.proofs.Common.{◌≤◌, ◌∙◌, ap, subst}
use Rattle.lard_world.specs.World.{WorldStanding}
use Rattle.lard_world.proofs.world.World.law.Goals as goal

pub returns : goal.returns
returns c = subst (λ (w : WorldStanding). w.machine.config.nodes ≤ 64) c.self.view_is (c.self.invariant (ap (λ w. w.spoiled) c.self.view_is ∙ c.requires)).set.nodes
