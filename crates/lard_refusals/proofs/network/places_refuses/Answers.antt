use Rattle.std.proofs.Common.{◌≡◌, Option, None, Some, refl}
use Rattle.lard_law_view.specs.Prelude.{Client, Front, Node, Place}
use Rattle.lard_refusals.proofs.network.places_refuses.Goals as goal

pub returns-clause-acts_in_the_step_of_another : goal.returns-clause-acts_in_the_step_of_another
returns-clause-acts_in_the_step_of_another c h = let e : Some (Client 1) ≡ Some Front = h.1.0 Front refl in cc

pub returns-clause-acts_in_a_step_of_nobody : goal.returns-clause-acts_in_a_step_of_nobody
returns-clause-acts_in_a_step_of_nobody c h = let e : ◌≡◌ {A = Option Place} None (Some (Node 1)) = h.1.0 (Node 1) refl in cc

pub returns-clause-acts_in_its_own_step : goal.returns-clause-acts_in_its_own_step
returns-clause-acts_in_its_own_step c = ((λ p e. let none : ◌≡◌ {A = Option Place} None (Some p) = e in absurd cc), ((λ p e. e), tt))
