use Rattle.std.proofs.Common.{◌≤◌, refl, arith, ◌≡◌, Some}
use Rattle.lard_law_view.specs.Prelude.{Node}
use Rattle.lard_refusals.proofs.network.acts_refuses.Goals as goal

pub returns-clause-fourth_of_three : goal.returns-clause-fourth_of_three
returns-clause-fourth_of_three c h = let few : 4 ≤ 3 = (h.0 4 refl).1 in omega arith

pub returns-clause-node_without_a_number : goal.returns-clause-node_without_a_number
returns-clause-node_without_a_number c h = let some : 1 ≤ 0 = (h.0 0 refl).0 in omega arith

pub returns-clause-third_of_three : goal.returns-clause-third_of_three
returns-clause-third_of_three c = ((λ n e. let is : Some (Node 3) ≡ Some (Node n) = e in let three : 3 ≡ n = cc in (omega arith, omega arith)), tt)
