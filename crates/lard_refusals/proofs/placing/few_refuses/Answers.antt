use Rattle.std.proofs.Common.{◌≡◌, ◌*◌, ℕ, ◌≤◌, [], ◌∷◌, List, refl, arith}
use Rattle.lard_journal.specs.declared.rec.Rec.TheVariants as rec
use Rattle.lard_law_connections.specs.LineLaws.{connections_told}
use Rattle.lard_law_view.specs.Prelude.{Rec, home_told, is_home_of_node}
use Rattle.lard_refusals.specs.Placing.{three_at_one_node}
use Rattle.lard_refusals.specs.Refusals.{three_nodes}
use Rattle.lard_refusals.proofs.Closed.{until-closed}
use Rattle.lard_refusals.proofs.Counting.{none-of-all, three-of-all}
use Rattle.lard_refusals.proofs.placing.few_refuses.Goals as goal

pub returns-clause-three_at_one_node : goal.returns-clause-three_at_one_node
returns-clause-three_at_one_node c h =
    let three : 3 ≤ connections_told three_at_one_node 1 = three-of-all (λ (c : ℕ). is_home_of_node (home_told three_at_one_node c) 1) refl refl refl in
    let two : connections_told three_at_one_node 1 ≤ 2 = h three_at_one_node [] refl (λ n. refl) 1 in
    omega arith

abbrev AreFew : List Rec → Type 0
AreFew past = (n : ℕ) → connections_told past n ≤ 2 * three_nodes.high

-- before a node is closed none has one
few-at-first : AreFew []
few-at-first n = let none : connections_told [] n ≡ 0 = none-of-all (λ (c : ℕ). is_home_of_node (home_told [] c) n) (λ c. refl) in omega (arith, none)

pub returns-clause-three_at_the_last_open_node : goal.returns-clause-three_at_the_last_open_node
returns-clause-three_at_the_last_open_node c past later cut =
    until-closed AreFew few-at-first (rec.Closed 3 ∷ three_at_one_node) past later cut
