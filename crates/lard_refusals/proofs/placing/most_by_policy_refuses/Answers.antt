use Rattle.std.proofs.Common.{ℕ, ◌+◌, ◌*◌, ◌≤◌, [], ◌∷◌, List, refl, arith}
use Rattle.lard_journal.specs.declared.rec.Rec.TheVariants as rec
use Rattle.lard_law_connections.specs.LineLaws.{greatest_threshold}
use Rattle.lard_law_connections.specs.PolicyLoads.{load_told}
use Rattle.lard_law_view.specs.Prelude.{Rec}
use Rattle.lard_refusals.specs.Placing.{four_at_one_node}
use Rattle.lard_refusals.specs.Refusals.{three_nodes}
use Rattle.lard_refusals.proofs.Closed.{until-closed}
use Rattle.lard_refusals.proofs.placing.most_by_policy_refuses.Goals as goal

pub returns-clause-four_at_one_node : goal.returns-clause-four_at_one_node
returns-clause-four_at_one_node c h = let e : 3360 ≤ 2520 = h four_at_one_node [] refl (λ n. refl) 1 in omega arith

abbrev IsLittle : List Rec → Type 0
IsLittle past = (n : ℕ) → load_told past n ≤ 840 * (greatest_threshold three_nodes + 1)

-- before a node is closed none bears anything
little-at-first : IsLittle []
little-at-first n = let none : 0 ≤ 2520 = omega arith in none

pub returns-clause-four_at_the_last_open_node : goal.returns-clause-four_at_the_last_open_node
returns-clause-four_at_the_last_open_node c past later cut =
    until-closed IsLittle little-at-first (rec.Closed 3 ∷ four_at_one_node) past later cut
