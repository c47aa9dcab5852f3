use Rattle.std.proofs.Common.{◌≡◌, ℕ, zero, suc, ◌+◌, ◌≤◌, true, [], count_by, nat_le, refl, arith}
use Rattle.std.proofs.lemmas.Bool.Decides.{nat_tests}
use Rattle.lard_law_connections.specs.LineLaws.{connections_told}
use Rattle.lard_law_view.specs.Prelude.{home_told, is_home_of_node, numbers}
use Rattle.lard_refusals.specs.Placing.{one_at_each_node}
use Rattle.lard_refusals.proofs.Counting.{one-of-all, three-of-three}
use Rattle.lard_refusals.proofs.placing.never_all_busy_refuses.Goals as goal

-- each of the three has a connection, that of its number
has-one : (n : ℕ) → 1 ≤ n → n ≤ 3 → is_home_of_node (home_told one_at_each_node n) n ≡ true → 1 ≤ connections_told one_at_each_node n
has-one n low high there = one-of-all (λ (c : ℕ). is_home_of_node (home_told one_at_each_node c) n) n low (omega (arith, high)) there

each : (n : ℕ) → 1 ≤ n → n ≤ 3 → 1 ≤ connections_told one_at_each_node n
each zero low high = absurd (omega arith)
each (suc zero) low high = has-one 1 low high refl
each (suc (suc zero)) low high = has-one 2 low high refl
each (suc (suc (suc zero))) low high = has-one 3 low high refl
each (suc (suc (suc (suc n)))) low high = absurd (omega arith)

at-high : (n : ℕ) → 1 ≤ n → n ≤ 3 → nat_le 1 (connections_told one_at_each_node n) ≡ true
at-high n low high = let some = each n low high in grind (arith, nat_tests, some)

pub returns-clause-one_at_each_node : goal.returns-clause-one_at_each_node
returns-clause-one_at_each_node c h =
    let busy : 3 ≤ count_by (λ (n : ℕ). nat_le 1 (connections_told one_at_each_node n)) (numbers 3)
    = three-of-three (λ (n : ℕ). nat_le 1 (connections_told one_at_each_node n)) (at-high 1 (omega arith) (omega arith)) (at-high 2 (omega arith) (omega arith)) (at-high 3 (omega arith) (omega arith)) in
    let few : count_by (λ (n : ℕ). nat_le 1 (connections_told one_at_each_node n)) (numbers 3) + 2 ≤ 3 = h one_at_each_node [] refl each in
    omega arith
