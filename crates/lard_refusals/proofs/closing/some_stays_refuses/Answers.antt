use Rattle.std.proofs.Common.{◌≡◌, ℕ, zero, suc, ◌≤◌, true, false, List, [], refl, sym, ◌∙◌, arith}
use Rattle.lard_counts.specs.Ledger.{ledger}
use Rattle.lard_law_connections.specs.Closings.{SomeStays}
use Rattle.lard_law_view.specs.Prelude.{Rec, is_node_closed}
use Rattle.lard_refusals.specs.Closing.{all_are_closed, third_stays}
use Rattle.lard_refusals.specs.Refusals.{three_nodes}
use Rattle.lard_refusals.proofs.Moments.{at-every-moment}
use Rattle.lard_refusals.proofs.closing.some_stays_refuses.Goals as goal

-- each of the three is closed
each-closed : (n : ℕ) → 1 ≤ n → n ≤ 3 → is_node_closed all_are_closed n ≡ true
each-closed zero low high = absurd (omega arith)
each-closed (suc zero) low high = refl
each-closed (suc (suc zero)) low high = refl
each-closed (suc (suc (suc zero))) low high = refl
each-closed (suc (suc (suc (suc n)))) low high = absurd (omega arith)

pub returns-clause-all_are_closed : goal.returns-clause-all_are_closed
returns-clause-all_are_closed c h =
    let stays = h all_are_closed [] refl in
    let no : true ≡ false = sym (each-closed stays.0 stays.1 stays.2) ∙ stays.3 in
    cc

pub returns-clause-third_stays : goal.returns-clause-third_stays
returns-clause-third_stays c past later cut =
    at-every-moment (λ (past : List Rec). SomeStays three_nodes (ledger three_nodes past) past) third_stays
    ((3, omega arith, omega arith, refl), ((3, omega arith, omega arith, refl), (3, omega arith, omega arith, refl))) past later cut
