use Rattle.std.proofs.Common.{◌≡◌, ◌≤◌, Option, ℕ, None, Some, refl, sym, ap, subst, ◌∙◌, arith}
use Rattle.std.specs.FinMap.{get-empty}
use Rattle.std.specs.Ordering.{nat_cmp}
use Rattle.lard_law_view.specs.Prelude.{FirstChoice, LaterChoice, first_choice, home, home_of, later_choice, tally_start}
use Rattle.lard_refusals.specs.Refusals.{three_nodes}
use Rattle.lard_refusals.proofs.Loads.{eight-shares-are-open, first-of-none, first-of-open, home_closed, its-home, later-stays, later-stays-there, no-share-is-open, one_at_home, second-first, second-has-none, second-leaves}
use Rattle.lard_refusals.proofs.placing.choices_refuses.Goals as goal

-- the first connection goes to node 1
first-goes : (home (tally_start 3) 1 ≡ None) × (◌≡◌ {A = FirstChoice} (record { node = 1; add = Some 1; remove = None }) (first_choice (tally_start 3) 0 (record { 0 = 0 }) (record { 0 = 0 }) three_nodes))
first-goes = (ap home_of (get-empty nat_cmp 1), sym (first-of-none _ _))

pub returns-clause-tie_to_the_highest : goal.returns-clause-tie_to_the_highest
returns-clause-tie_to_the_highest c h =
    let e : ◌≡◌ {A = ℕ} 3 1 = ap (λ (it : FirstChoice). it.node) (h.0.1 ∙ first-of-none _ _) in
    omega arith

pub returns-clause-tie_to_the_lowest : goal.returns-clause-tie_to_the_lowest
returns-clause-tie_to_the_lowest c = (first-goes, tt)

pub returns-clause-threshold_at_high : goal.returns-clause-threshold_at_high
returns-clause-threshold_at_high c h =
    let e : ◌≡◌ {A = ℕ} 2 1 = ap (λ (it : FirstChoice). it.node) (h.1.0.1 ∙ second-first) in
    omega arith

pub returns-clause-threshold_above_high : goal.returns-clause-threshold_above_high
returns-clause-threshold_above_high c = (first-goes, ((second-has-none, sym second-first), tt))

pub returns-clause-chosen_and_not_joined : goal.returns-clause-chosen_and_not_joined
returns-clause-chosen_and_not_joined c h =
    let e : ◌≡◌ {A = Option ℕ} None (Some 1) = ap (λ (it : FirstChoice). it.add) (h.0.1 ∙ first-of-none _ _) in
    cc

pub returns-clause-another_joins : goal.returns-clause-another_joins
returns-clause-another_joins c h =
    let e : ◌≡◌ {A = Option ℕ} (Some 2) (Some 1) = ap (λ (it : FirstChoice). it.add) (h.0.1 ∙ first-of-none _ _) in
    let same : ◌≡◌ {A = ℕ} 2 1 = cc in
    omega arith

pub returns-clause-assigned_first_twice : goal.returns-clause-assigned_first_twice
returns-clause-assigned_first_twice c h =
    let e : ◌≡◌ {A = Option ℕ} (Some 1) None = sym its-home ∙ h.1.0.0 in
    cc

pub returns-clause-leaves_a_short_queue : goal.returns-clause-leaves_a_short_queue
returns-clause-leaves_a_short_queue c h =
    let later = h.1.0 in
    let has : Some 1 ≡ Some later.0 = sym its-home ∙ later.1 in
    let one : 1 ≡ later.0 = cc in
    let stays : later_choice one_at_home later.0 1 0 three_nodes ≡ record { node = 1; add = None } = subst (λ (n : ℕ). later_choice one_at_home n 1 0 three_nodes ≡ record { node = 1; add = None }) one later-stays in
    let e : ◌≡◌ {A = ℕ} 2 1 = ap (λ (it : LaterChoice). it.node) (later.2 ∙ stays) in
    omega arith

pub returns-clause-stays_at_a_short_queue : goal.returns-clause-stays_at_a_short_queue
returns-clause-stays_at_a_short_queue c = (first-goes, ((1, its-home, sym later-stays, omega arith, omega arith, (let none = no-share-is-open in omega (arith, none))), tt))

pub returns-clause-batch_of_nine : goal.returns-clause-batch_of_nine
returns-clause-batch_of_nine c h = let most : 9 ≤ 8 = h.1.0.4 in omega arith

pub returns-clause-ninth_share : goal.returns-clause-ninth_share
returns-clause-ninth_share c h = let few = h.1.1.1.1.1.1.1.1.1.0.5 in omega (arith, few, eight-shares-are-open)

pub returns-clause-later_without_a_node : goal.returns-clause-later_without_a_node
returns-clause-later_without_a_node c h =
    let e : None ≡ Some h.0.0 = sym (ap home_of (get-empty nat_cmp 1)) ∙ h.0.1 in
    cc

pub returns-clause-closed_node_is_chosen : goal.returns-clause-closed_node_is_chosen
returns-clause-closed_node_is_chosen c h =
    let e : ◌≡◌ {A = ℕ} 1 2 = ap (λ (it : FirstChoice). it.node) (h.1.0.1 ∙ first-of-open _ _) in
    omega arith

pub returns-clause-next_node_is_chosen : goal.returns-clause-next_node_is_chosen
returns-clause-next_node_is_chosen c = ((refl, refl), ((first-goes.0, sym (first-of-open _ _)), tt))

pub returns-clause-closed_server_is_chosen : goal.returns-clause-closed_server_is_chosen
returns-clause-closed_server_is_chosen c h =
    let e : ◌≡◌ {A = ℕ} 1 2 = ap (λ (it : FirstChoice). it.node) (h.1.1.0.1 ∙ second-leaves _ _) in
    omega arith

pub returns-clause-closed_home_joins : goal.returns-clause-closed_home_joins
returns-clause-closed_home_joins c h =
    let later = h.1.1.0 in
    let has : Some 1 ≡ Some later.0 = sym its-home ∙ later.1 in
    let one : 1 ≡ later.0 = cc in
    let stays : later_choice home_closed later.0 0 0 three_nodes ≡ record { node = 1; add = None }
    = subst (λ (n : ℕ). later_choice home_closed n 0 0 three_nodes ≡ record { node = 1; add = None }) one later-stays-there in
    let e : ◌≡◌ {A = Option ℕ} (Some 1) None = ap (λ (it : LaterChoice). it.add) (later.2 ∙ stays) in
    cc

pub returns-clause-stays_at_a_closed_home : goal.returns-clause-stays_at_a_closed_home
returns-clause-stays_at_a_closed_home c =
    (first-goes, ((refl, refl), ((1, its-home, sym later-stays-there, omega arith, omega arith, (let none = no-share-is-open in omega (arith, none))), tt)))
