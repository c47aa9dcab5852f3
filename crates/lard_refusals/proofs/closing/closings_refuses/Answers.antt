use Rattle.std.proofs.Common.{◌≡◌, ℕ, List, [], ◌∷◌, refl}
use Rattle.lard_law_view.specs.Prelude.{decoded_message, ended_body_at, reason_at}
use Rattle.lard_refusals.proofs.closing.closings_refuses.Goals as goal

pub returns-clause-back_and_left_open : goal.returns-clause-back_and_left_open
unfolding decoded_message
returns-clause-back_and_left_open c h = let e : ◌≡◌ {A = List ℕ} [] (1 ∷ []) = h.1.0 in cc

pub returns-clause-back_and_another_is_closed : goal.returns-clause-back_and_another_is_closed
unfolding decoded_message
returns-clause-back_and_another_is_closed c h = let e : ◌≡◌ {A = List ℕ} (2 ∷ []) (1 ∷ []) = h.1.0 in cc

pub returns-clause-closed_with_nothing_back : goal.returns-clause-closed_with_nothing_back
unfolding decoded_message
returns-clause-closed_with_nothing_back c h = let e : ◌≡◌ {A = List ℕ} (1 ∷ []) [] = h.1.0 in cc

pub returns-clause-closed_by_an_end : goal.returns-clause-closed_by_an_end
unfolding decoded_message ended_body_at reason_at
returns-clause-closed_by_an_end c h = let e : ◌≡◌ {A = List ℕ} (1 ∷ []) [] = h.1.0 in cc

pub returns-clause-closed_as_it_is_back : goal.returns-clause-closed_as_it_is_back
unfolding decoded_message
returns-clause-closed_as_it_is_back c = (refl, (refl, tt))
