use Rattle.std.proofs.Common.{◌≡◌, ◌⊎◌, ℕ, Bool, true, false, List, [], ◌∷◌, refl, arith, ⊎_elim}
use Rattle.std.proofs.lemmas.Bool.{both_ways}
use Rattle.lard_law_view.specs.Prelude.{counted_at, decoded, decoded_message, ended_body_at, flag_at, offer_at, own, parts_at, reason_at}
use Rattle.lard_rules.specs.Front.{message}
use Rattle.lard_message.specs.declared.message.Body.TheVariants as body
use Rattle.lard_refusals.specs.Packets.{client_acknowledgement}
use Rattle.lard_refusals.proofs.moves.motion_refuses.Goals as goal

pub returns-clause-taken_without_a_syn : goal.returns-clause-taken_without_a_syn
unfolding own
returns-clause-taken_without_a_syn c h = let e : ◌≡◌ {A = List ℕ} (1 ∷ []) [] = (h.0 1).takes_first in cc

pub returns-clause-given_to_no_node : goal.returns-clause-given_to_no_node
returns-clause-given_to_no_node c h = (h.0 1).hands_off

pub returns-clause-given_with_no_offer : goal.returns-clause-given_with_no_offer
returns-clause-given_with_no_offer c h = (h.0 1).hands_off

pub returns-clause-taken_without_an_offer : goal.returns-clause-taken_without_an_offer
unfolding own
returns-clause-taken_without_an_offer c h = let e : ◌≡◌ {A = List ℕ} (2 ∷ []) [] = (h.0 1).node_takes 1 refl in cc

pub returns-clause-repeated_offer_adopted : goal.returns-clause-repeated_offer_adopted
unfolding counted_at decoded_message flag_at offer_at own parts_at
returns-clause-repeated_offer_adopted c h = let e : ◌≡◌ {A = List ℕ} (2 ∷ []) [] = (h.1.1.0 1).node_takes 1 refl in cc

pub returns-clause-offer_passed_over : goal.returns-clause-offer_passed_over
unfolding counted_at decoded_message flag_at offer_at own parts_at
returns-clause-offer_passed_over c h = let e : ◌≡◌ {A = List ℕ} [] (2 ∷ []) = (h.1.0 1).node_takes 1 refl in cc

pub returns-clause-given_up_in_silence : goal.returns-clause-given_up_in_silence
returns-clause-given_up_in_silence c h = ⊎_elim (λ (e : ⊥). e) (λ (e : ⊥). e) ((h.0 1).node_ends 1).0

pub returns-clause-taken_back_with_no_end : goal.returns-clause-taken_back_with_no_end
unfolding own
returns-clause-taken_back_with_no_end c h = let e : ◌≡◌ {A = List ℕ} (3 ∷ []) [] = (h.1.1.0 1).takes_back in cc

-- it is not the next epoch, and no Refused comes
neither : (◌≡◌ {A = ℕ} 3 2) ⊎ ((◌≡◌ {A = ℕ} 3 3) × (◌≡◌ {A = Bool} false true)) → ⊥
neither up = ⊎_elim (λ (e : ◌≡◌ {A = ℕ} 3 2). absurd (omega (arith, e))) (λ (e : (◌≡◌ {A = ℕ} 3 3) × (◌≡◌ {A = Bool} false true)). absurd (both_ways false refl e.1)) up

pub returns-clause-taken_back_late : goal.returns-clause-taken_back_late
unfolding decoded_message own
returns-clause-taken_back_late c h = let e : ◌≡◌ {A = List ℕ} (4 ∷ []) (3 ∷ []) = (h.1.1.1.1.0 1).takes_back in cc

pub returns-clause-epoch_passed_over : goal.returns-clause-epoch_passed_over
unfolding decoded_message ended_body_at own reason_at
returns-clause-epoch_passed_over c h = neither (h.1.1.1.1.0 1).steps_up.0

pub returns-clause-segment_not_forwarded : goal.returns-clause-segment_not_forwarded
unfolding decoded own
returns-clause-segment_not_forwarded c h = let e : ◌≡◌ {A = List (ℕ × List ℕ)} [] ((1, message 1 2 (body.Forward client_acknowledgement)) ∷ []) = (h.1.1.0 1).forwards in cc
