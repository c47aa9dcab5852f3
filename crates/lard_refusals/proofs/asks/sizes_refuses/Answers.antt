use Rattle.std.proofs.Common.{◌≡◌, ℕ, List, [], ◌∷◌, Option, Some, None, length, take, drop, inl, inr, refl, ap, ◌∙◌, arith}
use Rattle.std.specs.Prelude.{codes}
use Rattle.lard_law_view.specs.Prelude.{Front, Message, Node, Verdict, and_path, blocks, good_path, pieces, until_close, verdicts}
use Rattle.lard_law_connections.specs.Offers.{WasSentBetween}
use Rattle.lard_laws.specs.Sizes.{IsOfBatch, SizeMarks, batch_behind, batch_begins, complete, to_assign}
use Rattle.lard_laws.specs.Ways.{good_paths}
use Rattle.lard_message.specs.declared.message.Body.TheVariants as body
use Rattle.lard_refusals.specs.Asks.{answers_the_first}
use Rattle.lard_refusals.specs.Packets.{first_ask}
use Rattle.lard_refusals.specs.Refusals.{two_files}
use Rattle.lard_refusals.proofs.Messages.{first-ask-says, saying}
use Rattle.lard_refusals.proofs.asks.sizes_refuses.Goals as goal

abbrev asking : Message
asking = saying (body.Ask 1 0 1 (codes "/a" ∷ []))

pub returns-clause-asks_for_nothing : goal.returns-clause-asks_for_nothing
unfolding blocks pieces until_close verdicts
returns-clause-asks_for_nothing c h =
    let batch = h.0.1.0 asking first-ask-says refl (λ none. none) in
    let e : ◌≡◌ {A = ℕ} 1 0 = batch.size_is in
    omega arith

-- where one is answered, and was before a node took the connection, no path of a batch of one is to be assigned
none-left : (all : List Verdict) → 1 ≡ length (batch_behind 1 all) → codes "/a" ∷ [] ≡ to_assign (good_paths two_files (drop 1 (take 1 all))) (good_paths two_files (batch_behind 1 all)) → ⊥
none-left [] size paths = omega (arith, size)
none-left (v ∷ []) size paths = omega (arith, size)
none-left (v ∷ w ∷ []) size paths = go (good_path two_files w) paths where
  go : (o : Option (List ℕ)) → codes "/a" ∷ [] ≡ to_assign [] (and_path o []) → ⊥
  go None e = let no : codes "/a" ∷ [] ≡ [] = e in cc
  go (Some path) e = let no : codes "/a" ∷ [] ≡ [] = e in cc
none-left (v ∷ w ∷ y ∷ ys) size paths = omega (arith, size)

no-batch : (upto : ℕ) (now : SizeMarks) → batch_begins upto now ≡ 1 → now.taken ≡ 1 → IsOfBatch two_files upto now 1 (codes "/a" ∷ []) → ⊥
no-batch upto now begins since batch = none-left (complete now)
    (batch.size_is ∙ ap (λ (i : ℕ). length (batch_behind i (complete now))) begins)
    (batch.paths_are ∙ (λ i. to_assign (good_paths two_files (drop (since i) (take (begins i) (complete now)))) (good_paths two_files (batch_behind (begins i) (complete now)))))

-- it was not sent before
not-before : WasSentBetween (Node 2) Front first_ask answers_the_first → ⊥
not-before (inr (inr (inr (inr (inr (inl same)))))) = let e : Node 1 ≡ Node 2 = same.0 in let no : ◌≡◌ {A = ℕ} 1 2 = cc in omega (arith, no)
not-before (inr (inr (inr (inr (inr (inr (inl none))))))) = none
not-before (inr (inr (inr (inr (inr (inr (inr none))))))) = none
not-before (inr (inr (inr (inr (inl none))))) = none
not-before (inr (inr (inr (inl none)))) = none
not-before (inr (inr (inl none))) = none
not-before (inr (inl none)) = none
not-before (inl none) = none

pub returns-clause-asks_for_what_came_with_it : goal.returns-clause-asks_for_what_came_with_it
returns-clause-asks_for_what_came_with_it c h = no-batch _ _ refl refl (h.1.0.1.1.0 asking first-ask-says refl not-before)
