use Rattle.std.proofs.Common.{◌≡◌, ℕ, List, [], ◌∷◌, ◌++◌, Ok, Result, refl, sym, ◌∙◌, subst, ⊎_elim}
use Rattle.std.specs.Prelude.{codes}
use Rattle.lard_law_view.specs.Prelude.{Message, MsgFault, request}
use Rattle.lard_journal.specs.declared.rec.Rec.TheVariants as rec
use Rattle.lard_laws.specs.Ways.{BodyGoesOn, way_marks}
use Rattle.lard_message.specs.declared.message.Body.TheVariants as body
use Rattle.lard_refusals.specs.Refusals.{two_files}
use Rattle.lard_refusals.proofs.Messages.{first-ask-says, saying}
use Rattle.lard_refusals.proofs.Responses.{its-paths, no-paths}
use Rattle.lard_refusals.proofs.asks.names_next_refuses.Goals as goal

abbrev asking : Message
asking = saying (body.Ask 1 0 1 (codes "/a" ∷ []))

pub returns-clause-asks_for_nothing : goal.returns-clause-asks_for_nothing
returns-clause-asks_for_nothing c h =
    let begins = h.1.0 asking first-ask-says refl (λ was. ⊎_elim (λ none. none) (λ none. none) was) in
    let e : [] ≡ (codes "/a" ∷ []) ++ begins.0 = sym no-paths ∙ begins.1 in
    cc

pub returns-clause-asks_for_the_first_again : goal.returns-clause-asks_for_the_first_again
returns-clause-asks_for_the_first_again c h =
    let begins = h.1.1.0 asking first-ask-says refl (λ was. ⊎_elim (λ none. none) (λ later. ⊎_elim (λ none. none) (λ none. none) later) was) in
    let e : codes "/a" ∷ [] ≡ codes "/a" ∷ codes "/a" ∷ begins.0 = sym its-paths ∙ begins.1 in
    let rest : ◌≡◌ {A = List (List ℕ)} [] (codes "/a" ∷ begins.0) = cc in
    cc

pub returns-clause-asks_for_what_is_next : goal.returns-clause-asks_for_what_is_next
returns-clause-asks_for_what_is_next c = (
  tt,
  (
    (λ m d untouched new.
        let both : ◌≡◌ {A = Result Message MsgFault} (Ok asking) (Ok m) = sym first-ask-says ∙ d in
        let same : asking ≡ m = cc in
        subst (λ (it : Message). BodyGoesOn two_files (way_marks (rec.Wrote 1 (request (codes "/a")) ∷ []) it.c) it.body) same ([], its-paths)),
    tt,
  ),
)
