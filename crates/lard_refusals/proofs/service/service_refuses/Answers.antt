use Rattle.std.proofs.Common.{◌≡◌, ℕ, List, Option, Some, length, refl, sym, ap, ◌∙◌, arith, [], ◌∷◌, None, false, subst}
use Rattle.std.specs.Option.{option_map}
use Rattle.std.specs.Prelude.{slice_get, codes}
use Rattle.lard_law_view.specs.Prelude.{Node, Verdict, answer_code}
use Rattle.lard_base.specs.declared.place.Via.TheVariants as via
use Rattle.lard_law_connections.specs.BytesRecords.{ComesBy}
use Rattle.lard_refusals.specs.Refusals.{two_files}
use Rattle.lard_refusals.proofs.Requests.{request-asks}
use Rattle.lard_refusals.proofs.Responses.{one-answer}
use Rattle.lard_refusals.proofs.service.service_refuses.Goals as goal
use Rattle.lard_request.specs.declared.verdict.Verdict.TheVariants.{Serve}

pub returns-clause-second_answer_first : goal.returns-clause-second_answer_first
returns-clause-second_answer_first c h = let e : ◌≡◌ {A = ℕ} 2 1 = (h.1.1.0 refl).1.0 in omega arith

pub returns-clause-answered_by_a_stranger : goal.returns-clause-answered_by_a_stranger
returns-clause-answered_by_a_stranger c h =
    let e : Some (Node 1) ≡ Some (Node 2) = (h.1.1.0 refl).0 in
    let same : ◌≡◌ {A = ℕ} 1 2 = cc in
    omega arith

pub returns-clause-response_of_another_length : goal.returns-clause-response_of_another_length
returns-clause-response_of_another_length c h =
    let its : ◌≡◌ {A = Option ℕ} (Some 40) (Some 41) = sym (ap (λ (all : List (List ℕ)). option_map length (slice_get all 0)) one-answer) ∙ (h.1.1.0 refl).1.2 in
    let same : ◌≡◌ {A = ℕ} 40 41 = cc in
    omega arith

-- the content of a file is not the place's own
its-way : ComesBy two_files (slice_get (Serve (codes "/a") false false ∷ []) 0) via.Disk
its-way = ((λ (e : via.Disk ≡ via.Own). absurd cc), (λ (e : Some (codes "/a") ≡ None). absurd cc))

pub returns-clause-its_answer_served : goal.returns-clause-its_answer_served
returns-clause-its_answer_served c = (
  tt,
  (
    tt,
    (
      (λ untouched. (
        refl,
        (
          refl,
          ap (λ (vs : List Verdict). option_map (answer_code two_files) (slice_get vs 0)) request-asks,
          ap (λ (all : List (List ℕ)). option_map length (slice_get all 0)) one-answer,
          subst (λ (vs : List Verdict). ComesBy two_files (slice_get vs 0) via.Disk) (sym request-asks) its-way,
        ),
      )),
      tt,
    ),
  ),
)
