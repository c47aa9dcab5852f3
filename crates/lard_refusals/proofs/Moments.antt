-- What is so at every moment of a journal that is written out: it is so of each of its fronts.
use Rattle.std.proofs.Common.{◌≡◌, List, [], ◌∷◌, ◌++◌, append-nil, append_assoc, subst, sym}
use Rattle.lard_law_view.specs.Prelude.{Rec}

-- P is so of what is done, and with each more of these records
abbrev pub EachFront : (List Rec → Type 0) → List Rec → List Rec → Type 0
EachFront P done [] = P done
EachFront P done (r ∷ rs) = P done × EachFront P (done ++ r ∷ []) rs

module _ (P : List Rec → Type 0) where
  here : (done rs : List Rec) → EachFront P done rs → P done
  here done [] all = all
  here done (r ∷ rs) all = all.0

  from : (done rs past later : List Rec) → EachFront P done rs → rs ≡ past ++ later → P (done ++ past)
  from done rs [] later all cut = subst P (sym (append-nil done)) (here done rs all)
  from done [] (x ∷ past) later all cut = absurd cc
  from done (r ∷ rs) (x ∷ past) later all cut =
      let same : r ≡ x = cc in
      let rest : rs ≡ past ++ later = cc in
      let next : P ((done ++ r ∷ []) ++ past) = from (done ++ r ∷ []) rs past later all.1 rest in
      subst (λ (y : Rec). P (done ++ y ∷ past)) same (subst P (append_assoc done (r ∷ []) past) next)

  pub at-every-moment : (J : List Rec) → EachFront P [] J → (past later : List Rec) → J ≡ past ++ later → P past
  at-every-moment J all past later cut = from [] J past later all cut
