-- The next answer, where a verdict comes next on what was written.
use Rattle.std.proofs.Common.{◌≡◌, ℕ, ◌+◌, List, [], ◌∷◌, ◌++◌, length, Some, refl, ap, ◌∙◌}
use Rattle.std.proofs.lemmas.Option.{slice_get-map}
use Rattle.std.specs.List.{slice_get}
use Rattle.std.specs.Option.{option_map}
use Rattle.lard_law_view.specs.Prelude.{FilesAt, IsPrefix, Rec, TellsOf, Verdict, answer, next_answer, next_verdict, served, tale, verdicts, wrote}
use Rattle.lard_answers.proofs.Growing.{answers-are}
use Rattle.lard_history.proofs.Tales.{served-tale, wrote-tale}

-- ---- the next answer

at-place : {A : Type 0} (xs : List A) (x : A) (ys : List A) → slice_get ((xs ++ x ∷ []) ++ ys) (length xs) ≡ Some x
at-place [] x ys = refl
at-place (y ∷ xs) x ys = at-place xs x ys

-- the verdict v comes next on what was written
module _ (files : FilesAt) (c : ℕ) (w said : List ℕ) (vs : List Verdict) (past : List Rec) (t : TellsOf w said vs (tale past c)) (v : Verdict) (next : IsPrefix (vs ++ v ∷ []) (verdicts w)) where
  pub verdict-is : next_verdict past c ≡ Some v
  verdict-is =
      ap (λ (q : List ℕ). slice_get (verdicts q) (served past c)) (wrote-tale past c ∙ t.wrote)
      ∙ ap (slice_get (verdicts w)) (served-tale past c ∙ t.served)
      ∙ ap (λ (us : List Verdict). slice_get us (length vs)) next.1 ∙ at-place vs v next.0

  pub answer-is : next_answer files past c ≡ Some (answer files v)
  answer-is =
      ap (λ (all : List (List ℕ)). slice_get all (served past c)) (answers-are files (wrote past c))
      ∙ slice_get-map (answer files) (verdicts (wrote past c)) (served past c) ∙ ap (option_map (answer files)) verdict-is
