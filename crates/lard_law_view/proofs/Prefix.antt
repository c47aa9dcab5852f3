-- What was said to a client are the first answers to what it wrote, and what it accepted is the front of them all.
use Rattle.std.proofs.Common.{◌≡◌, ℕ, List, [], map, length, take, sym, ap, ◌∙◌, subst, append-nil, take_at}
use Rattle.std.specs.List.{concat}
use Rattle.std.proofs.lemmas.List.{length-map}
use Rattle.lard_law_view.specs.Prelude.{FilesAt, IsPrefix, SaysAnswers, Stream, Verdict, answer, answer_bytes, answers, verdicts}
use Rattle.lard_answers.proofs.Growing.{answers-are, concat-IsPrefix, map-IsPrefix}

module _ (files : FilesAt) (w out : Stream) (vs : List Verdict) (h : SaysAnswers files w out vs) where
  -- its verdicts are the first on what the client wrote so far
  first-verdicts : IsPrefix vs (verdicts w.bytes)
  first-verdicts = subst (λ (q : List ℕ). IsPrefix vs (verdicts q)) (append-nil w.bytes) (h.fronts [])

  -- and so are its answers
  first-answers : IsPrefix (map (answer files) vs) (answers files w.bytes)
  first-answers = subst (λ (all : List (List ℕ)). IsPrefix (map (answer files) vs) all) (sym (answers-are files w.bytes)) (map-IsPrefix (answer files) vs (verdicts w.bytes) first-verdicts)

  pub said-bytes : concat (take (length vs) (answers files w.bytes)) ≡ out.bytes
  said-bytes =
      let first = first-answers in
      ap concat (ap (take (length vs)) first.1 ∙ take_at (map (answer files) vs) first.0 (length vs) (length-map vs (answer files))) ∙ sym h.spoken

  -- all that was said is the front of all that is to be said
  pub said-front : IsPrefix out.bytes (answer_bytes files w.bytes)
  said-front = subst (λ (l : List ℕ). IsPrefix l (answer_bytes files w.bytes)) (sym h.spoken) (concat-IsPrefix (map (answer files) vs) (answers files w.bytes) first-answers)
