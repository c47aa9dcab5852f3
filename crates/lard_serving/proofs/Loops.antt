-- A loop that sends what is given call by call: what was sent and what is left are all that there was.
use Rattle.std.proofs.Common.{◌≡◌, List, [], ◌∷◌, ◌++◌, sym, ap, ◌∙◌, append_assoc}
use Rattle.std.proofs.lemmas.List.{append-nil}

module _ {B P : Type 0} (f : B → List P × B) where
  -- one more was given, q, and after it there is what is left
  pub sent_more : (b new after : B) (sends more : List P) (p q : P) → f b ≡ (q ∷ (f after).0, (f after).1) → new ≡ after → p ≡ q → more ≡ sends ++ p ∷ []
      → (more ++ (f new).0 ≡ sends ++ (f b).0) × ((f new).1 ≡ (f b).1)
  sent_more b new after sends more p q m en ep es = (
    ap (λ s. s ++ (f new).0) es ∙ append_assoc sends (p ∷ []) (f new).0 ∙ ap (λ x. sends ++ (x ∷ (f new).0)) ep
        ∙ ap (λ x. sends ++ (q ∷ (f x).0)) en ∙ ap (λ (r : List P × B). sends ++ r.0) (sym m),
    ap (λ x. (f x).1) en ∙ ap (λ (r : List P × B). r.1) (sym m),
  )

  -- nothing was given: all was sent
  pub sent_all : (b new : B) (sends all : List P) (last : B) → f b ≡ ([], new) → sends ++ (f b).0 ≡ all → (f b).1 ≡ last → (sends ≡ all) × (new ≡ last)
  sent_all b new sends all last d es el =
      (sym (append-nil sends) ∙ ap (λ (r : List P × B). sends ++ r.0) (sym d) ∙ es, ap (λ (r : List P × B). r.1) (sym d) ∙ el)
