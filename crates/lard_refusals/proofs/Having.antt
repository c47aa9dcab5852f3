-- What is one of a list, in a list and its parts.
use Rattle.std.proofs.Common.{◌≡◌, List, [], ◌∷◌, ◌++◌, inr, subst, sym}
use Rattle.lard_law_view.specs.Prelude.{Has}

module _ {A : Type 0} where
  behind : (a : A) (xs ys : List A) → Has a ys → Has a (xs ++ ys)
  behind a [] ys h = h
  behind a (x ∷ xs) ys h = inr (behind a xs ys h)

  -- of a list that is cut, each part is within the whole
  pub of-later : (a : A) (all xs ys : List A) → all ≡ xs ++ ys → Has a ys → Has a all
  of-later a all xs ys cut h = subst (Has a) (sym cut) (behind a xs ys h)
