-- What a move tells of its connection, list by list, for laws that say nothing of some of them.
use Rattle.std.proofs.Common.{◌≡◌, ℕ, List, [], ◌∷◌, ◌++◌, map, Bool, true, false, ◌||◌, refl, sym, ap, ◌∙◌, subst}
use Rattle.std.proofs.lemmas.List.Sums.{fold-append}
use Rattle.std.specs.List.{fold}
use Rattle.lard_law_view.specs.Prelude.{Client, EachRow, Place, Rec, Row, Seen, Tale, seen_step, tale_of, tale_step, told_on, untold}
pub use Rattle.lard_law_view.specs.WhileUntouched.{TellsBy}
use Rattle.lard_law_view.specs.Sending.{sending}

-- ---- folds

module _ {A : Type 0} (step : A → Rec → A) where
  -- of records that are seen
  pub seen-rows : (a : A) (rs : List Rec) → fold (seen_step step) a (map Row rs) ≡ fold step a rs
  seen-rows a [] = refl
  seen-rows a (r ∷ rs) = seen-rows (step a r) rs

-- ---- the tale

or-false : (b : Bool) → b || false ≡ b
or-false true = refl
or-false false = refl

-- a client's segments tell nothing
pub client-sends-tale : (c d : ℕ) (ss : List (Place × List ℕ)) (t : Tale) → told_on c t (map (sending (Client d)) ss) ≡ t
client-sends-tale c d [] t = refl
client-sends-tale c d (s ∷ ss) t = client-sends-tale c d ss (tale_step c t (sending (Client d) s)) ∙ ap (λ b. record t { fin_sent = b }) (or-false t.fin_sent)

-- ---- laws of a record by the tale of its connection

module _ (may : Tale → Rec → Type 0) (c : ℕ) where
  pub TellsBy-append : (t : Tale) (xs ys : List Rec) → TellsBy may c t xs → TellsBy may c (told_on c t xs) ys → TellsBy may c t (xs ++ ys)
  TellsBy-append t [] ys e f = f
  TellsBy-append t (x ∷ xs) ys e f = (e.0, TellsBy-append (tale_step c t x) xs ys e.1 f)

  -- so is each that is seen
  abbrev pub MayBeSeen : List Seen → Rec → Type 0
  MayBeSeen past r = may (tale_of c past) r

  pub each_row-told : (past : List Seen) (rs : List Rec) → TellsBy may c (tale_of c past) rs → EachRow MayBeSeen past (map Row rs)
  each_row-told past [] e = tt
  each_row-told past (r ∷ rs) e =
      (e.0, each_row-told (past ++ Row r ∷ []) rs (subst (λ (t : Tale). TellsBy may c t rs) (sym (fold-append (seen_step (tale_step c)) untold past (Row r ∷ []))) e.1))
