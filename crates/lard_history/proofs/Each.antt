-- Laws of a journal, record by record and at every moment.
use Rattle.std.proofs.Common.{◌≡◌, List, [], ◌∷◌, ◌++◌, sym, subst, append_assoc, append-nil}
use Rattle.lard_history.specs.Laws.{EachMay}
use Rattle.lard_journal.specs.declared.rec.Rec.{Rec}

-- ---- each item of a list

abbrev pub Each : {A : Type 0} → (A → Type 0) → List A → Type 0
Each P [] = Unit {0}
Each P (x ∷ xs) = P x × Each P xs

module _ {A : Type 0} (P : A → Type 0) where
  pub Each-append : (xs ys : List A) → Each P xs → Each P ys → Each P (xs ++ ys)
  Each-append [] ys e f = f
  Each-append (x ∷ xs) ys e f = (e.0, Each-append xs ys e.1 f)

  pub Each-weaker : (Q : A → Type 0) → ((x : A) → P x → Q x) → (xs : List A) → Each P xs → Each Q xs
  Each-weaker Q w [] e = tt
  Each-weaker Q w (x ∷ xs) e = (w x e.0, Each-weaker Q w xs e.1)

-- ---- each record where it stands

module _ (may : List Rec → Rec → Type 0) where
  pub each_append : (past xs ys : List Rec) → EachMay may past xs → EachMay may (past ++ xs) ys → EachMay may past (xs ++ ys)
  each_append past [] ys e f = subst (λ (zs : List Rec). EachMay may zs ys) (append-nil past) f
  each_append past (x ∷ xs) ys e f = (e.0, each_append (past ++ x ∷ []) xs ys e.1 (subst (λ (zs : List Rec). EachMay may zs ys) (sym (append_assoc past (x ∷ []) xs)) f))

  -- a prefix of what may be said
  pub each_front : (past xs ys : List Rec) → EachMay may past (xs ++ ys) → EachMay may past xs
  each_front past [] ys e = tt
  each_front past (x ∷ xs) ys e = (e.0, each_front (past ++ x ∷ []) xs ys e.1)

  -- at every moment a lawful journal is lawful
  pub each_then : (J past later : List Rec) → J ≡ past ++ later → EachMay may [] J → EachMay may [] past
  each_then J past later is e = each_front [] past later (subst (EachMay may []) is e)

pub each_weaker : (may might : List Rec → Rec → Type 0) → ((past : List Rec) (r : Rec) → may past r → might past r) → (past rs : List Rec) → EachMay may past rs → EachMay might past rs
each_weaker may might w past [] e = tt
each_weaker may might w past (r ∷ rs) e = (w past r e.0, each_weaker may might w (past ++ r ∷ []) rs e.1)
