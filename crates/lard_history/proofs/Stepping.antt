-- The steps of a journal that goes on by one step.
use Rattle.std.proofs.Common.{◌≡◌, List, [], ◌∷◌, ◌++◌, Bool, true, false, cond, refl, sym, ap, ◌∙◌, subst, append_assoc, append-nil}
use Rattle.lard_history.specs.Laws.{EachMay}
use Rattle.lard_history.specs.Steps.{EachStep, HoldsBefore, is_opening, split, steps}
use Rattle.lard_history.proofs.Each.{Each}
use Rattle.lard_journal.specs.declared.rec.Rec.{Rec}
use Rattle.lard_journal.specs.declared.rec.Rec.TheVariants as rec

-- no record begins a step
abbrev pub AreInside : List Rec → Type 0
AreInside rs = Each (λ r. is_opening r ≡ false) rs

-- the first begins a step, and no other does
abbrev pub IsOneStep : List Rec → Type 0
IsOneStep [] = ⊥
IsOneStep (r ∷ rs) = (is_opening r ≡ true) × AreInside rs

split-inside : (rs : List Rec) → AreInside rs → split rs ≡ (rs, [])
split-inside [] q = refl
split-inside (r ∷ rs) q = ap (λ b. cond b ([], (r ∷ (split rs).0) ∷ (split rs).1) (r ∷ (split rs).0, (split rs).1)) q.0
    ∙ ap (λ (s : List Rec × List (List Rec)). (r ∷ s.0, s.1)) (split-inside rs q.1)

split-one : (s : List Rec) → IsOneStep s → split s ≡ ([], s ∷ [])
split-one [] o = absurd o
split-one (r ∷ rs) o = ap (λ b. cond b ([], (r ∷ (split rs).0) ∷ (split rs).1) (r ∷ (split rs).0, (split rs).1)) o.0
    ∙ ap (λ (s : List Rec × List (List Rec)). ([], (r ∷ s.0) ∷ s.1)) (split-inside rs o.1)

split-append : (J s : List Rec) → IsOneStep s → split (J ++ s) ≡ ((split J).0, (split J).1 ++ s ∷ [])
split-append [] s o = split-one s o
split-append (r ∷ J) s o = ap (λ (k : List Rec × List (List Rec)). cond (is_opening r) ([], (r ∷ k.0) ∷ k.1) (r ∷ k.0, k.1)) (split-append J s o) ∙ go (is_opening r) where
  go : (b : Bool) → cond {A = List Rec × List (List Rec)} b ([], (r ∷ (split J).0) ∷ ((split J).1 ++ s ∷ [])) (r ∷ (split J).0, (split J).1 ++ s ∷ [])
      ≡ (
        (cond {A = List Rec × List (List Rec)} b ([], (r ∷ (split J).0) ∷ (split J).1) (r ∷ (split J).0, (split J).1)).0,
        (cond {A = List Rec × List (List Rec)} b ([], (r ∷ (split J).0) ∷ (split J).1) (r ∷ (split J).0, (split J).1)).1 ++ s ∷ [],
      )
  go true = refl
  go false = refl

-- all of them, one behind another
abbrev joins : List (List Rec) → List Rec
joins [] = []
joins (s ∷ ss) = s ++ joins ss

joins-split : (J : List Rec) → (split J).0 ++ joins (split J).1 ≡ J
joins-split [] = refl
joins-split (r ∷ J) = go (is_opening r) (joins-split J) where
  go : (b : Bool) → (split J).0 ++ joins (split J).1 ≡ J → (cond {A = List Rec × List (List Rec)} b ([], (r ∷ (split J).0) ∷ (split J).1) (r ∷ (split J).0, (split J).1)).0
      ++ joins (cond {A = List Rec × List (List Rec)} b ([], (r ∷ (split J).0) ∷ (split J).1) (r ∷ (split J).0, (split J).1)).1 ≡ r ∷ J
  go true e = ap (λ l. r ∷ l) e
  go false e = ap (λ l. r ∷ l) e

module _ (must : List Rec → List Rec → Type 0) where
  steps-append : (past : List Rec) (ss : List (List Rec)) (s : List Rec) → EachStep must past ss → must (past ++ joins ss) s → EachStep must past (ss ++ s ∷ [])
  steps-append past [] s e h = (subst (λ (l : List Rec). must l s) (append-nil past) h, tt)
  steps-append past (x ∷ ss) s e h = (e.0, steps-append (past ++ x) ss s e.1 (subst (λ (l : List Rec). must l s) (sym (append_assoc past x (joins ss))) h))

  -- a journal of whole steps, each as it must be
  abbrev pub AreLawful : List Rec → Type 0
  AreLawful J = ((split J).0 ≡ []) × EachStep must [] (steps J)

  pub one-more : (J s : List Rec) → IsOneStep s → AreLawful J → must J s → AreLawful (J ++ s)
  one-more J s o l h = (
    ap (λ (k : List Rec × List (List Rec)). k.0) (split-append J s o) ∙ l.0,
    subst (λ (k : List Rec × List (List Rec)). EachStep must [] k.1) (sym (split-append J s o))
        (steps-append [] (steps J) s l.1 (subst (λ (l : List Rec). must l s) (sym (sym (ap (λ (z : List Rec). z ++ joins (steps J)) l.0) ∙ joins-split J)) h)),
  )

-- what holds at the end of each step
module _ (P : List Rec → Type 0) where
  inside-holds : (past : List Rec) (r : Rec) → is_opening r ≡ false → HoldsBefore P past r
  inside-holds past (rec.Event i e) n = absurd cc
  inside-holds past (rec.Inner e) n = absurd cc
  inside-holds past _ n = tt

  all-hold : (past rs : List Rec) → AreInside rs → EachMay (HoldsBefore P) past rs
  all-hold past [] n = tt
  all-hold past (r ∷ rs) n = (inside-holds past r n.0, all-hold (past ++ r ∷ []) rs n.1)

  opening-holds : (past : List Rec) (r : Rec) → P past → HoldsBefore P past r
  opening-holds past (rec.Event i e) h = h
  opening-holds past (rec.Inner e) h = h
  opening-holds past _ h = tt

  -- a step that begins where P holds
  pub step-holds : (past step : List Rec) → P past → IsOneStep step → EachMay (HoldsBefore P) past step
  step-holds past [] h one = tt
  step-holds past (r ∷ rs) h one = (opening-holds past r h, all-hold (past ++ r ∷ []) rs one.1)

-- what stands behind the same is the same
pub cancel : {A : Type 0} (xs ys zs : List A) → xs ++ ys ≡ xs ++ zs → ys ≡ zs
cancel [] ys zs e = e
cancel (x ∷ xs) ys zs e = cancel xs ys zs (let f : xs ++ ys ≡ xs ++ zs = cc in f)
