-- A fold that only an event and its own records change, over the steps of events.
use Rattle.std.proofs.Common.{◌≡◌, ℕ, ◌+◌, Bool, true, false, not, List, [], ◌∷◌, ◌++◌, All, refl, sym, ap, ◌∙◌, append_assoc}
use Rattle.std.specs.List.{fold, list_all}
use Rattle.std.proofs.lemmas.Bool.{and_parts}
use Rattle.std.proofs.lemmas.List.Elements.{All-head, All-tail}
use Rattle.std.proofs.lemmas.List.Sums.{fold-append}
use Rattle.lard_base.specs.declared.event.Event.{Event}
use Rattle.lard_history.specs.Laws.{AreOwn, Follows, IsStep, is_own}
use Rattle.lard_journal.specs.declared.rec.Rec.{Rec}
use Rattle.lard_journal.specs.declared.rec.Rec.TheVariants as rec

-- ---- steps

-- the steps of events that are told one after another: those of the first, and those of the others
pub record Parts (i : ℕ) (xs ys : List Event) (J : List Rec) : Type 0 where
  pub front : List Rec
  pub back : List Rec
  pub is : J ≡ front ++ back
  pub first : Follows i xs front
  pub next : ℕ
  pub second : Follows next ys back

-- each journal that follows them has these
pub parts : (xs ys : List Event) (i : ℕ) (J : List Rec) → Follows i (xs ++ ys) J → Parts i xs ys J
parts [] ys i J w = record { front = []; back = J; is = refl; first = refl; next = i; second = w }
parts (x ∷ xs) ys i J w =
    let p = parts xs ys (i + 1) w.1 w.4 in
    record {
      front = w.0 ++ p.front;
      back = p.back;
      is = w.2 ∙ ap (λ (l : List Rec). w.0 ++ l) p.is ∙ sym (append_assoc w.0 p.front p.back);
      first = (w.0, p.front, refl, w.3, p.first);
      next = p.next;
      second = p.second;
    }

-- ---- folds

-- an event and its own records leave the fold as it is
abbrev pub Leaves : {A : Type 0} → (A → Rec → A) → Event → Type 0
Leaves {A} f e = (i : ℕ) (own : List Rec) (a : A) → AreOwn e own → fold f a (rec.Event i e ∷ own) ≡ a

-- what is not so is false
negated : (b : Bool) → not b ≡ true → b ≡ false
negated false h = refl
negated true h = cc

module _ {A : Type 0} (f : A → Rec → A) (still : (a : A) (r : Rec) → is_own r ≡ false → f a r ≡ a) where
  -- records that are no event's own leave it as it is
  others-leave : (a : A) (rs : List Rec) → list_all (λ r. not (is_own r)) rs ≡ true → fold f a rs ≡ a
  others-leave a [] alone = refl
  others-leave a (r ∷ rs) alone =
      let both = and_parts (not (is_own r)) (list_all (λ s. not (is_own s)) rs) alone in
      ap (λ (b : A). fold f b rs) (still a r (negated (is_own r) both.0)) ∙ others-leave a rs both.1

  -- of a step its event and its own records count
  step-folds : (a : A) (i : ℕ) (e : Event) (step : List Rec) (s : IsStep i e step) → fold f a step ≡ fold f a (rec.Event i e ∷ s.own)
  step-folds a i e step s =
      ap (fold f a) s.is ∙ fold-append f a (rec.Event i e ∷ s.own) s.others ∙ others-leave (fold f a (rec.Event i e ∷ s.own)) s.others s.alone

  -- of one event alone
  pub one-folds : (a : A) (i : ℕ) (e : Event) (J : List Rec) (w : Follows i (e ∷ []) J) → fold f a J ≡ fold f a (rec.Event i e ∷ w.3.own)
  one-folds a i e J w =
      ap (fold f a) w.2 ∙ fold-append f a w.0 w.1 ∙ ap (λ (l : List Rec). fold f (fold f a w.0) l) w.4 ∙ step-folds a i e w.0 w.3

  -- of the first of several
  pub first-folds : (a : A) (i : ℕ) (e : Event) (es : List Event) (J : List Rec) (w : Follows i (e ∷ es) J)
      → fold f a J ≡ fold f (fold f a (rec.Event i e ∷ w.3.own)) w.1
  first-folds a i e es J w = ap (fold f a) w.2 ∙ fold-append f a w.0 w.1 ∙ ap (λ (b : A). fold f b w.1) (step-folds a i e w.0 w.3)

  -- where each event leaves it as it is, all do
  pub all-leave : (es : List Event) (i : ℕ) (J : List Rec) (a : A) → All (Leaves f) es → Follows i es J → fold f a J ≡ a
  all-leave [] i J a leave w = ap (fold f a) w
  all-leave (e ∷ es) i J a leave w =
      first-folds a i e es J w
      ∙ ap (λ (b : A). fold f b w.1) (All-head (Leaves f) e es leave i w.3.own a w.3.own_are)
      ∙ all-leave es (i + 1) w.1 a (All-tail (Leaves f) e es leave) w.4
