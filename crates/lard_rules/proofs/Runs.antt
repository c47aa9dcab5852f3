-- Of any loop by turns that take something away: it goes on from what a turn gives, ends by the last, and keeps what each of its
-- turns keeps. How many turns are allowed does not matter.
use Rattle.std.proofs.Common.{◌≡◌, ℕ, zero, suc, ◌+◌, ◌<◌, refl, sym, ap, subst, ◌∙◌, arith}
use Rattle.lard_rules.specs.Loop.{Step, More, Done, runs_on, runs}

module _ {X : Type 0} where
  -- what a turn gives, with what comes after it
  abbrev pub then : (X → X) → Step X → X
  then f (More y) = f y
  then f (Done y) = y

  pub runs-suc : (turn : X → Step X) (n : ℕ) (x : X) → runs_on (suc n) turn x ≡ then (runs_on n turn) (turn x)
  unfolding runs_on
  runs-suc turn n x = go (turn x) where
    go : (s : Step X) → (elim s [ More y ↦ runs_on n turn y | Done y ↦ y ]) ≡ then (runs_on n turn) s
    go (More y) = refl
    go (Done y) = refl

module _ {X : Type 0} (turn : X → Step X) (left : X → ℕ) where
  -- each turn but the last takes something away
  abbrev pub Falls : Type 0
  Falls = (x y : X) → turn x ≡ More y → left y < left x

  then-same : (f g : X → X) (x : X) (s : Step X) → turn x ≡ s → ((y : X) → turn x ≡ More y → f y ≡ g y) → then f s ≡ then g s
  then-same f g x (More y) e same = same y e
  then-same f g x (Done y) e same = refl

  -- two counts that suffice give the same
  enough : Falls → (n m : ℕ) (x : X) → left x < n → left x < m → runs_on n turn x ≡ runs_on m turn x
  enough falls zero m x a b = absurd (omega (arith, a))
  enough falls (suc n) zero x a b = absurd (omega (arith, b))
  enough falls (suc n) (suc m) x a b =
      runs-suc turn n x
      ∙ then-same (runs_on n turn) (runs_on m turn) x (turn x) refl
      (λ y e. let f : left y < left x = falls x y e in enough falls n m y (omega (arith, f, a)) (omega (arith, f, b)))
      ∙ sym (runs-suc turn m x)

  first : (x : X) → runs turn left x ≡ then (runs_on (left x) turn) (turn x)
  first x = let k : left x + 1 ≡ suc (left x) = omega arith in ap (λ n. runs_on n turn x) k ∙ runs-suc turn (left x) x

  -- from what a turn gives it ends as from before it
  pub goes_more : Falls → (x y : X) → turn x ≡ More y → runs turn left x ≡ runs turn left y
  goes_more falls x y e =
      let f : left y < left x = falls x y e in
      first x ∙ ap (then (runs_on (left x) turn)) e ∙ enough falls (left x) (left y + 1) y f (omega arith)

  -- what the last turn gives is what the loop gives
  pub goes_done : (x y : X) → turn x ≡ Done y → runs turn left x ≡ y
  goes_done x y e = first x ∙ ap (then (runs_on (left x) turn)) e

-- what each turn keeps
module _ {X : Type 0} (turn : X → Step X) (left : X → ℕ) (P : X → Type 0) where
  pub record KeptByTurns : Type 0 where
    pub more : (x y : X) → turn x ≡ More y → P x → P y
    pub done : (x y : X) → turn x ≡ Done y → P x → P y

  then-keep : KeptByTurns → (f : X → X) (x : X) (s : Step X) → turn x ≡ s → P x → ((y : X) → P y → P (f y)) → P (then f s)
  then-keep k f x (More y) e p on = on y (k.more x y e p)
  then-keep k f x (Done y) e p on = k.done x y e p

  keep-on : KeptByTurns → (n : ℕ) (x : X) → P x → P (runs_on n turn x)
  unfolding runs_on
  keep-on k zero x p = p
  keep-on k (suc n) x p = subst P (sym (runs-suc turn n x)) (then-keep k (runs_on n turn) x (turn x) refl p (λ y q. keep-on k n y q))

  -- the loop keeps too
  pub runs_keep : KeptByTurns → (x : X) → P x → P (runs turn left x)
  runs_keep k x p = keep-on k (left x + 1) x p
