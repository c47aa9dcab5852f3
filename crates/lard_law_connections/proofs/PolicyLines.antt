-- Each connection of the line waits with the path of which its front end's rest tells.
use Rattle.std.proofs.Common.{◌≡◌, ℕ, ◌==◌, ◌||◌, not, Bool, true, false, cond, List, [], ◌∷◌, ◌++◌, Option, Some, refl, ◌∙◌}
use Rattle.std.proofs.lemmas.Bool.{eqb-false}
use Rattle.std.specs.FinMap as table
use Rattle.lard_law_view.specs.Prelude.{FrontRest, FrontState, Waiting, front_rest, line_waits, line_without}
use Rattle.lard_history.proofs.Each.{Each, Each-append}

-- the path with which a connection waits, if it does
abbrev pub target_of : Option FrontRest → Option (List ℕ)
target_of rest = (front_rest rest).target

abbrev pub targets : FrontState → ℕ → Option (List ℕ)
targets s c = target_of (table.get s.rests c)

abbrev pub AreLined : (ℕ → Option (List ℕ)) → List Waiting → Type 0
AreLined t line = Each (λ w. t w.c ≡ Some w.target) line

module _ (t u : ℕ → Option (List ℕ)) where
  pub lined-same : ((q : ℕ) → u q ≡ t q) → (line : List Waiting) → AreLined t line → AreLined u line
  lined-same same [] h = tt
  lined-same same (w ∷ ws) h = (same w.c ∙ h.0, lined-same same ws h.1)

  module _ (c : ℕ) (others : (q : ℕ) → (q ≡ c → ⊥) → u q ≡ t q) where
    -- where the connection does not wait
    pub lined-absent : (line : List Waiting) → line_waits line c ≡ false → AreLined t line → AreLined u line
    lined-absent [] none h = tt
    lined-absent (w ∷ ws) none h = go (w.c == c) refl none h.0 (λ later. lined-absent ws later h.1) where
      go : (b : Bool) → (w.c == c) ≡ b → (b || line_waits ws c) ≡ false → t w.c ≡ Some w.target → (line_waits ws c ≡ false → AreLined u ws) → AreLined u (w ∷ ws)
      go true is out own later = let never : true ≡ false = out in absurd cc
      go false is out own later = (others w.c (eqb-false w.c c is) ∙ own, later out)

    -- where it leaves
    pub lined-without : (line : List Waiting) → AreLined t line → AreLined u (line_without line c)
    lined-without [] h = tt
    lined-without (w ∷ ws) h = go (w.c == c) refl h.0 (lined-without ws h.1) where
      go : (b : Bool) → (w.c == c) ≡ b → t w.c ≡ Some w.target → AreLined u (line_without ws c) → AreLined u (cond (not b) (w ∷ line_without ws c) (line_without ws c))
      go true is own later = later
      go false is own later = (others w.c (eqb-false w.c c is) ∙ own, later)

-- where it comes last
pub lined-more : (u : ℕ → Option (List ℕ)) (line : List Waiting) (w : Waiting) → AreLined u line → u w.c ≡ Some w.target → AreLined u (line ++ w ∷ [])
lined-more u line w h own = Each-append (λ w. u w.c ≡ Some w.target) line (w ∷ []) h (own, tt)
