-- As a stay goes on, it asks for nothing, or the numbers of its Asks go on; and it wants no further content.
use Rattle.std.proofs.Common.{◌≡◌, ◌<◌, ◌≤◌, ◌⊎◌, ◌+◌, ◌∷◌, Option, inl, inr, refl, arith}
use Rattle.lard_law_view.specs.Prelude.{Asked, NodeEnv, Work, asks_for, goes_on}
use Rattle.lard_rules.proofs.StayKeeping.{turning-keeps}

pub record Asks (a b : Work) : Type 0 where
  pub up : a.asks ≤ b.asks
  pub asked : (b.asked ≡ a.asked) ⊎ (a.asks < b.asks)
  pub wants : b.wants ≡ a.wants

asks-self : (a : Work) → Asks a a
asks-self a = record { up = omega arith; asked = inl refl; wants = refl }

module _ (env : NodeEnv) where
  -- a further Ask has a further number
  further : (a w : Work) (asked : Option Asked) → Asks a w → Asks a (record w { asks = w.asks + 1; asked = asked })
  further a w asked h = let up = h.up in record { up = omega (arith, up); asked = inr (omega (arith, up)); wants = h.wants }

  pub goes-asks : (a : Work) → Asks a (goes_on env a)
  goes-asks a = turning-keeps env (Asks a) (record {
    enters = λ v w h. record { up = h.up; asked = h.asked; wants = h.wants };
    asks = λ size path paths w e h. further a w (asks_for env size (path ∷ paths) w).asked h;
    takes = λ used w none h. record { up = h.up; asked = h.asked; wants = h.wants };
    ends = λ w none h. record { up = h.up; asked = h.asked; wants = h.wants };
    serves = λ way e rest w may first is h. record { up = h.up; asked = h.asked; wants = h.wants };
  }) a (asks-self a)
