-- Packets are short, one by one.
use Rattle.std.proofs.Common.{ℕ, ◌≤◌, List, [], ◌∷◌, ◌++◌, length}
use Rattle.lard_base.specs.declared.place.Place.{Place}
use Rattle.lard_rules.specs.Speaking.{AreShort}

pub short_push : (ss : List (Place × List ℕ)) (s : Place × List ℕ) → AreShort ss → length s.1 ≤ 1520 → AreShort (ss ++ s ∷ [])
short_push [] s h e = (e, tt)
short_push (x ∷ ss) s h e = (h.0, short_push ss s h.1 e)
