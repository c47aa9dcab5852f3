-- No call changes how many nodes there are.
use Rattle.std.proofs.Common.{◌≡◌, ℕ, Bool, true, false, cond, nat_eq, Option, Some, None, refl}
use Rattle.std.specs.FinMap as map
use Rattle.lard_loads.specs.Tally.{Standing, Tally, batch_ended, batch_ended_with, shared, sharing}

pub nodes_shared : (t : Tally) (c n size : ℕ) → (shared t c n size).nodes ≡ t.nodes
nodes_shared t c n size = go (map.get t.standings c) where
  pick : (b : Bool) (u : Tally) → u.nodes ≡ t.nodes → (cond b t u).nodes ≡ t.nodes
  pick true u e = refl
  pick false u e = e

  go : (o : Option Standing) → (sharing t c n size o).nodes ≡ t.nodes
  go None = refl
  go (Some s) = pick (nat_eq n s.home) _ refl

pub nodes_ended : (t : Tally) (c : ℕ) → (batch_ended t c).nodes ≡ t.nodes
nodes_ended t c = go (map.get t.standings c) where
  go : (o : Option Standing) → (batch_ended_with t c o).nodes ≡ t.nodes
  go None = refl
  go (Some s) = refl
