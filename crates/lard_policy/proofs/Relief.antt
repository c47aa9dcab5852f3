-- Which load the node of a choice has.
use Rattle.std.proofs.Common.{◌≡◌, ◌⊎◌, ◌*◌, ◌≤◌, ◌<◌, ℕ, Bool, true, false, ◌&&◌, ◌||◌, nat_lt, nat_le, Option, Some, None, IsSome, unwrap_or, cond, refl, sym, subst, inl, inr, arith}
use Rattle.std.proofs.lemmas.Bool.Decides.{nat_tests}
use Rattle.lard_base.specs.declared.config.Config.{Config}
use Rattle.lard_loads.specs.declared.loads.TheConstants.{WHOLE}
use Rattle.lard_loads.specs.Tally.{Tally, load, least, least_of, any_below}
use Rattle.lard_policy.specs.declared.first.FirstChoice.{FirstChoice}
use Rattle.lard_policy.specs.First.{least_node, is_overloaded, relieved, first_choice}
use Rattle.lard_policy.specs.Laws.{MayTakeMore, RelievesNodes}
use Rattle.lard_policy.proofs.Choice.{by_least}

-- the least loaded node is the one that is found
pub is_least : (t : Tally) → IsSome (least t) → least t ≡ Some (least_node t)
is_least t some = go (least t) some where
  go : (o : Option ℕ) → IsSome o → o ≡ Some (unwrap_or o 0)
  go (Some n) h = refl
  go None h = absurd cc

-- what the test of a node's load says where it fails
may_take : (low : Bool) (loaded most : ℕ) → (nat_lt most loaded && low) || nat_le (2 * most) loaded ≡ false
    → (loaded ≤ most) ⊎ ((low ≡ false) × (loaded < 2 * most))
may_take low loaded most h = go (nat_lt most loaded) refl low (nat_le (2 * most) loaded) refl h where
  go : (b : Bool) → nat_lt most loaded ≡ b → (c : Bool) (d : Bool) → nat_le (2 * most) loaded ≡ d → (b && c) || d ≡ false → (loaded ≤ most) ⊎ ((c ≡ false) × (loaded < 2 * most))
  go false e c d f k = inl (grind (arith, nat_tests, e))
  go true e true d f k = cc
  go true e false true f k = cc
  go true e false false f k = inr (refl, grind (arith, nat_tests, f))

-- a node that is not overloaded stays; any other gives way to the least loaded one
fits : (t : Tally) (cfg : Config) (n : ℕ) → IsSome (least t) → MayTakeMore t cfg (relieved t cfg n) ⊎ (least t ≡ Some (relieved t cfg n))
fits t cfg n some = go (is_overloaded t cfg n) refl where
  go : (b : Bool) → is_overloaded t cfg n ≡ b → MayTakeMore t cfg (cond b (least_node t) n) ⊎ (least t ≡ Some (cond b (least_node t) n))
  go true e = inr (is_least t some)
  go false e = inl (may_take (any_below t (cfg.low * WHOLE)) (load t n) (cfg.high * WHOLE) e)

pub relieves : RelievesNodes
relieves t set now last_mod cfg some = go (least_of t set) refl where
  P : FirstChoice → Type 0
  P choice = MayTakeMore t cfg choice.node ⊎ (least t ≡ Some choice.node)

  go : (o : Option ℕ) → least_of t set ≡ o → P (first_choice t set now last_mod cfg)
  go None e = subst P (sym (by_least t set now last_mod cfg None e)) (inr (is_least t some))
  go (Some n) e = subst P (sym (by_least t set now last_mod cfg (Some n) e)) (fits t cfg n some)
