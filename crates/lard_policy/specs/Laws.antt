-- What holds of every first choice.
use Rattle.std.specs.Prelude.{◌≡◌, ◌⊎◌, ℕ, ◌*◌, ◌<◌, ◌≤◌, true, false, Option, Some, None, IsSome}
use Rattle.lard_base.specs.declared.config.Config.{Config}
use Rattle.lard_base.specs.declared.ids.Millis.{Millis}
use Rattle.lard_base.specs.Members.{has}
use Rattle.lard_loads.specs.declared.loads.TheConstants.{WHOLE}
use Rattle.lard_loads.specs.Tally.{Tally, load, is_open, least, any_below}
use Rattle.lard_sets.specs.Sets.{with_member, without_member}
use Rattle.lard_policy.specs.declared.first.FirstChoice.{FirstChoice}
use Rattle.lard_policy.specs.First.{first_choice}

-- a set once a node has joined it, and once one has left it, if any
abbrev pub set_joined : ℕ → Option ℕ → ℕ
set_joined set None = set
set_joined set (Some n) = with_member set n

abbrev pub set_left : ℕ → Option ℕ → ℕ
set_left set None = set
set_left set (Some n) = without_member set n

-- a set after a choice: first a node joins, then one leaves
abbrev pub set_after : ℕ → FirstChoice → ℕ
set_after set choice = set_left (set_joined set choice.add) choice.remove

-- some node is open, and the open nodes are among the 64 that there can be
pub record HasOpenNodes (t : Tally) : Type 0 where
  pub some : IsSome (least t)
  pub range : (n : ℕ) → is_open t n ≡ true → (1 ≤ n) × (n ≤ 64)
  pub nodes : (n : ℕ) → is_open t n ≡ true → n ≤ t.nodes

-- each member is open, as `close` leaves it
abbrev pub AreOpen : Tally → ℕ → Type 0
AreOpen t set = (n : ℕ) → 1 ≤ n → has set n ≡ true → is_open t n ≡ true

-- The node that gets the request serves its target from then on: it is no other that leaves the set.
abbrev pub TheNodeServes : Type 0
TheNodeServes = (t : Tally) (set : ℕ) (now last_mod : Millis) (cfg : Config) → HasOpenNodes t → AreOpen t set
    → has (set_after set (first_choice t set now last_mod cfg)) (first_choice t set now last_mod cfg).node ≡ true

-- a node that takes a request without harm: its load is at most T_high, or no other has less than T_low and it has less than 2 T_high
abbrev pub MayTakeMore : Tally → Config → ℕ → Type 0
MayTakeMore t cfg n = (load t n ≤ cfg.high * WHOLE) ⊎ ((any_below t (cfg.low * WHOLE) ≡ false) × (load t n < 2 * (cfg.high * WHOLE)))

-- A request goes to such a node, or to the least loaded of the open ones.
abbrev pub RelievesNodes : Type 0
RelievesNodes = (t : Tally) (set : ℕ) (now last_mod : Millis) (cfg : Config) → IsSome (least t)
    → MayTakeMore t cfg (first_choice t set now last_mod cfg).node ⊎ (least t ≡ Some (first_choice t set now last_mod cfg).node)
