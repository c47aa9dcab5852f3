-- What holds of running loads: each is what the slots add up to.
use Rattle.std.specs.Prelude.{◌≡◌, ℕ, ◌<◌, ◌≤◌, List, All, IfSome, length}
use Rattle.std.specs.FinMap as map
use Rattle.std.specs.List.{filter}
use Rattle.lard_base.specs.Members.{has}
use Rattle.lard_loads.specs.declared.slot.Share.{Share}
use Rattle.lard_loads.specs.declared.slot.Slot.{Slot}
use Rattle.lard_loads.specs.Running.{at_node}
use Rattle.lard_loads.specs.Slot.{shares_open_in, standings_from}
use Rattle.lard_loads.specs.Tally.{Tally, load_of, numbers}

-- the tally that so many nodes, the flags of the open ones and the slots make
abbrev pub tally_of : ℕ → ℕ → List Slot → Tally
tally_of nodes flags slots = record { nodes = nodes; open_nodes = filter (has flags) (numbers nodes); standings = standings_from 1 slots }

abbrev pub IsNode : ℕ → ℕ → Type 0
IsNode nodes n = (1 ≤ n) × (n ≤ nodes)

-- a share of a node that there is, of at most a whole connection
abbrev pub IsShare : ℕ → Share → Type 0
IsShare nodes x = IsNode nodes x.node × (x.units ≤ 840)

pub record IsSlot (nodes : ℕ) (s : Slot) : Type 0 where
  pub home : IfSome s.home (IsNode nodes)
  pub shares : All (IsShare nodes) (shares_open_in s)

pub record IsTallied (loads : List ℕ) (flags : ℕ) (slots : List Slot) (admitted : ℕ) : Type 0 where
  pub few : length loads ≤ 64
  pub some_open : 0 < length (filter (has flags) (numbers (length loads)))
  pub all_slots : length slots ≡ 16384
  pub slots_in_range : All (IsSlot (length loads)) slots
  pub running : (n : ℕ) → 1 ≤ n → n ≤ length loads → at_node loads n ≡ load_of (standings_from 1 slots) n
  pub counted : admitted ≡ map.len (standings_from 1 slots)
