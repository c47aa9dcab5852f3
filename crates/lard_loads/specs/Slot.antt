-- What a slot says of its connection, and all slots together of all connections.
use Rattle.std.specs.Prelude.{ℕ, ◌+◌, Bool, false, nat_eq, List, [], ◌∷◌, Option, Some, None, take}
use Rattle.std.specs.FinMap as map
use Rattle.std.specs.FinMap.{FinMap}
use Rattle.std.specs.Ordering.{nat_cmp}
use Rattle.lard_table.specs.Table.{put_or}
use Rattle.lard_loads.specs.declared.slot.Share.{Share}
use Rattle.lard_loads.specs.declared.slot.Slot.{Slot}
use Rattle.lard_loads.specs.Tally.{Standing}

-- the shares that are open
abbrev pub shares_open_in : Slot → List Share
shares_open_in s = take s.count s.shares

-- a home that is this node
abbrev pub is_home_at : Option ℕ → ℕ → Bool
is_home_at None n = false
is_home_at (Some h) n = nat_eq n h

abbrev pub standing_with : Option ℕ → List Share → Option Standing
standing_with None xs = None
standing_with (Some h) xs = Some (record { home = h; shares = xs })

abbrev pub standing_of : Slot → Option Standing
standing_of s = standing_with s.home (shares_open_in s)

-- connections from a number on, one slot for each
abbrev pub standings_from : ℕ → List Slot → FinMap nat_cmp Standing
standings_from c [] = map.empty
standings_from c (s ∷ ss) = put_or (standings_from (c + 1) ss) c (standing_of s)
