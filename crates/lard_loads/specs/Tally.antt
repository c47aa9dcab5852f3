-- What counts as load: the node that each admitted connection was assigned to first, and the shares of its batch that are
-- open at other nodes. All loads are in 840ths of a connection, so that each share of a batch of one to eight is a whole
-- number.
use Rattle.std.specs.Prelude.{ℕ, ◌+◌, ◌/◌, Bool, not, nat_eq, nat_lt, if◌then◌else◌, List, [], ◌∷◌, ◌++◌, length, sum_by, Option, Some, None, refl}
use Rattle.std.specs.Coded.{Coded, code_by, coded×, coded_ℕ, coded_list}
use Rattle.std.specs.FinMap as map
use Rattle.std.specs.FinMap.{FinMap}
use Rattle.std.specs.List.{filter, list_any, range_with_len}
use Rattle.std.specs.Ordering.{nat_cmp}
use Rattle.lard_base.specs.Members.{has}
use Rattle.lard_loads.specs.Order.{least_in, most_in}
use Rattle.lard_loads.specs.contracts.slot.Share as share
use Rattle.lard_loads.specs.declared.slot.Share.{Share}

-- An admitted connection: its home, which is the node that it was assigned to first, and its open shares, in the order in
-- which they were opened.
pub record Standing : Type 0 where
  pub home : ℕ
  pub shares : List Share

abbrev pub coded_standing : Coded Standing
coded_standing = code_by _ (coded× coded_ℕ (coded_list share.the_row.coded)) (λ s. (s.home, s.shares)) (λ p. record { home = p.0; shares = p.1 }) (λ _. refl)

pub record Tally : Type 0 where
  pub nodes : ℕ  -- how many there are; their numbers run from 1
  pub open_nodes : List ℕ  -- those that were not closed, in the order of their numbers
  pub standings : FinMap nat_cmp Standing  -- the admitted connections

abbrev pub coded_tally : Coded Tally
coded_tally = code_by _ (coded× coded_ℕ (coded× (coded_list coded_ℕ) (map.code coded_ℕ coded_standing)))
    (λ t. (t.nodes, (t.open_nodes, t.standings))) (λ p. record { nodes = p.0; open_nodes = p.1.0; standings = p.1.1 }) (λ _. refl)

-- ---- what a tally says

-- the numbers of so many nodes
abbrev pub numbers : ℕ → List ℕ
numbers nodes = range_with_len 1 nodes

-- how many connections there can be
unfoldable pub most_connections : ℕ
most_connections = 16384

-- the numbers that a connection can have
abbrev pub connections : List ℕ
connections = range_with_len 1 most_connections

-- what a share counts at a node
abbrev pub units_of_share : ℕ → Share → ℕ
units_of_share n x = if nat_eq x.node n then x.units else 0

-- what a connection counts at a node: 840 at its home, and the units of its shares there
abbrev pub units_of : Option Standing → ℕ → ℕ
units_of None n = 0
units_of (Some s) n = (if nat_eq s.home n then 840 else 0) + sum_by (units_of_share n) s.shares

-- what all these connections count at a node
unfoldable pub load_of : FinMap nat_cmp Standing → ℕ → ℕ
load_of standings n = sum_by (λ c. units_of (map.get standings c) n) connections

-- a node's load
abbrev pub load : Tally → ℕ → ℕ
load t n = load_of t.standings n

-- how many connections are admitted
abbrev pub admitted : Tally → ℕ
admitted t = map.len t.standings

abbrev pub home_of : Option Standing → Option ℕ
home_of None = None
home_of (Some s) = Some s.home

-- the home of a connection, if it is admitted
abbrev pub home : Tally → ℕ → Option ℕ
home t c = home_of (map.get t.standings c)

abbrev pub shares_of : Option Standing → List Share
shares_of None = []
shares_of (Some s) = s.shares

-- how many of its shares are open
abbrev pub open_shares : Tally → ℕ → ℕ
open_shares t c = length (shares_of (map.get t.standings c))

abbrev pub is_open : Tally → ℕ → Bool
is_open t n = list_any (nat_eq n) t.open_nodes

-- a node other than this one is open
abbrev pub has_other_open : Tally → ℕ → Bool
has_other_open t n = list_any (λ m. not (nat_eq m n)) t.open_nodes

-- ---- the choices among nodes

-- the least loaded open node, the lowest number at a tie
abbrev pub least : Tally → Option ℕ
least t = least_in (load t) t.open_nodes

-- the least loaded member, the lowest number at a tie
abbrev pub least_of : Tally → ℕ → Option ℕ
least_of t members = least_in (load t) (filter (has members) (numbers t.nodes))

-- the most loaded member, the highest number at a tie
abbrev pub most_of : Tally → ℕ → Option ℕ
most_of t members = most_in (load t) (filter (has members) (numbers t.nodes))

-- some open node has a load below so many units
abbrev pub any_below : Tally → ℕ → Bool
any_below t units = list_any (λ n. nat_lt (load t n) units) t.open_nodes

-- ---- what is done to it

-- so many nodes, all open, and no connection
abbrev pub tally_start : ℕ → Tally
tally_start nodes = record { nodes = nodes; open_nodes = numbers nodes; standings = map.empty }

-- a connection is admitted and assigned to a node
abbrev pub connected : Tally → ℕ → ℕ → Tally
connected t c n = record t { standings = map.insert t.standings c (record { home = n; shares = [] }) }

-- a connection is released, and its shares with it
abbrev pub released : Tally → ℕ → Tally
released t c = record t { standings = map.remove t.standings c }

-- a later request of a batch of this size is assigned to a node: away from home it opens a share
abbrev pub sharing : Tally → ℕ → ℕ → ℕ → Option Standing → Tally
sharing t c n size None = t
sharing t c n size (Some s) = if nat_eq n s.home then t else record t { standings = map.insert t.standings c (record s { shares = s.shares ++ record { node = n; units = 840 / size } ∷ [] }) }

abbrev pub shared : Tally → ℕ → ℕ → ℕ → Tally
shared t c n size = sharing t c n size (map.get t.standings c)

-- a connection's batch is over: none of its shares is open
abbrev pub batch_ended_with : Tally → ℕ → Option Standing → Tally
batch_ended_with t c None = t
batch_ended_with t c (Some s) = record t { standings = map.insert t.standings c (record s { shares = [] }) }

abbrev pub batch_ended : Tally → ℕ → Tally
batch_ended t c = batch_ended_with t c (map.get t.standings c)

-- a node is closed to new assignments
abbrev pub tally_closed : Tally → ℕ → Tally
tally_closed t n = record t { open_nodes = filter (λ m. not (nat_eq m n)) t.open_nodes }
