-- What places of the whole have to do: jobs at a node, and whether a client holds.
use Rattle.std.specs.Prelude.{ℕ, zero, suc, ◌+◌, Bool, false, length, Option, Some, None}
use Rattle.std.specs.FinMap as table
use Rattle.lard_law_view.specs.Prelude.{Machine, NodeState, Station, is_holding, node_at}

-- how many jobs wait at the disk of node n
abbrev pub jobs_of : Option NodeState → ℕ
jobs_of None = 0
jobs_of (Some s) = length s.disk

abbrev pub jobs_at : Machine → ℕ → ℕ
jobs_at m n = jobs_of (node_at m.nodes n)

-- how many at so many nodes, the first of which is n
abbrev pub jobs_from : Machine → ℕ → ℕ → ℕ
jobs_from m n zero = 0
jobs_from m n (suc more) = jobs_at m n + jobs_from m (n + 1) more

-- client c opened, and holds: it was neither aborted nor reset, and was told to hold last
abbrev pub holds_there : Option Station → Bool
holds_there None = false
holds_there (Some x) = is_holding x.client

abbrev pub is_holder : Machine → ℕ → Bool
is_holder m c = holds_there (table.get m.clients c)
