-- How many jobs wait at a disk.
use Rattle.std.specs.Prelude.{◌≡◌, ℕ, ◌<◌, ◌^◌, List, length, Some}
use Rattle.lard_law_view.specs.Prelude.{Config, IsReached, Machine, NodeState, node_at}

-- In every state of every run, whatever its events name, fewer than 2^31 jobs wait at each node.
abbrev pub DisksStayShort : Type 0
DisksStayShort = (config : Config) (files : List (List ℕ × List ℕ)) (m : Machine) → IsReached config files m → (n : ℕ) (s : NodeState) → node_at m.nodes n ≡ Some s → length s.disk < 2 ^ 31
