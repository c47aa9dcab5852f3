-- A set of nodes, as 64 flags.
use Rattle.std.specs.Prelude.{ℕ, ◌-◌, Bool, nat_eq, List}
use Rattle.std.specs.List.{range_with_len}
use Rattle.std.specs.Int.{bit_at}

-- the node with this number is a member
abbrev pub has : ℕ → ℕ → Bool
has members n = nat_eq (bit_at members (n - 1)) 1

-- the numbers that a node can have
unfoldable pub node_numbers : List ℕ
node_numbers = range_with_len 1 64
