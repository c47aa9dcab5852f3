-- Loads that are kept as a list, by the numbers of the nodes.
use Rattle.std.specs.Prelude.{ℕ, ◌-◌, List, slice_index}

-- what stands for a node in a list by numbers
abbrev pub at_node : List ℕ → ℕ → ℕ
at_node xs n = slice_index xs (n - 1)
