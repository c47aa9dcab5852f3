-- Values by their numbers: pairs of both.
use Rattle.std.specs.Prelude.{ℕ, nat_eq, List, Option}
use Rattle.std.specs.Map.{lookup}

-- what is kept under a number
abbrev pub kept : {V : Type 0} → List (ℕ × V) → ℕ → Option V
kept entries k = lookup (nat_eq k) entries
