-- How late an epoch is at most of a connection that leaves the front end once, which is all that happens as long as no node sends one back:
-- the first while it is here, one later while it is away, and one later again once it is over.
use Rattle.std.specs.Prelude.{ℕ, ◌≤◌}

abbrev pub IsOnceHere : ℕ → Type 0
IsOnceHere e = e ≤ 1

abbrev pub IsOnceAway : ℕ → Type 0
IsOnceAway e = e ≤ 2

abbrev pub IsOnceOver : ℕ → Type 0
IsOnceOver e = e ≤ 3
