-- The line of waiting connections, first come first.
use Rattle.std.specs.Prelude.{◌≡◌, ℕ, ◌-◌, ◌<◌, ◌≤◌, Bool, ◌==◌, not, List, map, filter, length, slice_index}
use Rattle.std.specs.List.{AllByRecursion, list_any}
use Rattle.std.specs.List.Sorted.{IsStrictlySortedBy}
use Rattle.std.specs.Ordering.{nat_cmp}
use Rattle.lard_base.specs.declared.ids.TheConstants.ConnId.{MAX}
use Rattle.lard_dispatch.specs.declared.line.Waiting.{Waiting}

-- it is this connection that waits
abbrev pub is_of : ℕ → Waiting → Bool
is_of c w = w.c == c

-- the connection waits
abbrev pub line_waits : List Waiting → ℕ → Bool
line_waits line c = list_any (is_of c) line

-- the line once a connection has left it
abbrev pub line_without : List Waiting → ℕ → List Waiting
line_without line c = filter (λ w. not (is_of c w)) line

-- who waits, by the arrivals
abbrev pub who : List (ℕ × Waiting) → List Waiting
who entries = map (λ e. e.1) entries

-- the arrival of a connection
abbrev pub arrival_of : List ℕ → ℕ → ℕ
arrival_of arrivals c = slice_index arrivals (c - 1)

-- one that waits came before the next arrival, and is found by it
abbrev pub IsFoundByArrival : List ℕ → ℕ → ℕ × Waiting → Type 0
IsFoundByArrival arrivals next e = (1 ≤ e.1.c) × (1 ≤ e.0) × (e.0 < next) × (arrival_of arrivals e.1.c ≡ e.0)

-- What holds of arrivals: each is that of one connection, and before the next one.
pub record IsLineKept (entries : List (ℕ × Waiting)) (arrivals : List ℕ) (next : ℕ) : Type 0 where
  pub room : length arrivals ≡ MAX
  pub begun : 1 ≤ next
  pub ordered : IsStrictlySortedBy nat_cmp (map (λ e. e.0) entries)
  pub found : AllByRecursion (IsFoundByArrival arrivals next) entries
  pub before : (k : ℕ) → slice_index arrivals k < next
  pub apart : (j k : ℕ) → slice_index arrivals j ≡ slice_index arrivals k → 1 ≤ slice_index arrivals j → j ≡ k
