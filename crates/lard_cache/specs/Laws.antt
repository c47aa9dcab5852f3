-- What holds of caches.
use Rattle.std.specs.Prelude.{◌≡◌, ℕ, ◌≤◌, true, List, length, take}
use Rattle.lard_cache.specs.declared.cache.TheConstants.{MAX_CACHED_PATHS}
use Rattle.lard_cache.specs.Recency.{Recency, has_path, total, after_hit, front_within, after_put}

-- at most so many paths, whose files have at most so many bytes
abbrev pub IsWithinCapacity : ℕ → ℕ → List (List ℕ × ℕ) → Type 0
IsWithinCapacity paths bytes entries = (length entries ≤ paths) × (total entries ≤ bytes)

-- What stays is a front within both bounds, and each longer one is not: paths drop from the end, and no more than has to.
pub record IsLongestFront (paths bytes : ℕ) (entries stays : List (List ℕ × ℕ)) : Type 0 where
  pub front : stays ≡ take (length stays) entries
  pub within : IsWithinCapacity paths bytes stays
  pub longest : (m : ℕ) → m ≤ length entries → IsWithinCapacity paths bytes (take m entries) → m ≤ length stays

abbrev pub EvictsFromTheEnd : Type 0
EvictsFromTheEnd = (paths bytes : ℕ) (entries : List (List ℕ × ℕ)) → IsLongestFront paths bytes entries (front_within paths bytes entries)

-- A path that is put is there, where its file is no larger than the cache.
abbrev pub KeepsWhatIsPut : Type 0
KeepsWhatIsPut = (c : Recency) (path : List ℕ) (size : ℕ) → size ≤ c.limit → has_path (after_put c path size).entries path ≡ true

-- A cache within its bounds stays so.
abbrev pub IsBounded : Recency → Type 0
IsBounded c = IsWithinCapacity MAX_CACHED_PATHS c.limit c.entries

abbrev pub StaysWithinItsBounds : Type 0
StaysWithinItsBounds = (c : Recency) (path : List ℕ) (size : ℕ) → IsBounded c
    → IsBounded (record c { entries = after_hit c.entries path }) × IsBounded (after_put c path size)
