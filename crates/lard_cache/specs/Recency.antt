-- The recency list of a cache.
use Rattle.std.specs.Prelude.{ℕ, ◌+◌, ◌-◌, Bool, ◌&&◌, ◌||◌, nat_lt, nat_le, List, [], ◌∷◌, map, Option, Some, None, is_some, Vec, refl, if◌then◌else◌}
use Rattle.std.specs.Coded.{Coded, code_by, coded×, coded_list, coded_ℕ}
use Rattle.std.specs.declared.alloc.Global.{Global}
use Rattle.std.specs.Str.{bytes_eq}
use Rattle.std.specs.Map.{lookup, remove_entry}
use Rattle.lard_cache.specs.declared.cache.TheConstants.{MAX_CACHED_PATHS}

-- paths with the bytes of their files, the most recently used first, and how many bytes they may have in all
pub record Recency : Type 0 where
  pub entries : List (List ℕ × ℕ)
  pub limit : ℕ

abbrev pub recency_code : Coded Recency
recency_code = code_by (List (List ℕ × ℕ) × ℕ) (coded× (coded_list (coded× (coded_list coded_ℕ) coded_ℕ)) coded_ℕ) (λ c. (c.entries, c.limit)) (λ p. record { entries = p.0; limit = p.1 }) (λ _. refl)

-- the pairs that the entries of a map of vectors are seen as
abbrev pub entries_shown : List (Vec ℕ Global × ℕ) → List (List ℕ × ℕ)
entries_shown entries = map (λ e. (e.0.items, e.1)) entries

-- how many bytes the file of a path has, where the path is there
abbrev pub size_at : List (List ℕ × ℕ) → List ℕ → Option ℕ
size_at entries path = lookup (bytes_eq path) entries

abbrev pub has_path : List (List ℕ × ℕ) → List ℕ → Bool
has_path entries path = is_some (size_at entries path)

-- the bytes of all files
abbrev pub total : List (List ℕ × ℕ) → ℕ
total [] = 0
total (e ∷ es) = e.1 + total es

-- there are too many paths, or their files have too many bytes
abbrev pub is_over : ℕ → ℕ → ℕ → Bool
is_over count bytes limit = nat_lt MAX_CACHED_PATHS count || nat_lt limit bytes

-- a path goes to the front, out of its old place where it has one
abbrev pub in_front : List (List ℕ × ℕ) → List ℕ → ℕ → List (List ℕ × ℕ)
in_front entries path size = (path, size) ∷ remove_entry (bytes_eq path) entries

-- a path that is there goes to the front
abbrev pub brought_forward : List (List ℕ × ℕ) → List ℕ → Option ℕ → List (List ℕ × ℕ)
brought_forward entries path None = entries
brought_forward entries path (Some size) = in_front entries path size

abbrev pub after_hit : List (List ℕ × ℕ) → List ℕ → List (List ℕ × ℕ)
after_hit entries path = brought_forward entries path (size_at entries path)

-- the longest front with at most so many paths whose files have at most so many bytes
abbrev pub front_within : ℕ → ℕ → List (List ℕ × ℕ) → List (List ℕ × ℕ)
front_within paths bytes [] = []
front_within paths bytes (e ∷ es) = if nat_lt 0 paths && nat_le e.1 bytes then e ∷ front_within (paths - 1) (bytes - e.1) es else []

-- a path goes to the front, and others drop from the end; a file that is larger than the cache is not put
abbrev pub after_put : Recency → List ℕ → ℕ → Recency
after_put c path size = if nat_lt c.limit size then c else record c { entries = front_within MAX_CACHED_PATHS c.limit (in_front c.entries path size) }
