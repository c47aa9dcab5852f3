-- What each node keeps in its cache, and what is counted of it.
use Rattle.std.specs.Prelude.{ℕ, ◌+◌, ◌-◌, ◌≤◌, Bool, false, max, List, [], Option, Some, None, replicate, slice_get, slice_set, refl, if◌then◌else◌}
use Rattle.std.specs.Coded.{Coded, code_by, coded×, coded_ℕ, coded_list}
use Rattle.lard_cache.specs.Recency.{Recency, after_hit, after_put, has_path}
use Rattle.lard_lab.specs.contracts.backends.Backend as backend
use Rattle.lard_lab.specs.declared.backends.Backend.{Backend}

-- the nodes in the order of their numbers, the requests that were assigned, and those whose path was in the cache of their node
pub record Stores : Type 0 where
  pub nodes : List Backend
  pub requests : ℕ
  pub hits : ℕ

abbrev pub coded_stores : Coded Stores
coded_stores = code_by _ (coded× (coded_list backend.the_row.coded) (coded× coded_ℕ coded_ℕ)) (λ s. (s.nodes, (s.requests, s.hits))) (λ p. record { nodes = p.0; requests = p.1.0; hits = p.1.1 }) (λ _. refl)

-- ---- a cache

-- nothing is kept
abbrev pub empty : ℕ → Recency
empty bytes = record { entries = []; limit = bytes }

-- A path that is there comes to the front, and any other is put.
abbrev pub fed : Recency → List ℕ → ℕ → Recency
fed cache path size = if has_path cache.entries path then record cache { entries = after_hit cache.entries path } else after_put cache path size

-- ---- a node

abbrev pub cold : ℕ → Backend
cold bytes = record { cache = empty bytes; requests = 0; hits = 0; peak = 0 }

abbrev pub one_if : Bool → ℕ
one_if b = if b then 1 else 0

-- a node behind a request, with which so many are open
abbrev pub backend_after : Backend → List ℕ → ℕ → ℕ → Backend
backend_after b path size load = record {
  cache = fed b.cache path size;
  requests = b.requests + 1;
  hits = b.hits + one_if (has_path b.cache.entries path);
  peak = max b.peak load;
}

-- ---- all nodes

abbrev pub untouched : ℕ → ℕ → Stores
untouched nodes bytes = record { nodes = replicate nodes (cold bytes); requests = 0; hits = 0 }

abbrev pub keeps : Option Backend → List ℕ → Bool
keeps None path = false
keeps (Some b) path = has_path b.cache.entries path

-- a path is in the cache of a node
abbrev pub is_hit : Stores → ℕ → List ℕ → Bool
is_hit s n path = keeps (slice_get s.nodes (n - 1)) path

abbrev pub backends_after : List Backend → ℕ → Option Backend → List ℕ → ℕ → ℕ → List Backend
backends_after nodes at None path size load = nodes
backends_after nodes at (Some b) path size load = slice_set nodes at (backend_after b path size load)

-- the node at a place serves a request
abbrev pub node_after : List Backend → ℕ → List ℕ → ℕ → ℕ → List Backend
node_after nodes at path size load = backends_after nodes at (slice_get nodes at) path size load

-- a node serves a request
abbrev pub stores_served : Stores → ℕ → List ℕ → ℕ → ℕ → Stores
stores_served s n path size load = record {
  nodes = node_after s.nodes (n - 1) path size load;
  requests = s.requests + 1;
  hits = s.hits + one_if (is_hit s n path);
}

-- no more is counted of one node than of all
pub record IsCountedOf (requests hits : ℕ) (b : Backend) : Type 0 where
  pub as_many : b.requests ≤ requests
  pub found : b.hits ≤ hits
