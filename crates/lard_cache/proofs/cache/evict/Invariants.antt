use Rattle.std.proofs.Common.{◌≡◌, length}
use Rattle.lard_cache.specs.declared.cache.TheConstants.{MAX_CACHED_PATHS}
use Rattle.lard_cache.specs.Recency.{entries_shown, total, front_within}
use Rattle.lard_cache.proofs.cache.evict.Given as goal

abbrev pub invariant-loop-paths : goal.invariant-loop-paths
invariant-loop-paths l =
    (l.bytes ≡ total (entries_shown l.paths.entries))
    × (front_within MAX_CACHED_PATHS l.limit (entries_shown l.paths.entries) ≡ front_within MAX_CACHED_PATHS l.limit (entries_shown l.initial.paths.entries))
    × (l.paths.cap ≡ l.initial.paths.cap)

abbrev pub decreases-loop-paths : goal.decreases-loop-paths
decreases-loop-paths l = length l.paths.entries
