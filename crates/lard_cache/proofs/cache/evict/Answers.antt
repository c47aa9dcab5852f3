-- Each turn drops the last path, which is in no front within the bounds.
use Rattle.std.proofs.Common.{◌≡◌, ℕ, ◌-◌, ◌≤◌, ◌∙◌, sym, ap, List, length, take, Vec, Global, arith}
use Rattle.lru.specs.LruCache.{LruCache}
use Rattle.lard_cache.specs.declared.cache.TheConstants.{MAX_CACHED_PATHS}
use Rattle.lard_cache.specs.Recency.{entries_shown, total, front_within}
use Rattle.lard_cache.specs.Laws.{IsWithinCapacity}
use Rattle.lard_cache.proofs.Entries.{IsPopped, popped, length-shown}
use Rattle.lard_cache.proofs.Fronts.{last-drops, all-stay, over-not, over-within}
use Rattle.lard_cache.proofs.cache.evict.Goals as goal

last : (c : goal.After-from-bytes) → IsPopped c.loop-paths.paths.entries c.in-Some.size
last c = popped c.loop-paths.paths.entries (c.in-Some.field-0-0, c.in-Some.size) (sym c.pop_lru.ensures.value ∙ c.in-Some.is)

pub overflow_sub-bytes : goal.overflow_sub-bytes
overflow_sub-bytes c = let p = (last c).bytes in omega (arith, p, c.loop-paths.invariant.0, c.from-bytes.ensures)

pub loop-paths-preserved : goal.loop-paths-preserved
loop-paths-preserved c =
    let es : List (Vec ℕ Global × ℕ) = c.loop-paths.paths.entries in
    let m : ℕ = length es - 1 in
    let p : IsPopped es c.in-Some.size = last c in
    let left : c.pop_lru.new.self.entries ≡ take m es = ap (λ (x : LruCache (Vec ℕ Global) ℕ). x.entries) c.pop_lru.ensures.entries in
    let rest : total (entries_shown c.pop_lru.new.self.entries) ≡ total (entries_shown (take m es)) = ap (λ (xs : List (Vec ℕ Global × ℕ)). total (entries_shown xs)) left in
    let over : IsWithinCapacity MAX_CACHED_PATHS c.args.limit (entries_shown es) → ⊥ =
    λ w. over-not c.len.result c.loop-paths.bytes c.args.limit (sym c.is_over.ensures ∙ c.loop-paths-test.true)
    (omega (arith, c.len.ensures.len, length-shown es, w.0), omega (arith, c.loop-paths.invariant.0, w.1)) in (
      omega (arith, rest, p.bytes, c.loop-paths.invariant.0, c.from-bytes.ensures),
      ap (λ (xs : List (Vec ℕ Global × ℕ)). front_within MAX_CACHED_PATHS c.args.limit (entries_shown xs)) left
          ∙ ap (front_within MAX_CACHED_PATHS c.args.limit) p.pairs
          ∙ last-drops MAX_CACHED_PATHS c.args.limit (entries_shown es) m p.count over
          ∙ c.loop-paths.invariant.1,
      ap (λ (x : LruCache (Vec ℕ Global) ℕ). x.cap) c.pop_lru.ensures.entries ∙ c.loop-paths.invariant.2,
    )

pub returns-clause-entries : goal.returns-clause-entries
returns-clause-entries c =
    let es : List (Vec ℕ Global × ℕ) = c.loop-paths.paths.entries in
    let w : (c.len.result ≤ MAX_CACHED_PATHS) × (c.loop-paths.bytes ≤ c.args.limit) = over-within c.len.result c.loop-paths.bytes c.args.limit (sym c.is_over.ensures ∙ c.loop-paths-test.false) in
    sym (all-stay MAX_CACHED_PATHS c.args.limit (entries_shown es) (omega (arith, c.len.ensures.len, length-shown es, w.0), omega (arith, c.loop-paths.invariant.0, w.1)))
    ∙ c.loop-paths.invariant.1
