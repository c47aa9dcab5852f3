-- The path goes to the front of the pairs, and its bytes take the place of those that it had.
use Rattle.std.proofs.Common.{◌≡◌, ℕ, ◌+◌, ◌∙◌, ap, Vec, Global, arith}
use Rattle.std.specs.Map.{remove_entry}
use Rattle.std.specs.Str.{bytes_eq}
use Rattle.lru.specs.LruCache.{LruCache}
use Rattle.lard_cache.specs.Recency.{entries_shown, total}
use Rattle.lard_cache.proofs.Entries.{put-shown, total-had}
use Rattle.lard_cache.proofs.cache.put_in_front.Goals as goal

pub overflow_sub-result : goal.overflow_sub-result
overflow_sub-result c =
    let had = total-had c.args.paths.now.entries c.in_ok-old.old c.in_ok-key.key c.args.path.now c.in_ok-old.ensures.old (c.in_ok-key.ensures.items ∙ c.as_slice.ensures) in
    omega (arith, had, c.from.ensures, c.unwrap_or.ensures, c.requires.bytes)

pub returns-clause-entries : goal.returns-clause-entries
returns-clause-entries c =
    ap (λ (x : LruCache (Vec ℕ Global) ℕ). entries_shown x.entries) c.in_ok-old.ensures.entries
    ∙ put-shown c.args.paths.now c.in_ok-key.key c.args.size c.args.path.now (c.in_ok-key.ensures.items ∙ c.as_slice.ensures) (omega (arith, c.requires.never_full, c.requires.count))

pub returns-clause-bytes : goal.returns-clause-bytes
returns-clause-bytes c =
    let had = total-had c.args.paths.now.entries c.in_ok-old.old c.in_ok-key.key c.args.path.now c.in_ok-old.ensures.old (c.in_ok-key.ensures.items ∙ c.as_slice.ensures) in
    let new : total (entries_shown c.put.new.self.entries) ≡ c.args.size + total (remove_entry (bytes_eq c.args.path.now) (entries_shown c.args.paths.now.entries)) = ap total (returns-clause-entries c) in
    omega (arith, had, new, c.from.ensures, c.from-2.ensures, c.unwrap_or.ensures, c.requires.bytes)
