-- A hit among the entries is one among the pairs, which keeps both bounds.
use Rattle.std.proofs.Common.{◌≡◌, ℕ, ◌∙◌, sym, ap, is_some, length, List, Vec, Global, arith}
use Rattle.lru.specs.LruCache.{LruCache}
use Rattle.lard_cache.specs.Recency.{Recency, entries_shown, has_path, total, after_hit}
use Rattle.lard_cache.proofs.Entries.{size-shown, length-shown, promoted-shown}
use Rattle.lard_cache.proofs.Fronts.{IsMoved, hit-moves}
use Rattle.lard_cache.proofs.cache.Cache.hit.Goals as goal

pub returns-clause-value : goal.returns-clause-value
returns-clause-value c = c.promote.ensures.value ∙ ap is_some (size-shown c.self.inside.paths.entries c.args.path.now) ∙ ap (λ (r : Recency). has_path r.entries c.args.path.now) c.self.view_is

seen : (c : goal.After-promote) → entries_shown c.promote.new.self.entries ≡ after_hit (entries_shown c.self.inside.paths.entries) c.args.path.now
seen c = ap (λ (x : LruCache (Vec ℕ Global) ℕ). entries_shown x.entries) c.promote.ensures.entries ∙ promoted-shown c.self.inside.paths.entries c.args.path.now

pub invariant_of-self : goal.invariant_of-self
invariant_of-self c =
    let moved : IsMoved (entries_shown c.self.inside.paths.entries) (after_hit (entries_shown c.self.inside.paths.entries) c.args.path.now) = hit-moves (entries_shown c.self.inside.paths.entries) c.args.path.now in
    let count : length (entries_shown c.promote.new.self.entries) ≡ length (entries_shown c.self.inside.paths.entries) = ap length (seen c) ∙ moved.count_stays in (
      ap (λ (x : LruCache (Vec ℕ Global) ℕ). x.cap) c.promote.ensures.entries ∙ c.self.invariant.0,
      c.self.invariant.1 ∙ sym moved.total_stays ∙ ap total (sym (seen c)),
      c.self.invariant.2,
      omega (arith, length-shown c.self.inside.paths.entries, length-shown c.promote.new.self.entries, count, c.self.invariant.3),
    )

pub returns-clause-after : goal.returns-clause-after
returns-clause-after c =
    ap (λ (es : List (List ℕ × ℕ)). record { entries = es; limit = c.self.inside.limit }) (seen c)
    ∙ ap (λ (r : Recency). record r { entries = after_hit r.entries c.args.path.now }) c.self.view_is
