-- What stays of the pairs with the path in front is within the bounds.
use Rattle.std.proofs.Common.{◌≡◌, ℕ, ◌∙◌, sym, ap, subst, List, nat_lt, arith}
use Rattle.std.proofs.lemmas.Bool.{cond-false, le-ltb}
use Rattle.lard_cache.specs.declared.cache.TheConstants.{MAX_CACHED_PATHS}
use Rattle.lard_cache.specs.Recency.{Recency, entries_shown, in_front, front_within, after_put}
use Rattle.lard_cache.specs.Laws.{IsWithinCapacity}
use Rattle.lard_cache.proofs.Entries.{length-shown}
use Rattle.lard_cache.proofs.Fronts.{longest}
use Rattle.lard_cache.proofs.cache.Cache.put.Goals as goal

-- what stays
stays : (c : goal.After-self-1) → entries_shown c.evict-self-inside.new.paths.entries ≡ front_within MAX_CACHED_PATHS c.self.inside.limit (in_front (entries_shown c.self.inside.paths.entries) c.args.path.now c.args.size)
stays c = c.evict-self-inside.ensures.entries ∙ ap (front_within MAX_CACHED_PATHS c.self.inside.limit) c.in_ok-bytes.ensures.entries

pub invariant_of-self-2 : goal.invariant_of-self-2
invariant_of-self-2 c =
    let w : IsWithinCapacity MAX_CACHED_PATHS c.self.inside.limit (entries_shown c.evict-self-inside.new.paths.entries) =
    subst (IsWithinCapacity MAX_CACHED_PATHS c.self.inside.limit) (sym (stays c)) (longest MAX_CACHED_PATHS c.self.inside.limit (in_front (entries_shown c.self.inside.paths.entries) c.args.path.now c.args.size)).within in (
      c.evict-self-inside.ensures.capacity ∙ c.in_ok-bytes.ensures.capacity ∙ c.self.invariant.0,
      c.evict-self-inside.ensures.bytes,
      omega (arith, c.evict-self-inside.ensures.bytes, w.1),
      omega (arith, length-shown c.evict-self-inside.new.paths.entries, w.0),
    )

pub returns-clause-ok : goal.returns-clause-ok
returns-clause-ok c =
    let old : Recency = record { entries = entries_shown c.self.inside.paths.entries; limit = c.self.inside.limit } in
    ap (λ (es : List (List ℕ × ℕ)). record { entries = es; limit = c.self.inside.limit }) (stays c)
    ∙ sym (cond-false (nat_lt c.self.inside.limit c.args.size) old _ (le-ltb c.self.inside.limit c.args.size (omega (arith, c.if-size-self.false))))
    ∙ ap (λ (r : Recency). after_put r c.args.path.now c.args.size) c.self.view_is
