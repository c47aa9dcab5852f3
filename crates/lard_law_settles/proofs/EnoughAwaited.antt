-- Each Fetch that is kept is for a request of the batch that is in hand.
use Rattle.std.proofs.Common.{◌≡◌, ◌==◌, ◌+◌, ◌<◌, ◌≤◌, ℕ, Bool, true, false, cond, not, List, [], ◌∷◌, length, is_some, refl, ap, subst, arith, eqb-true}
use Rattle.std.proofs.lemmas.Bool.{and_parts}
use Rattle.std.specs.List.{AllByRecursion}
use Rattle.lard_law_view.specs.Prelude.{Entry, FilesAt, Kept, Progress, is_under, kind_rank, without}
use Rattle.lard_base.specs.declared.place.TimerKind.TheVariants as kind
use Rattle.lard_law_connections.specs.Awaits.{BatchComes, IsToCome}
use Rattle.lard_law_connections.proofs.AwaitsBatches.{batch-on, fetch-left}
use Rattle.lard_law_connections.specs.Kept.{contents_awaited, awaits_content}
use Rattle.lard_rules.specs.declared.stay.Progress.TheVariants as progress
use Rattle.lard_law_progress.proofs.Coming.{without-fewer}

-- its number is below this one
abbrev pub AreBelow : ℕ → List Kept → Type 0
AreBelow top ks = AllByRecursion (λ (k : Kept). k.r < top) ks

-- what is left where a request's is dropped, and those of that request
below-all : (top r : ℕ) → r < top → (ks : List Kept) → AreBelow top (without kind.Fetch r ks) → AreBelow top ks
below-all top r low [] h = tt
below-all top r low (k ∷ ks) h = go (is_under kind.Fetch r k) refl (λ f. below-all top r low ks f) h where
  go : (t : Bool) → is_under kind.Fetch r k ≡ t → (AreBelow top (without kind.Fetch r ks) → AreBelow top ks) → AreBelow top (cond (not t) (k ∷ without kind.Fetch r ks) (without kind.Fetch r ks)) → AreBelow top (k ∷ ks)
  go true is later f =
      let same : k.r ≡ r = eqb-true k.r r (and_parts (kind_rank k.kind == kind_rank kind.Fetch) (k.r == r) is).1 in
      (omega (arith, same, low), later f)
  go false is later f = (f.0, later f.1)

module _ (files : FilesAt) where
  -- where each request that awaits a content has its Fetch, and there are no more of them
  pub all-awaited : (kept fetches : List Kept) (r : ℕ) (es : List Entry) → BatchComes files kept fetches r es → length fetches ≤ contents_awaited es → AreBelow (r + length es) fetches
  all-awaited kept [] r [] h few = tt
  all-awaited kept (k ∷ ks) r [] h few = absurd (omega (arith, few))
  all-awaited kept fetches r (e ∷ es) h few = subst (λ (top : ℕ). AreBelow top fetches) (omega arith) (by e.progress h.0 few (λ fs b l. all-awaited kept fs (r + 1) es b l)) where
    by : (p : Progress) → IsToCome files kept fetches r e.verdict p → length fetches ≤ awaits_content p + contents_awaited es
        → ((fs : List Kept) → BatchComes files kept fs (r + 1) es → length fs ≤ contents_awaited es → AreBelow (r + 1 + length es) fs) → AreBelow (r + 1 + length es) fetches
    by progress.Named c l later = later fetches h.1 (omega (arith, l))
    by progress.Reading c l later = later fetches h.1 (omega (arith, l))
    by (progress.Ready way) c l later = later fetches h.1 (omega (arith, l))
    by (progress.Awaited node) c l later =
        let less = without-fewer kind.Fetch r fetches (ap is_some c.1) in
        let left : BatchComes files kept (without kind.Fetch r fetches) (r + 1) es =
        batch-on files kept fetches kept (without kind.Fetch r fetches) (r + 1) es (λ a. a) (λ i to low high f. fetch-left r i to fetches (λ same. omega (arith, low, same)) f) h.1 in
        below-all (r + 1 + length es) r (omega arith) fetches (later (without kind.Fetch r fetches) left (omega (arith, less, l)))
