-- What is kept for a batch, where one more is kept, one is dropped, or a request comes.
use Rattle.std.proofs.Common.{◌≡◌, ◌≤◌, ◌<◌, ◌+◌, ◌==◌, ℕ, zero, suc, Bool, true, false, List, [], ◌∷◌, ◌++◌, length, Option, Some, None, refl, sym, ap, ◌∙◌, subst, arith, eqb-true}
use Rattle.std.proofs.lemmas.Bool.{and_parts, cond-true}
use Rattle.std.specs.List.{find}
use Rattle.lard_law_view.specs.Prelude.{Entry, FilesAt, Front, Kept, NodeEnv, Place, Progress, TimerKind, Verdict, Want, and_path, anew, come_on, come_progress, fetch_of, good_path, is_from, is_node, is_under, named_path, named_paths, names_epoch, path_in, read_progress, wants_kept, without}
use Rattle.lard_base.specs.declared.place.TimerKind.TheVariants as kind
use Rattle.lard_base.specs.declared.place.Via.TheVariants as via
use Rattle.lard_law_connections.specs.Awaits.{AskKept, BatchComes, IsToCome, FetchKept}
use Rattle.lard_history.proofs.Each.{Each}
use Rattle.lard_rules.specs.declared.stay.Progress.TheVariants as progress
use Rattle.lard_resend.proofs.Ordered.{drops, holds, leaves}

-- ---- what is kept

pub anew-found : (k : Kept) (ks : List Kept) → find (is_under k.kind k.r) (anew k ks) ≡ Some k
anew-found k ks = holds k (without k.kind k.r ks) (drops k.kind k.r ks)

anew-other : (a : TimerKind) (r : ℕ) (k : Kept) (ks : List Kept) → is_under a r k ≡ false → find (is_under a r) (anew k ks) ≡ find (is_under a r) ks
anew-other a r k ks n = (leaves a r k (without k.kind k.r ks) n).0 ∙ (leaves a r k ks n).1

-- other numbers differ
differs : (a b : ℕ) → (a ≡ b → ⊥) → (a == b) ≡ false
differs a b not = go (a == b) refl where
  go : (t : Bool) → (a == b) ≡ t → t ≡ false
  go true e = absurd (not (eqb-true a b e))
  go false e = refl

-- a Fetch of another request is kept as before
pub fetch-on : (env : NodeEnv) (w : Want) (i node : ℕ) (ks : List Kept) → (w.r ≡ i → ⊥) → FetchKept i node ks → FetchKept i node (anew (fetch_of env w) ks)
fetch-on env w i node ks not h = (h.0, anew-other kind.Fetch i (fetch_of env w) ks (differs w.r i not) ∙ h.1, h.2)

pub fetch-left : (r i node : ℕ) (ks : List Kept) → (r ≡ i → ⊥) → FetchKept i node ks → FetchKept i node (without kind.Fetch r ks)
fetch-left r i node ks not h =
    let k : Kept = record { kind = kind.Fetch; r = r; to = Front; bytes = [] } in
    (h.0, (leaves kind.Fetch i k ks (differs r i not)).1 ∙ h.1, h.2)

pub wants-on : (env : NodeEnv) (ws : List Want) (i node : ℕ) (ks : List Kept) → Each (λ w. w.r < i) ws → FetchKept i node ks → FetchKept i node (wants_kept env ws ks)
wants-on env [] i node ks below h = h
wants-on env (w ∷ ws) i node ks below h = wants-on env ws i node (anew (fetch_of env w) ks) below.1 (fetch-on env w i node ks (λ same. let b = below.0 in omega arith) h)

pub wants-push : (env : NodeEnv) (ws : List Want) (w : Want) (ks : List Kept) → wants_kept env (ws ++ w ∷ []) ks ≡ anew (fetch_of env w) (wants_kept env ws ks)
wants-push env [] w ks = refl
wants-push env (x ∷ ws) w ks = wants-push env ws w (anew (fetch_of env x) ks)

-- ---- a batch

module _ (files : FilesAt) where
  -- what is kept for these requests is kept still
  pub batch-on : (kept fetches more found : List Kept) (r : ℕ) (es : List Entry) → (AskKept kept → AskKept more)
      → ((i node : ℕ) → r ≤ i → i < r + length es → FetchKept i node fetches → FetchKept i node found) → BatchComes files kept fetches r es → BatchComes files more found r es
  batch-on kept fetches more found r [] ask fetch h = tt
  batch-on kept fetches more found r (e ∷ es) ask fetch h = (
    one e.progress h.0,
    batch-on kept fetches more found (r + 1) es ask (λ i node low high f. fetch i node (omega (arith, low)) (omega (arith, high)) f) h.1,
  ) where
    one : (p : Progress) → IsToCome files kept fetches r e.verdict p → IsToCome files more found r e.verdict p
    one progress.Named k = (ask k.0, k.1)
    one (progress.Awaited node) k = fetch r node (omega arith) (omega arith) k
    one progress.Reading k = tt
    one (progress.Ready way) k = tt

  -- one more request
  pub batch-push : (kept fetches : List Kept) (r i : ℕ) (es : List Entry) (e : Entry) → i ≡ r + length es → BatchComes files kept fetches r es → IsToCome files kept fetches i e.verdict e.progress → BatchComes files kept fetches r (es ++ e ∷ [])
  batch-push kept fetches r i [] e at h k = (subst (λ (n : ℕ). IsToCome files kept fetches n e.verdict e.progress) (omega (arith, at)) k, tt)
  batch-push kept fetches r i (x ∷ es) e at h k = (h.0, batch-push kept fetches (r + 1) i es e (omega (arith, at)) h.1 k)

  -- a completed job
  pub batch-read : (kept fetches : List Kept) (r i : ℕ) (es : List Entry) → BatchComes files kept fetches r es → BatchComes files kept fetches r (come_on read_progress i es)
  batch-read kept fetches r i [] h = tt
  batch-read kept fetches r zero (e ∷ es) h = (one e.progress h.0, h.1) where
    one : (p : Progress) → IsToCome files kept fetches r e.verdict p → IsToCome files kept fetches r e.verdict (read_progress p)
    one progress.Named k = k
    one (progress.Awaited node) k = k
    one progress.Reading k = tt
    one (progress.Ready way) k = tt
  batch-read kept fetches r (suc i) (e ∷ es) h = (h.0, batch-read kept fetches (r + 1) i es h.1)

  -- a content that came from where it was asked for
  module _ (kept fetches : List Kept) (from epoch at : ℕ) (came : is_from from epoch (find (is_under kind.Fetch at) fetches) ≡ true) where
    it-is : (node : ℕ) → FetchKept at node fetches → (node == from) ≡ true
    it-is node h = subst (λ (p : Place). is_node p from ≡ true) h.2 (and_parts (is_node h.0.to from) (names_epoch h.0.bytes epoch) (sym (ap (is_from from epoch) h.1) ∙ came)).0

    here-comes : (v : Verdict) (p : Progress) → IsToCome files kept fetches at v p → IsToCome files kept (without kind.Fetch at fetches) at v (come_progress from p)
    here-comes v progress.Named k = k
    here-comes v (progress.Awaited node) k = subst (λ (p : Progress). IsToCome files kept (without kind.Fetch at fetches) at v p) (sym (cond-true (node == from) (progress.Ready (via.Node from)) (progress.Awaited node) (it-is node k))) tt
    here-comes v progress.Reading k = tt
    here-comes v (progress.Ready way) k = tt

    other-comes : (r : ℕ) (v : Verdict) (p : Progress) → (at ≡ r → ⊥) → IsToCome files kept fetches r v p → IsToCome files kept (without kind.Fetch at fetches) r v p
    other-comes r v progress.Named not k = k
    other-comes r v (progress.Awaited node) not k = fetch-left at r node fetches not k
    other-comes r v progress.Reading not k = tt
    other-comes r v (progress.Ready way) not k = tt

    -- those behind it
    pub batch-later : (r : ℕ) (es : List Entry) → at < r → BatchComes files kept fetches r es → BatchComes files kept (without kind.Fetch at fetches) r es
    batch-later r es less h = batch-on kept fetches kept (without kind.Fetch at fetches) r es (λ a. a) (λ i node low high f. fetch-left at i node fetches (λ same. omega (arith, low, same, less)) f) h

    pub batch-came : (r i : ℕ) (es : List Entry) → r + i ≡ at → BatchComes files kept fetches r es → BatchComes files kept (without kind.Fetch at fetches) r (come_on (come_progress from) i es)
    batch-came r i [] is h = tt
    batch-came r zero (e ∷ es) is h =
        let same : at ≡ r = omega (arith, is) in (
          subst (λ (n : ℕ). IsToCome files kept (without kind.Fetch at fetches) n e.verdict (come_progress from e.progress)) same
              (here-comes e.verdict e.progress (subst (λ (n : ℕ). IsToCome files kept fetches n e.verdict e.progress) (sym same) h.0)),
          batch-later (r + 1) es (omega (arith, same)) h.1,
        )
    batch-came r (suc i) (e ∷ es) is h = (other-comes r e.verdict e.progress (λ same. omega (arith, same, is)) h.0, batch-came (r + 1) i es (omega (arith, is)) h.1)

  -- ---- a batch as it is read

  -- a request for a file has no node yet, or its content is read here; any other is ready
  abbrev pub IsEarly : Verdict → Progress → Type 0
  IsEarly v progress.Named = good_path files v ≡ None → ⊥
  IsEarly v (progress.Awaited node) = ⊥
  IsEarly v progress.Reading = Unit {0}
  IsEarly v (progress.Ready way) = Unit {0}

  abbrev pub AreEarly : List Entry → Type 0
  AreEarly es = Each (λ e. IsEarly e.verdict e.progress) es

  pub early-asked : (kept fetches : List Kept) (r : ℕ) (es : List Entry) → AskKept kept → AreEarly es → BatchComes files kept fetches r es
  early-asked kept fetches r [] ask h = tt
  early-asked kept fetches r (e ∷ es) ask h = (one e.progress h.0, early-asked kept fetches (r + 1) es ask h.1) where
    one : (p : Progress) → IsEarly e.verdict p → IsToCome files kept fetches r e.verdict p
    one progress.Named k = (ask, k)
    one (progress.Awaited node) k = absurd k
    one progress.Reading k = tt
    one (progress.Ready way) k = tt

  -- a request without a node is one of those that an Ask names
  some-named : (e : Entry) (es : List Entry) → e.progress ≡ progress.Named → (good_path files e.verdict ≡ None → ⊥) → named_paths files (e ∷ es) ≡ [] → ⊥
  some-named e es at good none = go (good_path files e.verdict) refl where
    go : (o : Option (List ℕ)) → good_path files e.verdict ≡ o → ⊥
    go None is = good is
    go (Some path) is =
        let named : named_path files e ≡ Some path = ap (path_in files e) at ∙ is in
        let all : path ∷ named_paths files es ≡ [] = sym (ap (λ (o : Option (List ℕ)). elim o [ None ↦ named_paths files es | Some q ↦ q ∷ named_paths files es ]) named) ∙ and-is (named_path files e) ∙ none in
        absurd cc where
          and-is : (o : Option (List ℕ)) → (elim o as (λ x. List (List ℕ)) [ None ↦ named_paths files es | Some q ↦ q ∷ named_paths files es ]) ≡ and_path o (named_paths files es)
          and-is None = refl
          and-is (Some q) = refl

  none-behind : (o : Option (List ℕ)) (paths : List (List ℕ)) → and_path o paths ≡ [] → paths ≡ []
  none-behind None paths e = e
  none-behind (Some path) paths e = let no : path ∷ paths ≡ [] = e in absurd cc

  pub early-none : (kept fetches : List Kept) (r : ℕ) (es : List Entry) → named_paths files es ≡ [] → AreEarly es → BatchComes files kept fetches r es
  early-none kept fetches r [] none h = tt
  early-none kept fetches r (e ∷ es) none h = (one e.progress refl h.0, early-none kept fetches (r + 1) es (none-behind (named_path files e) (named_paths files es) none) h.1) where
    one : (p : Progress) → e.progress ≡ p → IsEarly e.verdict p → IsToCome files kept fetches r e.verdict p
    one progress.Named at k = absurd (some-named e es at k none)
    one (progress.Awaited node) at k = absurd k
    one progress.Reading at k = tt
    one (progress.Ready way) at k = tt
