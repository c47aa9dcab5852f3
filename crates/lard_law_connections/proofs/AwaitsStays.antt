-- While a stay goes on, what its batch awaits was asked for.
use Rattle.std.proofs.Common.{◌≡◌, ◌<◌, ◌+◌, ℕ, Bool, false, List, [], ◌∷◌, ◌++◌, length, Option, Some, None, refl, sym, ◌∙◌, subst, arith}
use Rattle.std.proofs.lemmas.List.{length_push}
use Rattle.lard_law_view.specs.Prelude.{Entry, FilesAt, Kept, NodeEnv, Progress, Service, Verdict, Via, Want, Work, anew, answered, ask_kept, asked_kept, asks_for, batch_of, bytes_used, ended_at_fin, entered, fetch_of, goes_on, good_path, named_path, named_paths, path_in, progress_of, read_entry, reads_batch, serves_with, serving_consumed, started_there, state_of, tagged, wants_kept}
use Rattle.lard_base.specs.declared.place.Via.TheVariants as via
use Rattle.lard_law_connections.specs.Awaits.{BatchComes, IsToCome, FetchKept}
use Rattle.lard_law_connections.proofs.AwaitsBatches.{AreEarly, IsEarly, anew-found, batch-on, batch-push, early-asked, early-none, fetch-on, wants-on, wants-push}
use Rattle.lard_history.proofs.Each.{Each, Each-append, Each-weaker}
use Rattle.lard_rules.specs.declared.stay.Progress.TheVariants as progress
use Rattle.lard_rules.proofs.StayWalking.{KeptByNodes, KeptByReads, StepIn, goes-in, next_number, state-in, tagged-all, these-in}
use Rattle.lard_rules.proofs.Endings.{answered-keeps}

module _ (env : NodeEnv) (kept0 fetches0 : List Kept) where
  abbrev files : FilesAt
  files = env.serve.files

  -- what is kept at the end of the turn
  abbrev kept_then : Work → List Kept
  kept_then k = asked_kept env k.asked kept0

  abbrev fetches_then : Work → List Kept
  fetches_then k = wants_kept env k.wants fetches0

  abbrev pub Comes : Work → Type 0
  Comes k = BatchComes files (kept_then k) (fetches_then k) (k.service.count + 1) k.batch

  -- ---- a batch is read

  abbrev Early : Bool → List Verdict → Work → Type 0
  Early here vs k = AreEarly files k.batch

  entered-early : (e : Entry) (k : Work) → AreEarly files k.batch → IsEarly files e.verdict e.progress → AreEarly files (entered e k).batch
  entered-early e k h early = Each-append (λ e. IsEarly files e.verdict e.progress) k.batch (e ∷ []) h (early, tt)

  read-early : (v : Verdict) → IsEarly files v (read_entry files v).progress
  read-early v = go (good_path files v) refl where
    go : (o : Option (List ℕ)) → good_path files v ≡ o → IsEarly files v (progress_of o)
    go None e = tt
    go (Some path) e = λ none. let no : Some path ≡ None = sym e ∙ none in absurd cc

  -- an Ask names those that have no node
  by_reads : (size : ℕ) → KeptByReads env size Early Comes
  by_reads size = record {
    hits = λ r path v vs k good is t h. entered-early (record { verdict = v; progress = progress.Ready via.Cache }) k h tt;
    queues = λ r path v vs k good is f h. entered-early (record { verdict = v; progress = progress.Reading }) k h tt;
    enters = λ here v vs k only h. entered-early (read_entry files v) k h (read-early v);
    plain = λ here k none h. early-none files (kept_then k) (fetches_then k) (k.service.count + 1) k.batch none h;
    asks = λ here path paths k e h.
        let w : Work = asks_for env size (path ∷ paths) k in
        early-asked files (kept_then w) (fetches_then w) (k.service.count + 1) k.batch (_, anew-found (ask_kept env.serve.c env.epoch (record { number = k.asks + 1; queue = env.queue + length k.jobs; size = size; paths = path ∷ paths })) kept0) h;
  }

  none-comes : (k : Work) → k.batch ≡ [] → Comes k
  none-comes k none = subst (λ (es : List Entry). BatchComes files (kept_then k) (fetches_then k) (k.service.count + 1) es) (sym none) tt

  batch-comes : (here : Bool) (k : Work) → k.batch ≡ [] → StepIn Comes Comes (reads_batch env here k)
  batch-comes here k none =
      let used : ℕ = bytes_used 8 k.service.block.recv.unread in
      let vs : List Verdict = batch_of 8 k.service.block.recv.unread in
      these-in env Early Comes Comes here used k vs (by_reads (length vs)) none (λ e. none-comes (record k { service = ended_at_fin (serving_consumed used k.service) }) none) (λ v us e. subst (AreEarly files) (sym none) tt)

  pub batch-state : (here : Bool) (k : Work) → k.batch ≡ [] → Comes (state_of (reads_batch env here k))
  batch-state here k none = state-in Comes (reads_batch env here k) (batch-comes here k none)

  -- ---- turn by turn

  served-comes : (way : Via) (e : Entry) (rest : List Entry) (k : Work) → BatchComes files (kept_then k) (fetches_then k) (k.service.count + 1) (e ∷ rest) → Comes (serves_with (answered env.serve way e.verdict k.service) e rest k)
  served-comes way e rest k h =
      answered-keeps (λ (s : Service). Comes (serves_with s e rest k)) env.serve way e.verdict k.service (λ t. h) (λ t. h.1)

  pub goes-comes : (k : Work) → Comes k → Comes (goes_on env k)
  goes-comes k h = goes-in env Comes Comes (record {
    reads = λ w none may h. batch-comes false w none;
    serves = λ way e rest w may first is h. served-comes way e rest w (subst (BatchComes files (kept_then w) (fetches_then w) (w.service.count + 1)) first h);
    stops = λ w may h. h;
    holds = λ w leaves none may h. h;
  }) k h

  -- ---- a Tag comes: no request is without a node any more

  -- what started and what is left, with the Fetches before it
  pub record Starts (es : List Entry) (k : Work) : Type 0 where
    pub comes : BatchComes files [] (fetches_then k) (k.service.count + 1) k.batch
    pub left : BatchComes files kept0 fetches0 (next_number k) es
    pub below : Each (λ (w : Want). w.r < next_number k) k.wants

  push-starts : (x e : Entry) (es : List Entry) (k : Work) → Starts (e ∷ es) k → IsToCome files [] (fetches_then k) (next_number k) x.verdict x.progress → Starts es (entered x k)
  push-starts x e es k h by = record {
    comes = batch-push files [] (fetches_then k) (k.service.count + 1) (next_number k) k.batch x refl h.comes by;
    left = subst (λ (n : ℕ). BatchComes files kept0 fetches0 n es) (omega (arith, length_push k.batch x)) h.left.1;
    below = Each-weaker (λ (w : Want). w.r < next_number k) (λ (w : Want). w.r < next_number (entered x k)) (λ w less. omega (arith, less, length_push k.batch x)) k.wants h.below;
  }

  -- one that is not named stays as it is
  stays-start : (e : Entry) (es : List Entry) (k : Work) → named_path files e ≡ None → Starts (e ∷ es) k → Starts es (entered e k)
  stays-start e es k none h = push-starts e e es k h (go e.progress none h.left.0) where
    go : (p : Progress) → path_in files e p ≡ None → IsToCome files kept0 fetches0 (next_number k) e.verdict p → IsToCome files [] (fetches_then k) (next_number k) e.verdict p
    go progress.Named none by = absurd (by.1 none)
    go (progress.Awaited node) none by = wants-on env k.wants (next_number k) node fetches0 h.below by
    go progress.Reading none by = tt
    go (progress.Ready way) none by = tt

  there-starts : (node r : ℕ) (path : List ℕ) (e : Entry) (es : List Entry) (k : Work) → r ≡ next_number k → Starts (e ∷ es) k → Starts es (started_there node r path e.verdict k)
  there-starts node r path e es k is h =
      let want : Want = record { r = r; node = node; path = path } in
      let w : Work = record k { wants = k.wants ++ want ∷ [] } in
      let x : Entry = record { verdict = e.verdict; progress = progress.Awaited node } in
      let now : fetches_then w ≡ anew_of want = wants-push env k.wants want fetches0 in
      let old : BatchComes files [] (fetches_then w) (k.service.count + 1) k.batch = batch-on files [] (fetches_then k) [] (fetches_then w) (k.service.count + 1) k.batch (λ a. a)
      (λ i node low high f. subst (FetchKept i node) (sym now) (fetch-on env want i node (fetches_then k) (λ same. omega (arith, same, high, is)) f)) h.comes in
      let mine : FetchKept r node (fetches_then w) = subst (FetchKept r node) (sym now) (fetch_of env want, anew-found (fetch_of env want) (fetches_then k), refl) in
      record {
        comes = batch-push files [] (fetches_then w) (k.service.count + 1) r k.batch x is old mine;
        left = subst (λ (n : ℕ). BatchComes files kept0 fetches0 n es) (omega (arith, length_push k.batch x)) h.left.1;
        below = Each-append (λ (y : Want). y.r < next_number (entered x w)) k.wants (want ∷ [])
            (Each-weaker (λ (y : Want). y.r < next_number k) (λ (y : Want). y.r < next_number (entered x w)) (λ y less. omega (arith, less, length_push k.batch x)) k.wants h.below) (omega (arith, is, length_push k.batch x), tt);
      } where
        anew_of : Want → List Kept
        anew_of x = anew (fetch_of env x) (fetches_then k)

  by_nodes : (nodes : List ℕ) → KeptByNodes env nodes Starts
  by_nodes nodes = record {
    stays = λ r e es k is none h. stays-start e es k none h;
    hits = λ path e es k named t h. let g = push-starts (record { verdict = e.verdict; progress = progress.Ready via.Cache }) e es k h tt in record { comes = g.comes; left = g.left; below = g.below };
    queues = λ r path e es k is named f h. let g = push-starts (record { verdict = e.verdict; progress = progress.Reading }) e es k h tt in record { comes = g.comes; left = g.left; below = g.below };
    wants = λ at node r path e es k is named there f h. there-starts node r path e es k is h;
  }

  -- whatever else is kept
  abbrev pub AllStarted : Work → Type 0
  AllStarted k = BatchComes files [] (fetches_then k) (k.service.count + 1) k.batch

  pub all-started : (k : Work) → AllStarted k → Comes k
  all-started k h = batch-on files [] (fetches_then k) (kept_then k) (fetches_then k) (k.service.count + 1) k.batch (λ a. absurd (let no : None ≡ Some a.0 = a.1 in cc)) (λ i node low high f. f) h

  pub starts-come : (nodes : List ℕ) (k : Work) → k.wants ≡ [] → length nodes ≡ length (named_paths files k.batch) → BatchComes files kept0 fetches0 (k.service.count + 1) k.batch → AllStarted (tagged env nodes k)
  starts-come nodes k none count batch = (tagged-all env nodes Starts (by_nodes nodes) k (sym count) (record {
    comes = tt;
    left = subst (λ (n : ℕ). BatchComes files kept0 fetches0 n k.batch) (omega arith) batch;
    below = subst (Each (λ (w : Want). w.r < next_number (record k { batch = [] }))) (sym none) tt;
  })).comes
