-- While a stay goes on, what is kept of it is what it awaits.
use Rattle.std.proofs.Common.{◌≡◌, ◌≢◌, ◌⊎◌, ◌≤◌, ◌+◌, ◌==◌, ℕ, zero, suc, Bool, true, false, List, [], ◌∷◌, ◌++◌, length, slice_get, is_some, Option, Some, None, refl, sym, ap, ◌∙◌, subst, arith, eq-eqb, inl}
use Rattle.std.proofs.lemmas.Bool.{both_ways}
use Rattle.lard_law_view.specs.Prelude.{Asked, Entry, FilesAt, Kept, NodeEnv, Progress, Service, Verdict, Via, Want, Work, and_path, anew, answered, ask_kept, asked_kept, asks_for, batch_of, bytes_used, entered, fetch_of, goes_on, left_by, named_path, named_paths, path_in, reads_batch, serves_with, started_there, state_of, tagged, wants_kept, without}
use Rattle.lard_base.specs.declared.place.TimerKind.TheVariants as kind
use Rattle.lard_base.specs.declared.place.Via.TheVariants as via
use Rattle.lard_law_connections.proofs.AwaitsBatches.{wants-push}
use Rattle.lard_law_connections.specs.Kept.{AsksFor, IsFetchFromOther, contents_awaited, awaits_content}
use Rattle.lard_law_connections.proofs.KeptBatches.{AreFetches, anew-fetches, awaited-push, named-awaits, named-file, named-push}
use Rattle.lard_resend.proofs.Lengths.{anew-more}
use Rattle.lard_history.proofs.Each.{Each}
use Rattle.lard_rules.specs.declared.stay.Progress.TheVariants as progress
use Rattle.lard_resend.proofs.Held.{put_some}
use Rattle.lard_rules.proofs.StayWalking.{KeptByNodes, KeptByReads, StepIn, goes-in, state-in, tagged-all, these-in}

-- ---- a turn

-- An Ask was made since there were so many and these paths had no node, or none was made, and none or the same have no node.
abbrev pub Follows : ℕ → List (List ℕ) → Option Asked → ℕ → List (List ℕ) → Type 0
Follows asks0 named0 None asks named = (asks ≡ asks0) × ((named ≡ []) ⊎ (named ≡ named0))
Follows asks0 named0 (Some a) asks named = asks ≡ asks0 + 1

module _ (N : ℕ → Type 0) (env : NodeEnv) (kept0 fetches0 : List Kept) (asks0 : ℕ) (named0 : List (List ℕ)) where
  abbrev files : FilesAt
  files = env.serve.files

  abbrev AreKept : List Kept → Type 0
  AreKept ks = AreFetches N env.serve.files env.serve.c env.epoch env.n ks

  -- what is kept at the end of the turn
  abbrev kept_then : Work → List Kept
  kept_then k = asked_kept env k.asked kept0

  abbrev fetches_then : Work → List Kept
  fetches_then k = wants_kept env k.wants fetches0

  abbrev pub Names : ℕ → List Entry → List Kept → Type 0
  Names asks es ks = AsksFor env.serve.c env.epoch asks (named_paths env.serve.files es) ks

  abbrev pub Awaits : Work → Type 0
  Awaits k = Names k.asks k.batch (kept_then k) × AreKept (fetches_then k) × Follows asks0 named0 k.asked k.asks (named_paths env.serve.files k.batch) × (length (fetches_then k) ≤ contents_awaited k.batch)

  -- ---- an Ask is made where none is awaited

  none-kept : (o : Option Asked) → asked_kept env o kept0 ≡ [] → kept0 ≡ []
  none-kept None none = none
  none-kept (Some a) none = absurd (put_some (ask_kept env.serve.c env.epoch a) (without kind.Ask 0 kept0) none)

  none-asked : (o : Option Asked) → asked_kept env o kept0 ≡ [] → o ≡ None
  none-asked None none = refl
  none-asked (Some a) none = absurd (put_some (ask_kept env.serve.c env.epoch a) (without kind.Ask 0 kept0) none)

  -- nothing is awaited, and no Ask was made
  abbrev IsIdle : Work → Type 0
  IsIdle w = (w.asked ≡ None) × (w.asks ≡ asks0) × (kept0 ≡ []) × AreKept (fetches_then w) × (length (fetches_then w) ≤ 0)

  -- where no request is left, nothing is kept
  none-then : (w : Work) → w.batch ≡ [] → Awaits w → IsIdle w
  none-then w none h =
      let empty : kept_then w ≡ [] = subst (λ (es : List Entry). Names w.asks es (kept_then w)) none h.0 in
      let idle : w.asked ≡ None = none-asked w.asked empty in
      let follows : Follows asks0 named0 None w.asks (named_paths files w.batch) = subst (λ (o : Option Asked). Follows asks0 named0 o w.asks (named_paths files w.batch)) idle h.2 in
      (idle, follows.0, none-kept w.asked empty, h.1, subst (λ (es : List Entry). length (fetches_then w) ≤ contents_awaited es) none h.3)

  plain-awaits : (w : Work) → named_paths files w.batch ≡ [] → IsIdle w → Awaits w
  plain-awaits w are h = (
    subst (λ (ps : List (List ℕ)). AsksFor env.serve.c env.epoch w.asks ps (kept_then w)) (sym are) (ap (λ (o : Option Asked). asked_kept env o kept0) h.0 ∙ h.2),
    h.3,
    subst (λ (o : Option Asked). Follows asks0 named0 o w.asks (named_paths files w.batch)) (sym h.0) (h.1, inl are),
    (let few = h.4 in omega (arith, few)),
  )

  asks-await : (size : ℕ) (path : List ℕ) (paths : List (List ℕ)) (w : Work) → named_paths files w.batch ≡ path ∷ paths → IsIdle w → Awaits (asks_for env size (path ∷ paths) w)
  asks-await size path paths w are h =
      let queue : ℕ = env.queue + length w.jobs in
      let a : Asked = record { number = w.asks + 1; queue = queue; size = size; paths = path ∷ paths } in (
        subst (λ (ps : List (List ℕ)). AsksFor env.serve.c env.epoch (w.asks + 1) ps (asked_kept env (Some a) kept0)) (sym are)
            (queue, size, ap (λ (ks : List Kept). anew (ask_kept env.serve.c env.epoch a) ks) h.2, omega arith),
        h.3,
        ap (λ (n : ℕ). n + 1) h.1,
        (let few = h.4 in omega (arith, few)),
      )

  by_reads : (size : ℕ) → KeptByReads env size (λ here vs. IsIdle) Awaits
  by_reads size = record {
    hits = λ r path v vs w good is t h. h;
    queues = λ r path v vs w good is f h. h;
    enters = λ here v vs w only h. h;
    plain = λ here w are h. plain-awaits w are h;
    asks = λ here path paths w are h. asks-await size path paths w are h;
  }

  batch-awaits : (here : Bool) (w : Work) → w.batch ≡ [] → Awaits w → StepIn Awaits Awaits (reads_batch env here w)
  batch-awaits here w none h =
      let used : ℕ = bytes_used 8 w.service.block.recv.unread in
      let vs : List Verdict = batch_of 8 w.service.block.recv.unread in
      these-in env (λ here vs. IsIdle) Awaits Awaits here used w vs (by_reads (length vs)) none (λ e. h) (λ v us e. none-then w none h)

  pub batch-state : (here : Bool) (w : Work) → w.batch ≡ [] → Awaits w → Awaits (state_of (reads_batch env here w))
  batch-state here w none h = state-in Awaits (reads_batch env here w) (batch-awaits here w none h)

  -- ---- turn by turn

  -- a request that is served had its node
  served-same : (w : Work) (e : Entry) (rest : List Entry) (way : Via) (over : Option ℕ) → w.batch ≡ e ∷ rest → e.progress ≡ progress.Ready way → named_paths files w.batch ≡ named_paths files (left_by over e rest)
  served-same w e rest way None is at = ap (named_paths files) is ∙ ap (λ (p : Progress). and_path (path_in files e p) (named_paths files rest)) at
  served-same w e rest way (Some total) is at = ap (named_paths files) is

  served-awaited : (w : Work) (e : Entry) (rest : List Entry) (way : Via) (over : Option ℕ) → w.batch ≡ e ∷ rest → e.progress ≡ progress.Ready way → contents_awaited w.batch ≡ contents_awaited (left_by over e rest)
  served-awaited w e rest way None is at =
      let all = ap contents_awaited is in
      let none : awaits_content e.progress ≡ 0 = ap awaits_content at in
      omega (arith, all, none)
  served-awaited w e rest way (Some total) is at = ap contents_awaited is

  serves-await : (way : Via) (e : Entry) (rest : List Entry) (w : Work) → w.batch ≡ e ∷ rest → e.progress ≡ progress.Ready way → Awaits w → Awaits (serves_with (answered env.serve way e.verdict w.service) e rest w)
  serves-await way e rest w is at h =
      let s : Service = answered env.serve way e.verdict w.service in
      let same : named_paths files w.batch ≡ named_paths files (left_by s.over e rest) = served-same w e rest way s.over is at in (
        subst (λ (ps : List (List ℕ)). AsksFor env.serve.c env.epoch w.asks ps (kept_then w)) same h.0,
        h.1,
        subst (λ (ps : List (List ℕ)). Follows asks0 named0 w.asked w.asks ps) same h.2,
        subst (λ (n : ℕ). length (fetches_then w) ≤ n) (served-awaited w e rest way s.over is at) h.3,
      )

  pub goes-await : (w : Work) → Awaits w → Awaits (goes_on env w)
  goes-await w h = goes-in env Awaits Awaits (record {
    reads = λ k none may a. batch-awaits false k none a;
    serves = λ way e rest k may first is a. serves-await way e rest k first is a;
    stops = λ k may a. a;
    holds = λ k leaves none may a. a;
  }) w h

  -- ---- a Tag comes: no request is without a node any more

  -- no Ask was made, and behind those that were started so many contents are awaited
  abbrev pub Starts : ℕ → Work → Type 0
  Starts m k = (named_paths files k.batch ≡ []) × AreKept (fetches_then k) × (k.asks ≡ asks0) × (k.asked ≡ None) × (length (fetches_then k) ≤ contents_awaited k.batch + m)

  push-starts : (m : ℕ) (x : Entry) (k : Work) → Starts (awaits_content x.progress + m) k → named_path files x ≡ None → Starts m (entered x k)
  push-starts m x k h none = (named-push files k.batch x h.0 none, h.1, h.2, h.3, let all = awaited-push k.batch x in let few = h.4 in omega (arith, all, few))

  -- one that is named awaits no content
  named-starts : (e : Entry) (es : List Entry) (path : List ℕ) (k : Work) → named_path files e ≡ Some path → Starts (contents_awaited (e ∷ es)) k → Starts (0 + contents_awaited es) k
  named-starts e es path k is h = let none : awaits_content e.progress ≡ 0 = named-awaits files e e.progress path is in (h.0, h.1, h.2, h.3, let few = h.4 in omega (arith, few, none))

  there-starts : (m node r : ℕ) (path : List ℕ) (v : Verdict) (k : Work) → Starts (0 + m) k → is_some (files path) ≡ true → node ≢ env.n → N node → Starts m (started_there node r path v k)
  there-starts m node r path v k h file other there =
      let want : Want = record { r = r; node = node; path = path } in
      let mine : IsFetchFromOther N env.serve.files env.serve.c env.epoch env.n (fetch_of env want) = record { r = r; node = node; path = path; is = refl; file = file; other = other; there = there } in
      let x : Entry = record { verdict = v; progress = progress.Awaited node } in
      let now : wants_kept env (k.wants ++ want ∷ []) fetches0 ≡ anew (fetch_of env want) (fetches_then k) = wants-push env k.wants want fetches0 in (
        named-push files k.batch x h.0 refl,
        subst AreKept (sym now) (anew-fetches N env.serve.files env.serve.c env.epoch env.n (fetch_of env want) (fetches_then k) mine h.1),
        h.2,
        h.3,
        let one = ap (λ (ks : List Kept). length ks) now in let more = anew-more (fetch_of env want) (fetches_then k) in let all = awaited-push k.batch x in let few = h.4 in omega (arith, one, more, all, few),
      )

  module _ (nodes : List ℕ) (all : Each N nodes) where
    each-at : (ns : List ℕ) (i node : ℕ) → slice_get ns i ≡ Some node → Each N ns → N node
    each-at [] i node e h = let no : None ≡ Some node = e in absurd cc
    each-at (m ∷ ns) zero node e h = let found : Some m ≡ Some node = e in let same : m ≡ node = cc in subst N same h.0
    each-at (m ∷ ns) (suc i) node e h = each-at ns i node e h.1

    by_nodes : KeptByNodes env nodes (λ es. Starts (contents_awaited es))
    by_nodes = record {
      stays = λ r e es k is none h. push-starts (contents_awaited es) e k h none;
      hits = λ path e es k is t h. push-starts (contents_awaited es) (record { verdict = e.verdict; progress = progress.Ready via.Cache }) k (named-starts e es path k is h) refl;
      queues = λ r path e es k n is f h. push-starts (contents_awaited es) (record { verdict = e.verdict; progress = progress.Reading }) k (named-starts e es path k is h) refl;
      wants = λ at node r path e es k n is got other h. there-starts (contents_awaited es) node r path e.verdict k (named-starts e es path k is h) (named-file files e e.progress path is)
          (λ same. both_ways (node == env.n) other (eq-eqb node env.n same)) (each-at nodes at node got all);
    }

    pub starts-all : (k : Work) → length nodes ≡ length (named_paths files k.batch) → Starts (contents_awaited k.batch) (record k { batch = [] }) → Starts 0 (tagged env nodes k)
    starts-all k count h = tagged-all env nodes (λ es. Starts (contents_awaited es)) by_nodes k (sym count) h

  -- and no Ask is kept
  pub started-await : (k : Work) → kept0 ≡ [] → Starts 0 k → Awaits k
  started-await k none h = (
    subst (λ (ps : List (List ℕ)). AsksFor env.serve.c env.epoch k.asks ps (kept_then k)) (sym h.0) (ap (λ (o : Option Asked). asked_kept env o kept0) h.3 ∙ none),
    h.1,
    subst (λ (o : Option Asked). Follows asks0 named0 o k.asks (named_paths files k.batch)) (sym h.3) (h.2, inl h.0),
    (let few = h.4 in omega (arith, few)),
  )
