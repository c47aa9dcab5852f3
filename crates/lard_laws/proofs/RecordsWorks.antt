-- What a node has in hand of a connection, turn by turn: what it notes is in range, and so are the jobs and the contents that it
-- wants; a batch has at most eight requests.
use Rattle.std.proofs.Common.{◌≡◌, ◌∙◌, ℕ, zero, suc, ◌+◌, ◌-◌, ◌≤◌, ◌<◌, ◌^◌, ◌==◌, nat_lt, List, [], ◌∷◌, ◌++◌, length, take, Bool, false, Option, Some, None, IfSome, refl, sym, ap, subst, arith, length-append}
use Rattle.std.proofs.lemmas.Bool.{cond_both}
use Rattle.std.proofs.lemmas.List.{length-take, length_push}
use Rattle.std.specs.Prelude.{slice_get}
use Rattle.lard_law_view.specs.Prelude.{Asked, Entry, IsNumber, IsPlaceInRange, IsRecordInRange, IsViaInRange, Job, Node, NodeEnv, Progress, Rec, Service, Verdict, Want, Work, and_path, answered, asks_for, batch_of, bytes_used, came_for, come_on, come_progress, entered, finishing, goes_on, good_path, hit_here, left_by, named_path, named_paths, noted, own_job, path_in, progress_of, queued_here, read_entry, read_progress, reads_batch, serving_consumed, started_there, state_of, tagged, verdicts}
use Rattle.lard_base.specs.declared.place.Via.TheVariants as via
use Rattle.lard_rules.specs.Bounds as cluster
use Rattle.lard_laws.proofs.RecordsCounted.{IsCounted, come-length, entered-counts, queued-counts, served-counts}
use Rattle.lard_laws.proofs.RecordsFronts.{may-open}
use Rattle.lard_laws.proofs.RecordsLetters.{conn-number}
use Rattle.lard_laws.proofs.RecordsNamed.{AreNamed, IsNamed, contents, verdict-named}
use Rattle.lard_laws.proofs.RecordsServing.{Serves, answered-serves, consumed-serves, count-few, ended-serves}
use Rattle.lard_history.proofs.Each.{Each, Each-append}
use Rattle.lard_journal.specs.declared.rec.Rec.TheVariants as rec
use Rattle.lard_rules.specs.declared.stay.Progress.TheVariants.{Named, Reading, Awaited, Ready}
use Rattle.lard_rules.proofs.StayWalking.{KeptByReads, KeptByStarts, StepIn, goes-in, next_number, state-in, tagged-in, these-in}

-- ---- what is in hand

-- the number of a request fits a message
abbrev pub IsRequest : ℕ → Type 0
IsRequest r = r < 2 ^ 32

-- a job of a disk
abbrev pub JobFits : Job → Type 0
JobFits job = IsNumber job.origin × cluster.IsConnNumber job.c × (job.epoch.0 < 2 ^ 16) × IsRequest job.r × IsNamed job.path

-- the way by which a content came
abbrev pub ProgressFits : Progress → Type 0
ProgressFits (Ready way) = IsViaInRange way
ProgressFits _ = Unit {0}

abbrev pub EntryFits : Entry → Type 0
EntryFits e = ProgressFits e.progress

abbrev pub WantFits : Want → Type 0
WantFits w = IsNumber w.node × IsNamed w.path × IsRequest w.r

-- an Ask is for a batch, and its numbers fit a message
abbrev pub AskFits : Asked → Type 0
AskFits a = (a.size ≤ 8) × (length a.paths ≤ a.size) × Each IsNamed a.paths × (1 ≤ length a.paths) × (a.number < 2 ^ 32) × (a.queue < 2 ^ 32)

-- what holds of an item that is there
pub got : {A : Type 0} (P : A → Type 0) (xs : List A) (i : ℕ) → Each P xs → IfSome (slice_get xs i) P
got P [] i h = tt
got P (x ∷ xs) zero h = h.0
got P (x ∷ xs) (suc i) h = got P xs i h.1

-- no more than eight are taken
taken-few : (vs : List Verdict) → length (take 8 vs) ≤ 8
taken-few vs = let n = length-take 8 vs in omega (arith, n)

-- ---- what came for requests

come-fits : (f : Progress → Progress) → ((x : Progress) → ProgressFits x → ProgressFits (f x)) → (i : ℕ) (es : List Entry) → Each EntryFits es → Each EntryFits (come_on f i es)
come-fits f on i [] h = tt
come-fits f on zero (e ∷ es) h = (on e.progress h.0, h.1)
come-fits f on (suc i) (e ∷ es) h = (h.0, come-fits f on i es h.1)

-- a job was completed, or a content came from a node
pub read-fits : (x : Progress) → ProgressFits x → ProgressFits (read_progress x)
read-fits Reading h = tt
read-fits Named h = tt
read-fits (Awaited node) h = tt
read-fits (Ready way) h = h

pub came-fits : (from : ℕ) → IsNumber from → (x : Progress) → ProgressFits x → ProgressFits (come_progress from x)
came-fits from n (Awaited node) h = cond_both (node == from) (Ready (via.Node from)) (Awaited node) ProgressFits (λ t. n) (λ t. tt)
came-fits from n Named h = tt
came-fits from n Reading h = tt
came-fits from n (Ready way) h = h

-- ---- a node at work

module _ (env : NodeEnv) (own : env.serve.place ≡ Node env.n) (node : IsNumber env.n) (conn : cluster.IsConnNumber env.serve.c) (early : env.epoch < 2 ^ 16) (small : env.serve.stream ≤ 2 ^ 30) (files : AreNamed env.serve.files) (short : env.queue ≤ 2 ^ 30) where
  abbrev pub number : IsNumber env.serve.c
  number = conn-number env.serve.c conn

  pub at : IsPlaceInRange env.serve.place
  at = subst IsPlaceInRange (sym own) node

  abbrev pub IsServing : Service → Type 0
  IsServing w = Serves env.serve number small (contents env.serve.files files) at w

  -- All of it is in range; the batch has at most k requests, and at most j contents are wanted.
  pub record IsAtWork (k j : ℕ) (w : Work) : Type 0 where
    pub service : IsServing w.service
    pub batch : Each EntryFits w.batch
    pub few : length w.batch ≤ k
    pub jobs : Each JobFits w.jobs
    pub wants : Each WantFits w.wants
    pub few_wants : length w.wants ≤ j
    pub asked : IfSome w.asked AskFits

  pub work-wider : (k j l i : ℕ) (w : Work) → k ≤ l → j ≤ i → IsAtWork k j w → IsAtWork l i w
  work-wider k j l i w a b h = let few = h.few in let few_wants = h.few_wants in
      record { service = h.service; batch = h.batch; few = omega (arith, few, a); jobs = h.jobs; wants = h.wants; few_wants = omega (arith, few_wants, b); asked = h.asked }

  -- one note more
  noted-serves : (w : Service) (r : Rec) → IsRecordInRange r → IsServing w → IsServing (noted (r ∷ []) w)
  noted-serves w r n h = record { notes = Each-append IsRecordInRange w.notes (r ∷ []) h.notes (n, tt); keeps = h.keeps; over = h.over }

  -- one request more
  entered-works : (k j : ℕ) (e : Entry) (w : Work) → EntryFits e → IsAtWork k j w → IsAtWork (k + 1) j (entered e w)
  entered-works k j e w n h = let few = h.few in let more = length-append w.batch (e ∷ []) in
      record { service = h.service; batch = Each-append EntryFits w.batch (e ∷ []) h.batch (n, tt); few = omega (arith, few, more); jobs = h.jobs; wants = h.wants; few_wants = h.few_wants; asked = h.asked }

  -- ---- starting

  hit-works : (k j : ℕ) (path : List ℕ) (v : Verdict) (w : Work) → IsNamed path → IsAtWork k j w → IsAtWork (k + 1) j (hit_here env path v w)
  hit-works k j path v w p h = entered-works k j (record { verdict = v; progress = Ready via.Cache }) (record w { service = noted (rec.Hit env.n path ∷ []) w.service }) tt
      (record { service = noted-serves w.service (rec.Hit env.n path) (node, p.0) h.service; batch = h.batch; few = h.few; jobs = h.jobs; wants = h.wants; few_wants = h.few_wants; asked = h.asked })

  queued-works : (k j r : ℕ) (path : List ℕ) (v : Verdict) (w : Work) → IsRequest r → IsNamed path → IsAtWork k j w → IsAtWork (k + 1) j (queued_here env r path v w)
  queued-works k j r path v w n p h =
      let job : Job = own_job env r path in
      entered-works k j (record { verdict = v; progress = Reading }) (record w { service = noted (rec.Queued env.n env.n env.serve.c r path ∷ []) w.service; jobs = w.jobs ++ job ∷ [] }) tt
      (record {
        service = noted-serves w.service (rec.Queued env.n env.n env.serve.c r path) (node, node, number, omega (arith, n), p.0) h.service;
        batch = h.batch;
        few = h.few;
        jobs = Each-append JobFits w.jobs (job ∷ []) h.jobs ((node, conn, early, n, p), tt);
        wants = h.wants;
        few_wants = h.few_wants;
        asked = h.asked;
      })

  there-works : (k j to r : ℕ) (path : List ℕ) (v : Verdict) (w : Work) → IsNumber to → IsRequest r → IsNamed path → IsAtWork k j w → IsAtWork (k + 1) (j + 1) (started_there to r path v w)
  there-works k j to r path v w n low p h =
      let want : Want = record { r = r; node = to; path = path } in
      let few = h.few_wants in
      let more = length-append w.wants (want ∷ []) in
      entered-works k (j + 1) (record { verdict = v; progress = Awaited to }) (record w { wants = w.wants ++ want ∷ [] }) tt
      (record { service = h.service; batch = h.batch; few = h.few; jobs = h.jobs; wants = Each-append WantFits w.wants (want ∷ []) h.wants ((n, p, low), tt); few_wants = omega (arith, few, more); asked = h.asked })

  -- ---- a batch is read

  own-way : (o : Option (List ℕ)) → ProgressFits (progress_of o)
  own-way None = tt
  own-way (Some path) = tt

  -- the paths that an Ask names
  in-named : (e : Entry) (x : Progress) → IfSome (path_in env.serve.files e x) IsNamed
  in-named e Named = verdict-named env.serve.files files e.verdict
  in-named e _ = tt

  paths-named : (es : List Entry) → Each IsNamed (named_paths env.serve.files es) × (length (named_paths env.serve.files es) ≤ length es)
  paths-named [] = (tt, omega arith)
  paths-named (e ∷ es) = go (named_path env.serve.files e) (in-named e e.progress) (paths-named es) where
    go : (o : Option (List ℕ)) → IfSome o IsNamed → Each IsNamed (named_paths env.serve.files es) × (length (named_paths env.serve.files es) ≤ length es)
        → Each IsNamed (and_path o (named_paths env.serve.files es)) × (length (and_path o (named_paths env.serve.files es)) ≤ suc (length es))
    go None n h = let few = h.1 in (h.0, omega (arith, few))
    go (Some path) n h = let few = h.1 in ((n, h.0), omega (arith, few))

  -- the batch has so many requests with those that are still to be entered, and one Ask more than was made is of one of them
  record Entering (size j : ℕ) (vs : List Verdict) (w : Work) : Type 0 where
    works : IsAtWork (length w.batch) j w
    counts : IsCounted w
    all : length w.batch + length vs ≡ size
    asks : w.asks + 1 ≤ w.service.count + size

  -- the number of the next request fits
  next-fits : (k j : ℕ) (w : Work) → length w.batch ≤ 8 → IsAtWork k j w → IsRequest (next_number w)
  next-fits k j w few h = let counted = count-few w.service.count w.service.block h.service.keeps in omega (arith, counted, few)

  entering-on : (size j : ℕ) (e : Entry) (v : Verdict) (vs : List Verdict) (w u : Work) → u.batch ≡ w.batch ++ e ∷ [] → u.asks ≡ w.asks → u.service.count ≡ w.service.count → IsAtWork (length w.batch + 1) j u → IsCounted u → Entering size j (v ∷ vs) w
      → Entering size j vs u
  entering-on size j e v vs w u batch asks count works counts h =
      let more : length u.batch ≡ length w.batch + 1 = ap (λ (es : List Entry). length es) batch ∙ length_push w.batch e in
      let all = h.all in
      let before = h.asks in
      record { works = work-wider (length w.batch + 1) j (length u.batch) j u (omega (arith, more)) (omega arith) works; counts = counts; all = omega (arith, more, all); asks = omega (arith, asks, count, before) }

  by_reads : (size j : ℕ) → size ≤ 8 → KeptByReads env size (λ here. Entering size j) (λ w. IsAtWork 8 j w × IsCounted w)
  by_reads size j eight = record {
    hits = λ r path v vs w good is t h. entering-on size j (record { verdict = v; progress = Ready via.Cache }) v vs w (hit_here env path v w) refl refl refl
        (hit-works (length w.batch) j path v w (good-fits v path good) h.works) (let g = entered-counts env (record { verdict = v; progress = Ready via.Cache }) w h.counts in record { asks = g.asks; jobs = g.jobs }) h;
    queues = λ r path v vs w good is f h. entering-on size j (record { verdict = v; progress = Reading }) v vs w (queued_here env r path v w) refl refl refl
        (queued-works (length w.batch) j r path v w (let low = next-fits (length w.batch) j w (let all = h.all in omega (arith, all, eight)) h.works in omega (arith, is, low)) (good-fits v path good) h.works) (queued-counts env r path v w h.counts) h;
    enters = λ here v vs w only h. entering-on size j (read_entry env.serve.files v) v vs w (entered (read_entry env.serve.files v) w) refl refl refl
        (entered-works (length w.batch) j (read_entry env.serve.files v) w (own-way (good_path env.serve.files v)) h.works) (entered-counts env (read_entry env.serve.files v) w h.counts) h;
    plain = λ here w none h. (work-wider (length w.batch) j 8 j w (let all = h.all in omega (arith, all, eight)) (omega arith) h.works, h.counts);
    asks = λ here path paths w named h. asks-works here path paths w named h;
  } where
    good-fits : (v : Verdict) (path : List ℕ) → good_path env.serve.files v ≡ Some path → IsNamed path
    good-fits v path good = subst (λ (o : Option (List ℕ)). IfSome o IsNamed) good (verdict-named env.serve.files files v)

    asks-works : (here : Bool) (path : List ℕ) (paths : List (List ℕ)) (w : Work) → named_paths env.serve.files w.batch ≡ path ∷ paths → Entering size j [] w → IsAtWork 8 j (asks_for env size (path ∷ paths) w) × IsCounted (asks_for env size (path ∷ paths) w)
    asks-works here path paths w named h =
        let works = h.works in
        let counted = count-few w.service.count w.service.block works.service.keeps in
        let all = h.all in
        let asks = h.asks in
        let jobs = h.counts.jobs in
        let each = (paths-named w.batch).0 in
        let few = (paths-named w.batch).1 in
        let same : length (named_paths env.serve.files w.batch) ≡ length (path ∷ paths) = ap (λ (ps : List (List ℕ)). length ps) named in
        let some : 1 ≤ length w.batch = omega (arith, few, same) in (
          record {
            service = works.service;
            batch = works.batch;
            few = omega (arith, all, eight);
            jobs = works.jobs;
            wants = works.wants;
            few_wants = works.few_wants;
            asked = (eight, omega (arith, few, same, all), subst (Each IsNamed) named each, omega arith, omega (arith, asks, counted, eight), omega (arith, jobs, counted, all, eight, short));
          },
          record { asks = omega (arith, asks, all); jobs = h.counts.jobs },
        )

  abbrev Holds : ℕ → Work → Type 0
  Holds j w = IsAtWork 8 j w × IsCounted w

  batch-in : (j : ℕ) (here : Bool) (w : Work) → w.batch ≡ [] → Holds j w → StepIn (Holds j) (Holds j) (reads_batch env here w)
  batch-in j here w none h =
      let used : ℕ = bytes_used 8 w.service.block.recv.unread in
      let vs : List Verdict = batch_of 8 w.service.block.recv.unread in
      let s : Service = serving_consumed used w.service in
      let works = h.0 in
      let empty : length w.batch ≡ 0 = ap (λ (es : List Entry). length es) none in
      let taken : IsServing s = consumed-serves env.serve number small (contents env.serve.files files) at used w.service works.service in
      these-in env (λ here. Entering (length vs) j) (Holds j) (Holds j) here used w vs (by_reads (length vs) j (taken-few (verdicts w.service.block.recv.unread))) none
      (λ e. (
        record { service = ended-serves env.serve number small (contents env.serve.files files) at s taken; batch = works.batch; few = works.few; jobs = works.jobs; wants = works.wants; few_wants = works.few_wants; asked = works.asked },
        cond_both s.block.recv.fin (record s { block = finishing s.block }) s (λ (t : Service). IsCounted (record w { service = t })) (λ t. record { asks = h.1.asks; jobs = h.1.jobs }) (λ t. record { asks = h.1.asks; jobs = h.1.jobs }),
      ))
      (λ v us e. let some : length vs ≡ suc (length us) = ap (λ (l : List Verdict). length l) e in let asks = h.1.asks in record {
        works = record { service = taken; batch = works.batch; few = omega arith; jobs = works.jobs; wants = works.wants; few_wants = works.few_wants; asked = works.asked };
        counts = record { asks = h.1.asks; jobs = h.1.jobs };
        all = omega (arith, empty);
        asks = omega (arith, asks, empty, some);
      })

  pub batch-works : (j : ℕ) (here : Bool) (w : Work) → w.batch ≡ [] → IsAtWork 8 j w → IsCounted w → IsAtWork 8 j (state_of (reads_batch env here w)) × IsCounted (state_of (reads_batch env here w))
  batch-works j here w none h counts = state-in (Holds j) (reads_batch env here w) (batch-in j here w none (h, counts))

  -- ---- turn by turn

  served-works : (j : ℕ) (s : Service) (e : Entry) (rest : List Entry) (w : Work) → w.batch ≡ e ∷ rest → IsServing s → IsAtWork 8 j w → IsAtWork 8 j (record w { service = s; batch = left_by s.over e rest })
  served-works j s e rest w is served h =
      let all : Each EntryFits (e ∷ rest) = subst (Each EntryFits) is h.batch in
      let few : length (e ∷ rest) ≤ 8 = subst (λ (es : List Entry). length es ≤ 8) is h.few in
      go s.over all few where
        go : (o : Option ℕ) → Each EntryFits (e ∷ rest) → length (e ∷ rest) ≤ 8 → IsAtWork 8 j (record w { service = s; batch = left_by o e rest })
        go None all few = record { service = served; batch = all.1; few = omega (arith, few); jobs = h.jobs; wants = h.wants; few_wants = h.few_wants; asked = h.asked }
        go (Some total) all few = record { service = served; batch = all; few = few; jobs = h.jobs; wants = h.wants; few_wants = h.few_wants; asked = h.asked }

  pub goes-works : (j : ℕ) (w : Work) → IsAtWork 8 j w → IsCounted w → IsAtWork 8 j (goes_on env w) × IsCounted (goes_on env w)
  goes-works j w h counts = goes-in env (Holds j) (Holds j) (record {
    reads = λ k none may a. batch-in j false k none a;
    serves = λ way e rest k may first is a. (
      served-works j (answered env.serve way e.verdict k.service) e rest k first
          (answered-serves env.serve number small (contents env.serve.files files) at way e.verdict k.service (subst ProgressFits is (subst (Each EntryFits) first a.0.batch).0) (may-open k.service may) a.0.service) a.0,
      served-counts env way e rest k first a.1,
    );
    stops = λ k may a. a;
    holds = λ k leaves none may a. a;
  }) w (h, counts)

  -- ---- what came

  -- those that are left fit, and no more contents are wanted than requests have started
  record Starting (es : List Entry) (w : Work) : Type 0 where
    works : IsAtWork (length w.batch) (length w.batch) w
    all : length w.batch + length es ≤ 8
    left : Each EntryFits es

  starting-on : (x e : Entry) (es : List Entry) (w u : Work) → u.batch ≡ w.batch ++ x ∷ [] → IsAtWork (length w.batch + 1) (length w.batch + 1) u → Starting (e ∷ es) w → Starting es u
  starting-on x e es w u batch works h =
      let more : length u.batch ≡ length w.batch + 1 = ap (λ (es : List Entry). length es) batch ∙ length_push w.batch x in
      let all = h.all in
      record { works = work-wider (length w.batch + 1) (length w.batch + 1) (length u.batch) (length u.batch) u (omega (arith, more)) (omega (arith, more)) works; all = omega (arith, more, all); left = h.left.1 }

  module _ (nodes : List ℕ) (ns : Each IsNumber nodes) where
    wider : (w u : Work) → IsAtWork (length w.batch + 1) (length w.batch) u → IsAtWork (length w.batch + 1) (length w.batch + 1) u
    wider w u h = work-wider (length w.batch + 1) (length w.batch) (length w.batch + 1) (length w.batch + 1) u (omega arith) (omega arith) h

    stays : (e : Entry) (es : List Entry) (w : Work) → Starting (e ∷ es) w → Starting es (entered e w)
    stays e es w h = starting-on e e es w (entered e w) refl (wider w (entered e w) (entered-works (length w.batch) (length w.batch) e w h.left.0 h.works)) h

    low : (r : ℕ) (e : Entry) (es : List Entry) (w : Work) → r ≡ next_number w → Starting (e ∷ es) w → IsRequest r
    low r e es w is h = let all = h.all in let next = next-fits (length w.batch) (length w.batch) w (omega (arith, all)) h.works in omega (arith, is, next)

    path-fits : (e : Entry) (path : List ℕ) → named_path env.serve.files e ≡ Some path → IsNamed path
    path-fits e path named = subst (λ (o : Option (List ℕ)). IfSome o IsNamed) named (in-named e e.progress)

    by_starts : KeptByStarts env nodes (λ at. Starting)
    by_starts = record {
      stays = λ i r e es w is named h. stays e es w h;
      short = λ i r path e es w is named none h. stays e es w h;
      hits = λ i to r path e es w is named there t c h. let u : Work = hit_here env path e.verdict w in
          starting-on (record { verdict = e.verdict; progress = Ready via.Cache }) e es w u refl (wider w u (hit-works (length w.batch) (length w.batch) path e.verdict w (path-fits e path named) h.works)) h;
      queues = λ i to r path e es w is named there t c h. let u : Work = queued_here env r path e.verdict w in
          starting-on (record { verdict = e.verdict; progress = Reading }) e es w u refl (wider w u (queued-works (length w.batch) (length w.batch) r path e.verdict w (low r e es w is h) (path-fits e path named) h.works)) h;
      wants = λ i to r path e es w is named there f h. starting-on (record { verdict = e.verdict; progress = Awaited to }) e es w (started_there to r path e.verdict w) refl
          (there-works (length w.batch) (length w.batch) to r path e.verdict w (subst (λ (o : Option ℕ). IfSome o IsNumber) there (got IsNumber nodes i ns)) (low r e es w is h) (path-fits e path named) h.works) h;
    }

  pub tagged-works : (nodes : List ℕ) (w : Work) → Each IsNumber nodes → IsAtWork 8 0 w → IsAtWork 8 8 (tagged env nodes w)
  tagged-works nodes w ns h =
      let few = h.few in
      let all = (tagged-in env nodes (λ at. Starting) (by_starts nodes ns) w (record {
        works = record { service = h.service; batch = tt; few = omega arith; jobs = h.jobs; wants = h.wants; few_wants = h.few_wants; asked = h.asked };
        all = omega (arith, few);
        left = h.batch;
      })).1 in
      let most = all.all in
      work-wider (length (tagged env nodes w).batch) (length (tagged env nodes w).batch) 8 8 (tagged env nodes w) (omega (arith, most)) (omega (arith, most)) all.works

  pub came-works : (f : Progress → Progress) → ((x : Progress) → ProgressFits x → ProgressFits (f x)) → (r : ℕ) (w : Work) → IsAtWork 8 0 w → IsAtWork 8 0 (came_for f r w)
  came-works f on r w h =
      let i : ℕ = r - (w.service.count + 1) in
      let few = h.few in
      let same = come-length f i w.batch in
      cond_both (nat_lt w.service.count r) (record w { batch = come_on f i w.batch }) w (IsAtWork 8 0)
      (λ t. record { service = h.service; batch = come-fits f on i w.batch h.batch; few = omega (arith, few, same); jobs = h.jobs; wants = h.wants; few_wants = h.few_wants; asked = h.asked }) (λ t. h)
