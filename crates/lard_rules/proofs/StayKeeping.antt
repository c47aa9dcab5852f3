-- What each piece of a stay's work keeps, the stay keeps: where a batch is read, turn by turn, and where a Tag or a content comes. This is
-- the walk of `StayWalking` for one fact that all pieces keep; a law says what the pieces keep.
use Rattle.std.proofs.Common.{◌≡◌, ℕ, ◌+◌, ◌-◌, ◌==◌, nat_lt, Bool, true, false, List, [], ◌∷◌, ◌++◌, length, Some, refl, subst, arith}
use Rattle.std.proofs.lemmas.Bool.{both_ways, cond_both}
use Rattle.std.proofs.lemmas.List.{length_push}
use Rattle.lard_answers.specs.Answers.{good_path}
use Rattle.lard_base.specs.declared.place.Via.{Via}
use Rattle.lard_base.specs.declared.place.Via.TheVariants as via
use Rattle.lard_disk.specs.declared.disk.Job.{Job}
use Rattle.lard_journal.specs.declared.rec.Rec.TheVariants as rec
use Rattle.lard_reader.specs.Batches.{batch_of, bytes_used}
use Rattle.lard_request.specs.declared.verdict.Verdict.{Verdict}
use Rattle.lard_rules.specs.declared.stay.Entry.{Entry}
use Rattle.lard_rules.specs.declared.stay.Progress.{Progress}
use Rattle.lard_rules.specs.declared.stay.Progress.TheVariants as progress
use Rattle.lard_rules.specs.Loop.{state_of}
use Rattle.lard_rules.specs.Serving.{Service, answered, serving_consumed, ended_at_fin, may_read}
use Rattle.lard_rules.specs.Stay.{NodeEnv, Work, asks_for, came_for, come_on, entered, goes_on, hit_here, named_paths, noted, own_job, queued_here, read_entry, reads_batch, serves_with, started_there, tagged}
pub use Rattle.lard_rules.proofs.StayWalking.{next_number}
use Rattle.lard_rules.proofs.StayWalking.{KeptByReads, KeptByStarts, StepIn, goes-in, good-named, state-in, tagged-in, these-in, KeptByGoing}

-- P is kept by each piece of work: a request for a file starts by a hit, by a job, or by a Fetch; one is entered as it was read; an Ask names
-- those that have no node; the bytes of a batch are taken; the cluster's FIN follows the client's; and the first request is served.
pub record KeptByStay (env : NodeEnv) (P : Work → Type 0) : Type 0 where
  pub hits : (r : ℕ) (path : List ℕ) (v : Verdict) (w : Work) → good_path env.serve.files v ≡ Some path → r ≡ next_number w → env.cached path ≡ true → P w → P (hit_here env path v w)
  pub queues : (r : ℕ) (path : List ℕ) (v : Verdict) (w : Work) → good_path env.serve.files v ≡ Some path → r ≡ next_number w → env.cached path ≡ false → P w → P (queued_here env r path v w)
  pub wants : (node r : ℕ) (path : List ℕ) (v : Verdict) (w : Work) → good_path env.serve.files v ≡ Some path → r ≡ next_number w → (node == env.n) ≡ false → P w → P (started_there node r path v w)
  pub enters : (v : Verdict) (w : Work) → P w → P (entered (read_entry env.serve.files v) w)
  pub asks : (size : ℕ) (path : List ℕ) (paths : List (List ℕ)) (w : Work) → named_paths env.serve.files w.batch ≡ path ∷ paths → P w → P (asks_for env size (path ∷ paths) w)
  pub takes : (used : ℕ) (w : Work) → w.batch ≡ [] → P w → P (record w { service = serving_consumed used w.service })
  pub ends : (w : Work) → w.batch ≡ [] → P w → P (record w { service = ended_at_fin w.service })
  pub serves : (way : Via) (e : Entry) (rest : List Entry) (w : Work) → may_read w.service ≡ true → w.batch ≡ e ∷ rest → e.progress ≡ progress.Ready way → P w
      → P (serves_with (answered env.serve way e.verdict w.service) e rest w)

-- Q is so of each request of a batch, the first with number r
abbrev pub EachFrom : (ℕ → Entry → Type 0) → ℕ → List Entry → Type 0
EachFrom Q r [] = Unit {0}
EachFrom Q r (e ∷ es) = Q r e × EachFrom Q (r + 1) es

module _ (env : NodeEnv) (P : Work → Type 0) (kept : KeptByStay env P) where
  by_reads : (size : ℕ) → KeptByReads env size (λ here vs. P) P
  by_reads size = record {
    hits = λ r path v vs w. kept.hits r path v w;
    queues = λ r path v vs w. kept.queues r path v w;
    enters = λ here v vs w only. kept.enters v w;
    plain = λ here w none h. h;
    asks = λ here path paths w. kept.asks size path paths w;
  }

  batch-in : (here : Bool) (w : Work) → w.batch ≡ [] → P w → StepIn P P (reads_batch env here w)
  batch-in here w none h =
      let used : ℕ = bytes_used 8 w.service.block.recv.unread in
      let vs : List Verdict = batch_of 8 w.service.block.recv.unread in
      let taken : P (record w { service = serving_consumed used w.service }) = kept.takes used w none h in
      these-in env (λ here vs. P) P P here used w vs (by_reads (length vs)) none (λ e. kept.ends (record w { service = serving_consumed used w.service }) none taken) (λ v us e. taken)

  -- the work behind a batch
  pub batch-keeps : (here : Bool) (w : Work) → w.batch ≡ [] → P w → P (state_of (reads_batch env here w))
  batch-keeps here w none h = state-in P (reads_batch env here w) (batch-in here w none h)

  -- the stay goes on
  pub by_going : KeptByGoing env P P
  by_going = record { reads = λ w none may h. batch-in false w none h; serves = kept.serves; stops = λ w may h. h; holds = λ w leaves none may h. h }

  pub goes-keep : (w : Work) → P w → P (goes_on env w)
  goes-keep w h = goes-in env P P by_going w h

  -- ---- a Tag comes: Q was so of the requests of the batch, and P is kept where one of these stays as it is

  module _ (Q : ℕ → Entry → Type 0) (stays : (r : ℕ) (e : Entry) (w : Work) → r ≡ next_number w → Q r e → P w → P (entered e w)) where
    -- it is so of those that are left
    abbrev Left : ℕ → List Entry → Work → Type 0
    Left at es w = P w × EachFrom Q (next_number w) es

    -- where one more stands in the batch
    left-on : (e : Entry) (es : List Entry) (w : Work) → EachFrom Q (next_number w) (e ∷ es) → (x : Entry) → EachFrom Q (next_number (entered x w)) es
    left-on e es w h x = subst (λ (n : ℕ). EachFrom Q n es) (omega (arith, length_push w.batch x)) h.1

    stay-left : (at r : ℕ) (e : Entry) (es : List Entry) (w : Work) → r ≡ next_number w → Left at (e ∷ es) w → Left at es (entered e w)
    stay-left at r e es w is h = (stays (next_number w) e w refl h.1.0 h.0, left-on e es w h.1 e)

    by_starts : (nodes : List ℕ) → KeptByStarts env nodes Left
    by_starts nodes = record {
      stays = λ at r e es w is named h. stay-left at r e es w is h;
      short = λ at r path e es w is named none h. stay-left at r e es w is h;
      hits = λ at node r path e es w is named there t c h. (kept.hits r path e.verdict w (good-named env e path named).1 is c h.0, left-on e es w h.1 (record { verdict = e.verdict; progress = progress.Ready via.Cache }));
      queues = λ at node r path e es w is named there t c h. (kept.queues r path e.verdict w (good-named env e path named).1 is c h.0, left-on e es w h.1 (record { verdict = e.verdict; progress = progress.Reading }));
      wants = λ at node r path e es w is named there f h. (kept.wants node r path e.verdict w (good-named env e path named).1 is f h.0, left-on e es w h.1 (record { verdict = e.verdict; progress = progress.Awaited node }));
    }

    pub tagged-keeps : (nodes : List ℕ) (w : Work) → EachFrom Q (w.service.count + 1) w.batch → P (record w { batch = [] }) → P (tagged env nodes w)
    tagged-keeps nodes w q h = (tagged-in env nodes Left (by_starts nodes) w (h, subst (λ (n : ℕ). EachFrom Q n w.batch) (omega arith) q)).1.0

-- ---- turn by turn alone, where no request starts

-- P is kept where a request is entered as it was read, by an Ask, where bytes are taken, behind the client's FIN, and where the first request
-- is served.
pub record KeptByTurning (env : NodeEnv) (P : Work → Type 0) : Type 0 where
  pub enters : (v : Verdict) (w : Work) → P w → P (entered (read_entry env.serve.files v) w)
  pub asks : (size : ℕ) (path : List ℕ) (paths : List (List ℕ)) (w : Work) → named_paths env.serve.files w.batch ≡ path ∷ paths → P w → P (asks_for env size (path ∷ paths) w)
  pub takes : (used : ℕ) (w : Work) → w.batch ≡ [] → P w → P (record w { service = serving_consumed used w.service })
  pub ends : (w : Work) → w.batch ≡ [] → P w → P (record w { service = ended_at_fin w.service })
  pub serves : (way : Via) (e : Entry) (rest : List Entry) (w : Work) → may_read w.service ≡ true → w.batch ≡ e ∷ rest → e.progress ≡ progress.Ready way → P w
      → P (serves_with (answered env.serve way e.verdict w.service) e rest w)

module _ (env : NodeEnv) (P : Work → Type 0) (kept : KeptByTurning env P) where
  abbrev Quiet : Bool → List Verdict → Work → Type 0
  Quiet here vs w = (here ≡ false) × P w

  quiet_reads : (size : ℕ) → KeptByReads env size Quiet P
  quiet_reads size = record {
    hits = λ r path v vs w good is t h. absurd (both_ways true h.0 refl);
    queues = λ r path v vs w good is f h. absurd (both_ways true h.0 refl);
    enters = λ here v vs w only h. (h.0, kept.enters v w h.1);
    plain = λ here w none h. h.1;
    asks = λ here path paths w e h. kept.asks size path paths w e h.1;
  }

  turning-in : (w : Work) → w.batch ≡ [] → P w → StepIn P P (reads_batch env false w)
  turning-in w none h =
      let used : ℕ = bytes_used 8 w.service.block.recv.unread in
      let vs : List Verdict = batch_of 8 w.service.block.recv.unread in
      let taken : P (record w { service = serving_consumed used w.service }) = kept.takes used w none h in
      these-in env Quiet P P false used w vs (quiet_reads (length vs)) none (λ e. kept.ends (record w { service = serving_consumed used w.service }) none taken) (λ v us e. (refl, taken))

  pub turning-keeps : (w : Work) → P w → P (goes_on env w)
  turning-keeps w h = goes-in env P P (record { reads = λ w none may h. turning-in w none h; serves = kept.serves; stops = λ w may h. h; holds = λ w leaves none may h. h }) w h

-- ---- what looks at the service and the jobs alone

-- P is kept where the start of a request is noted, with its job or without, where bytes are taken, behind the client's FIN, and where a request
-- is answered.
pub record KeptByNotes (env : NodeEnv) (P : Service → List Job → Type 0) : Type 0 where
  pub hits : (path : List ℕ) (v : Verdict) (s : Service) (jobs : List Job) → good_path env.serve.files v ≡ Some path → env.cached path ≡ true → P s jobs → P (noted (rec.Hit env.n path ∷ []) s) jobs
  pub queues : (r : ℕ) (path : List ℕ) (v : Verdict) (s : Service) (jobs : List Job) → good_path env.serve.files v ≡ Some path → env.cached path ≡ false → P s jobs
      → P (noted (rec.Queued env.n env.n env.serve.c r path ∷ []) s) (jobs ++ own_job env r path ∷ [])
  pub takes : (used : ℕ) (s : Service) (jobs : List Job) → P s jobs → P (serving_consumed used s) jobs
  pub ends : (s : Service) (jobs : List Job) → P s jobs → P (ended_at_fin s) jobs
  pub answers : (way : Via) (v : Verdict) (s : Service) (jobs : List Job) → may_read s ≡ true → P s jobs → P (answered env.serve way v s) jobs

module _ (env : NodeEnv) (P : Service → List Job → Type 0) (kept : KeptByNotes env P) where
  abbrev pub Works : Work → Type 0
  Works w = P w.service w.jobs

  by_notes : KeptByStay env Works
  by_notes = record {
    hits = λ r path v w good is t h. kept.hits path v w.service w.jobs good t h;
    queues = λ r path v w good is f h. kept.queues r path v w.service w.jobs good f h;
    wants = λ node r path v w good is f h. h;
    enters = λ v w h. h;
    asks = λ size path paths w e h. h;
    takes = λ used w none h. kept.takes used w.service w.jobs h;
    ends = λ w none h. kept.ends w.service w.jobs h;
    serves = λ way e rest w may first is h. kept.answers way e.verdict w.service w.jobs may h;
  }

  each-any : (r : ℕ) (es : List Entry) → EachFrom (λ r e. Unit {0}) r es
  each-any r [] = tt
  each-any r (e ∷ es) = (tt, each-any (r + 1) es)

  pub batch-works : (here : Bool) (w : Work) → w.batch ≡ [] → Works w → Works (state_of (reads_batch env here w))
  batch-works here w none h = batch-keeps env Works by_notes here w none h

  pub goes-works : (w : Work) → Works w → Works (goes_on env w)
  goes-works w h = goes-keep env Works by_notes w h

  pub tagged-works : (nodes : List ℕ) (w : Work) → Works w → Works (tagged env nodes w)
  tagged-works nodes w h = tagged-keeps env Works by_notes (λ r e. Unit {0}) (λ r e v is q p. p) nodes w (each-any (w.service.count + 1) w.batch) h

  -- what comes for a request of the batch
  pub came-works : (f : Progress → Progress) (r : ℕ) (w : Work) → Works w → Works (came_for f r w)
  came-works f r w h = cond_both (nat_lt w.service.count r) (record w { batch = come_on f (r - (w.service.count + 1)) w.batch }) w Works (λ t. h) (λ t. h)
