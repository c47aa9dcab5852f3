-- While a stay goes on, what is read of its batch is a job of the disk or one that the turn gives it.
use Rattle.std.proofs.Common.{◌≡◌, ℕ, ◌+◌, Bool, List, [], ◌∷◌, ◌++◌, Option, Some, None, inl, refl, sym, subst, append_assoc, append-nil}
use Rattle.lard_law_view.specs.Prelude.{Entry, Job, NodeEnv, Service, Via, Work, answered, ended_at_fin, entered, goes_on, good_path, noted, own_job, progress_of, read_entry, reads_batch, serves_with, serving_consumed, state_of, tagged}
use Rattle.lard_base.specs.declared.place.Via.TheVariants as via
use Rattle.lard_law_connections.specs.Jobs.{BatchReads, HasJob, ReadsBy}
use Rattle.lard_law_connections.proofs.JobsBatches.{by-more, job-before, reads-more, reads-push}
use Rattle.lard_history.proofs.Seeing.{has-behind, same_number}
use Rattle.lard_journal.specs.declared.rec.Rec.TheVariants as rec
use Rattle.lard_rules.specs.declared.stay.Progress.TheVariants as progress
use Rattle.lard_rules.proofs.StayKeeping.{EachFrom, KeptByStay, batch-keeps, goes-keep, next_number, tagged-keeps}
use Rattle.lard_rules.proofs.Endings.{answered-keeps}

module _ (env : NodeEnv) (disk : List Job) where
  -- the disk has it, or is given it in this turn
  abbrev pub Job_for : List Job → ℕ → Type 0
  Job_for jobs r = HasJob env.n env.serve.c (disk ++ jobs) env.epoch r

  abbrev pub Reads : Work → Type 0
  Reads w = BatchReads (Job_for w.jobs) (w.service.count + 1) w.batch

  more-jobs : (jobs : List Job) (job : Job) (r : ℕ) → Job_for jobs r → Job_for (jobs ++ job ∷ []) r
  more-jobs jobs job r h = subst (λ (js : List Job). HasJob env.n env.serve.c js env.epoch r) (append_assoc disk jobs (job ∷ [])) (job-before env.n env.serve.c env.epoch r (disk ++ jobs) (job ∷ []) h)

  given : (jobs : List Job) (r : ℕ) (path : List ℕ) → Job_for (jobs ++ own_job env r path ∷ []) r
  given jobs r path = (
    own_job env r path,
    has-behind (own_job env r path) disk (jobs ++ own_job env r path ∷ []) (has-behind (own_job env r path) jobs (own_job env r path ∷ []) (inl refl)),
    refl,
    rw (same_number env.serve.c, same_number env.epoch, same_number r) refl,
  )

  -- ---- what a stay does

  pushed : (e : Entry) (w : Work) (r : ℕ) → r ≡ next_number w → Reads w → ReadsBy (Job_for w.jobs) r e.progress → Reads (entered e w)
  pushed e w r is h by = reads-push (Job_for w.jobs) (w.service.count + 1) r w.batch e is h by

  read-by : (r : ℕ) (jobs : List Job) (o : Option (List ℕ)) → ReadsBy (Job_for jobs) r (progress_of o)
  read-by r jobs None = tt
  read-by r jobs (Some path) = tt

  answered-count : (way : Via) (e : Entry) (rest : List Entry) (w : Work) → BatchReads (Job_for w.jobs) (w.service.count + 1) (e ∷ rest) → Reads (serves_with (answered env.serve way e.verdict w.service) e rest w)
  answered-count way e rest w h =
      answered-keeps (λ (s : Service). Reads (serves_with s e rest w)) env.serve way e.verdict w.service (λ t. h) (λ t. h.1)

  none-read : (w : Work) → w.batch ≡ [] → Reads w
  none-read w none = subst (BatchReads (Job_for w.jobs) (w.service.count + 1)) (sym none) tt

  by_jobs : KeptByStay env Reads
  by_jobs = record {
    hits = λ r path v w good is t h. pushed (record { verdict = v; progress = progress.Ready via.Cache }) w r is h tt;
    queues = λ r path v w good is f h.
        let x : Work = record w { service = noted (rec.Queued env.n env.n env.serve.c r path ∷ []) w.service; jobs = w.jobs ++ own_job env r path ∷ [] } in
        pushed (record { verdict = v; progress = progress.Reading }) x r is (reads-more (Job_for w.jobs) (Job_for x.jobs) (w.service.count + 1) w.batch (more-jobs w.jobs (own_job env r path)) h) (given w.jobs r path);
    wants = λ node r path v w good is f h. pushed (record { verdict = v; progress = progress.Awaited node }) w r is h tt;
    enters = λ v w h. pushed (read_entry env.serve.files v) w (next_number w) refl h (read-by (next_number w) w.jobs (good_path env.serve.files v));
    asks = λ size path paths w e h. h;
    takes = λ used w none h. none-read (record w { service = serving_consumed used w.service }) none;
    ends = λ w none h. none-read (record w { service = ended_at_fin w.service }) none;
    serves = λ way e rest w may first is h. answered-count way e rest w (subst (BatchReads (Job_for w.jobs) (w.service.count + 1)) first h);
  }

  pub batch-reads : (here : Bool) (w : Work) → w.batch ≡ [] → Reads (state_of (reads_batch env here w))
  batch-reads here w none = batch-keeps env Reads by_jobs here w none (none-read w none)

  pub goes-read : (w : Work) → Reads w → Reads (goes_on env w)
  goes-read w h = goes-keep env Reads by_jobs w h

  -- ---- a Tag comes

  -- the requests of the batch were read before the turn
  abbrev Was : ℕ → Entry → Type 0
  Was r e = ReadsBy (Job_for []) r e.progress

  were : (r : ℕ) (es : List Entry) → BatchReads (Job_for []) r es → EachFrom Was r es
  were r [] h = tt
  were r (e ∷ es) h = (h.0, were (r + 1) es h.1)

  pub tagged-reads : (nodes : List ℕ) (w : Work) → w.jobs ≡ [] → Reads w → Reads (tagged env nodes w)
  tagged-reads nodes w none h = tagged-keeps env Reads by_jobs Was
      (λ r e x is was reads. pushed e x r is reads (by-more (Job_for []) (Job_for x.jobs) r e.progress
      (λ job. job-before env.n env.serve.c env.epoch r disk x.jobs (subst (λ (js : List Job). HasJob env.n env.serve.c js env.epoch r) (append-nil disk) job)) was))
      nodes w (were (w.service.count + 1) w.batch (subst (λ (js : List Job). BatchReads (Job_for js) (w.service.count + 1) w.batch) none h)) tt
