-- The jobs that a node gives its disk in a turn are those that it notes, and what it notes of its cache is so of it.
use Rattle.std.proofs.Common.{ℕ, ◌+◌, List, [], ◌∷◌, length, refl}
use Rattle.lard_law_view.specs.Prelude.{Job, NodeEnv, Service, Verdict, Via, Work, answer, answered, ended_at_fin, own_job, serving_settled}
use Rattle.lard_law_connections.proofs.KeptBatches.{good-file}
use Rattle.lard_law_connections.proofs.StoresNotes.{Tells, no-more, one-more}
use Rattle.lard_journal.specs.declared.rec.Rec.TheVariants as rec
use Rattle.lard_rules.proofs.StayKeeping.{KeptByNotes}
use Rattle.lard_rules.proofs.Endings.{answered-keeps, at-fin-keeps, settled-keeps}

module _ (env : NodeEnv) where
  -- so far these jobs were noted
  abbrev pub Told : Service → List Job → Type 0
  Told w jobs = Tells env.n env.serve.files env.cached w.notes jobs

  abbrev pub IsAtWork : Work → Type 0
  IsAtWork w = Told w.service w.jobs

  -- ---- serving

  answered-told : (jobs : List Job) (via : Via) (v : Verdict) (w : Service) → Told w jobs → Told (answered env.serve via v w) jobs
  answered-told jobs via v w h =
      let bytes : List ℕ = answer env.serve.files v in
      let total : ℕ = w.block.send.total + length bytes in
      answered-keeps (λ (x : Service). Told x jobs) env.serve via v w
      (λ t. no-more env.n env.serve.files env.cached w.notes jobs (rec.Reset env.serve.place env.serve.c total) h refl tt)
      (λ t. no-more env.n env.serve.files env.cached w.notes jobs (rec.Served env.serve.place env.serve.c (w.count + 1) _ (length bytes) via) h refl tt)

  ended-told : (jobs : List Job) (w : Service) → Told w jobs → Told (ended_at_fin w) jobs
  ended-told jobs w h = at-fin-keeps (λ (x : Service). Told x jobs) w (λ t. h) (λ t. h)

  -- the end of a turn notes nothing more
  pub settled-told : (jobs : List Job) (w : Service) → Told w jobs → Tells env.n env.serve.files env.cached (serving_settled env.serve w).1.notes jobs
  settled-told jobs w h = settled-keeps (λ given. Tells env.n env.serve.files env.cached given.1.notes jobs) env.serve w (λ e. h) (λ total e. h)

  -- ---- what a stay does

  pub by_told : KeptByNotes env Told
  by_told = record {
    hits = λ path v s jobs good t h. no-more env.n env.serve.files env.cached s.notes jobs (rec.Hit env.n path) h refl (refl, t);
    queues = λ r path v s jobs good f h. one-more env.n env.serve.files env.cached s.notes jobs (rec.Queued env.n env.n env.serve.c r path) (own_job env r path ∷ []) h refl (refl, f, good-file env.serve.files v path good);
    takes = λ used s jobs h. h;
    ends = λ s jobs h. ended-told jobs s h;
    answers = λ way v s jobs may h. answered-told jobs way v s h;
  }
