-- What each turn of a stay keeps of the node's service alone, the stay keeps: while batches are read, requests start, come on and are served.
use Rattle.std.proofs.Common.{◌≡◌, ℕ, Bool, true, List, [], ◌∷◌}
use Rattle.lard_law_view.specs.Prelude.{Job, NodeEnv, Progress, Rec, ServeEnv, Service, Verdict, Via, Work, answered, came_for, ended_at_fin, goes_on, may_read, noted, reads_batch, serving_consumed, state_of, tagged}
use Rattle.lard_history.proofs.Each.{Each}
use Rattle.lard_journal.specs.declared.rec.Rec.TheVariants as rec
use Rattle.lard_rules.proofs.StayKeeping.{KeptByNotes, batch-works, came-works, goes-works, tagged-works}

-- a path that was hit or queued
abbrev pub IsStart : Rec → Type 0
IsStart (rec.Hit n path) = Unit {0}
IsStart (rec.Queued n m c r path) = Unit {0}
IsStart _ = ⊥

-- P is kept where the start of requests is noted, where bytes are read, behind the client's FIN, and where one is answered
pub record KeptByServing (env : ServeEnv) (P : Service → Type 0) : Type 0 where
  pub notes : (s : Service) (rs : List Rec) → Each IsStart rs → P s → P (noted rs s)
  pub reads : (s : Service) (n : ℕ) → P s → P (serving_consumed n s)
  pub ends : (s : Service) → P s → P (ended_at_fin s)
  pub answers : (s : Service) (way : Via) (v : Verdict) → may_read s ≡ true → P s → P (answered env way v s)

module _ (env : NodeEnv) (P : Service → Type 0) (kept : KeptByServing env.serve P) where
  abbrev Serves : Service → List Job → Type 0
  Serves s jobs = P s

  by_serving : KeptByNotes env Serves
  by_serving = record {
    hits = λ path v s jobs good t h. kept.notes s (rec.Hit env.n path ∷ []) (tt, tt) h;
    queues = λ r path v s jobs good f h. kept.notes s (rec.Queued env.n env.n env.serve.c r path ∷ []) (tt, tt) h;
    takes = λ used s jobs h. kept.reads s used h;
    ends = λ s jobs h. kept.ends s h;
    answers = λ way v s jobs may h. kept.answers s way v may h;
  }

  -- the state behind a batch
  pub batch-state : (here : Bool) (k : Work) → k.batch ≡ [] → P k.service → P (state_of (reads_batch env here k)).service
  batch-state here k none h = batch-works env Serves by_serving here k none h

  -- the stay goes on
  pub goes-so : (k : Work) → P k.service → P (goes_on env k).service
  goes-so k h = goes-works env Serves by_serving k h

  -- what comes for requests of the batch
  pub tagged-so : (nodes : List ℕ) (k : Work) → P k.service → P (tagged env nodes k).service
  tagged-so nodes k h = tagged-works env Serves by_serving nodes k h

  pub came-so : (f : Progress → Progress) (r : ℕ) (k : Work) → P k.service → P (came_for f r k).service
  came-so f r k h = came-works env Serves by_serving f r k h
