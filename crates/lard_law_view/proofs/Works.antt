-- What a node notes of a connection as it reads, starts and serves its requests, and the jobs that it gives its disk.
use Rattle.std.proofs.Common.{◌≡◌, ℕ, Bool, true, false, List, [], ◌∷◌, ◌++◌, refl, sym, ◌∙◌, subst}
use Rattle.std.proofs.lemmas.List.Sums.{fold-append}
use Rattle.std.specs.List.{AllByRecursion, fold}
use Rattle.lard_law_view.specs.Prelude.{AreNumbered, IsConnNumber, Job, Node, NodeEnv, Place, Rec, Service, Work, answered_step, noted, own_job}
use Rattle.lard_law_view.proofs.Saying.{NotedAt}
use Rattle.lard_history.proofs.Each.{Each-append}
use Rattle.lard_journal.specs.declared.rec.Rec.TheVariants as rec
use Rattle.lard_rules.proofs.StayKeeping.{KeptByNotes}
use Rattle.lard_law_view.proofs.PlaceTurns as turns
use Rattle.lard_law_view.proofs.PlaceTurns.{AreNoted, NotesServing}

pub all-append : {A : Type 0} (P : A → Type 0) (xs ys : List A) → AllByRecursion P xs → AllByRecursion P ys → AllByRecursion P (xs ++ ys)
all-append P [] ys e f = f
all-append P (x ∷ xs) ys e f = (e.0, all-append P xs ys e.1 f)

-- Node env.n acts on connection c, whose number is one.
module _ (env : NodeEnv) (own : env.serve.place ≡ Node env.n) (number : IsConnNumber env.serve.c) where
  abbrev pub N : Rec → Type 0
  N r = NotedAt (Node env.n) env.serve.c r

  pub noting : NotesServing env.serve N
  noting = record {
    served = λ r code size via. subst (λ (p : Place). N (rec.Served p env.serve.c r code size via)) (sym own) (refl, refl);
    reset = λ total. subst (λ (p : Place). N (rec.Reset p env.serve.c total)) (sym own) (refl, refl);
  }

  abbrev pub Noted : Service → Type 0
  Noted w = AreNoted env.serve N noting w

  -- what was noted is of the connection, and so are the jobs
  abbrev pub AreTold : Service → List Job → Type 0
  AreTold s jobs = Noted s × AreNumbered jobs

  abbrev pub IsAtWork : Work → Type 0
  IsAtWork w = AreTold w.service w.jobs

  -- a note that counts no bytes
  one-noted : (w : Service) (r : Rec) → Noted w → N r → ((n : ℕ) → answered_step n r ≡ n) → Noted (noted (r ∷ []) w)
  one-noted w r h note none = (Each-append N w.notes (r ∷ []) h.0 (note, tt), λ n. fold-append answered_step n w.notes (r ∷ []) ∙ none (fold answered_step n w.notes) ∙ h.1 n)

  -- ---- what a stay does

  pub by_told : KeptByNotes env AreTold
  by_told = record {
    hits = λ path v s jobs good t h. (one-noted s (rec.Hit env.n path) h.0 refl (λ n. refl), h.1);
    queues = λ r path v s jobs good f h. (one-noted s (rec.Queued env.n env.n env.serve.c r path) h.0 (refl, refl) (λ n. refl), all-append (λ (job : Job). IsConnNumber job.c) jobs (own_job env r path ∷ []) h.1 (number, tt));
    takes = λ used s jobs h. h;
    ends = λ s jobs h. (turns.ended-noted env.serve N noting s h.0, h.1);
    answers = λ way v s jobs may h. (turns.answered-noted env.serve N noting way v s h.0, h.1);
  }
