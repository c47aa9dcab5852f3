-- What is read of a batch, where one request more is entered, a job is completed or a content comes; and which jobs are left.
use Rattle.std.proofs.Common.{◌≡◌, ◌⊎◌, ℕ, zero, suc, ◌+◌, ◌-◌, ◌==◌, Bool, true, false, cond, List, [], ◌∷◌, ◌++◌, length, take, drop, Option, Some, None, inl, inr, ⊎_elim, subst, arith}
use Rattle.std.proofs.lemmas.Bool.{cond_both}
use Rattle.std.specs.Prelude.{slice_get}
use Rattle.lard_base.specs.declared.place.Via.TheVariants as via
use Rattle.lard_law_connections.specs.Jobs.{BatchReads, HasJob, ReadsBy, RowReads, StageReads, StayReads}
use Rattle.lard_law_view.specs.Prelude.{BackConn, BackRow, Entry, Has, Job, Progress, Stay, come_on, come_progress, job_at, read_progress, without_job}
use Rattle.lard_handoff_back.specs.declared.row.BackConn.TheVariants as back
use Rattle.lard_history.proofs.Seeing.{has-before}
use Rattle.lard_rules.specs.declared.stay.Progress.TheVariants as progress

-- ---- of other numbers

module _ (Q R : ℕ → Type 0) where
  pub by-more : (r : ℕ) (p : Progress) → (Q r → R r) → ReadsBy Q r p → ReadsBy R r p
  by-more r progress.Reading more h = more h
  by-more r _ more h = tt

  pub reads-more : (r : ℕ) (es : List Entry) → ((i : ℕ) → Q i → R i) → BatchReads Q r es → BatchReads R r es
  reads-more r [] more h = tt
  reads-more r (e ∷ es) more h = (by-more r e.progress (more r) h.0, reads-more (r + 1) es more h.1)

  stay-more : (o : Option Stay) → ((i : ℕ) → Q i → R i) → StayReads Q o → StayReads R o
  stay-more None more h = tt
  stay-more (Some s) more h = reads-more (s.served + 1) s.batch more h

  pub stage-more : (o : Option Stay) (stage : BackConn) → ((i : ℕ) → Q i → R i) → StageReads Q o stage → StageReads R o stage
  stage-more o (back.Here b) more h = stay-more o more h
  stage-more o _ more h = tt

pub row-more : (Q R : ℕ → ℕ → Type 0) (stay : Option Stay) (o : Option BackRow) → ((e i : ℕ) → Q e i → R e i) → RowReads Q stay o → RowReads R stay o
row-more Q R stay None more h = tt
row-more Q R stay (Some row) more h = stage-more (Q row.epoch.0) (R row.epoch.0) stay row.stage (more row.epoch.0) h

-- more jobs do no harm
pub job-before : (n c epoch r : ℕ) (disk more : List Job) → HasJob n c disk epoch r → HasJob n c (disk ++ more) epoch r
job-before n c epoch r disk more h = (h.0, has-before h.0 disk more h.1, h.2, h.3)

-- ---- one request

module _ (Q : ℕ → Type 0) where
  pub reads-push : (r i : ℕ) (es : List Entry) (e : Entry) → i ≡ r + length es → BatchReads Q r es → ReadsBy Q i e.progress → BatchReads Q r (es ++ e ∷ [])
  reads-push r i [] e at h k = (subst (λ (n : ℕ). ReadsBy Q n e.progress) (omega (arith, at)) k, tt)
  reads-push r i (x ∷ es) e at h k = (h.0, reads-push (r + 1) i es e (omega (arith, at)) h.1 k)

  come-by : (r from : ℕ) (p : Progress) → ReadsBy Q r p → ReadsBy Q r (come_progress from p)
  come-by r from progress.Reading h = h
  come-by r from progress.Named h = tt
  come-by r from (progress.Awaited node) h = cond_both (node == from) (progress.Ready (via.Node from)) (progress.Awaited node) (ReadsBy Q r) (λ t. tt) (λ t. tt)
  come-by r from (progress.Ready way) h = tt

  -- a content comes
  pub reads-come : (r i from : ℕ) (es : List Entry) → BatchReads Q r es → BatchReads Q r (come_on (come_progress from) i es)
  reads-come r i from [] h = tt
  reads-come r zero from (e ∷ es) h = (come-by r from e.progress h.0, h.1)
  reads-come r (suc i) from (e ∷ es) h = (h.0, reads-come (r + 1) i from es h.1)

  -- Q is so of all numbers but one
  abbrev pub But : ℕ → ℕ → Type 0
  But one r = Q r ⊎ (r ≡ one)

  but-done : (one r : ℕ) (p : Progress) → ReadsBy Q r (read_progress p)
  but-done one r progress.Reading = tt
  but-done one r progress.Named = tt
  but-done one r (progress.Awaited node) = tt
  but-done one r (progress.Ready way) = tt

  -- that one is not among these
  pub reads-behind : (one r : ℕ) (es : List Entry) → ((i : ℕ) → r + i ≡ one → ⊥) → BatchReads (But one) r es → BatchReads Q r es
  reads-behind one r [] not h = tt
  reads-behind one r (e ∷ es) not h = (
    by-more (But one) Q r e.progress (λ k. ⊎_elim (λ (q : Q r). q) (λ (same : r ≡ one). absurd (not 0 (omega (arith, same)))) k) h.0,
    reads-behind one (r + 1) es (λ i same. not (i + 1) (omega (arith, same))) h.1,
  )

  -- its job is completed
  pub reads-done : (one r i : ℕ) (es : List Entry) → r + i ≡ one → BatchReads (But one) r es → BatchReads Q r (come_on read_progress i es)
  reads-done one r i [] is h = tt
  reads-done one r zero (e ∷ es) is h = (but-done one r e.progress, reads-behind one (r + 1) es (λ j same. omega (arith, same, is)) h.1)
  reads-done one r (suc i) (e ∷ es) is h = (
    by-more (But one) Q r e.progress (λ k. ⊎_elim (λ (q : Q r). q) (λ (same : r ≡ one). absurd (omega (arith, same, is))) k) h.0,
    reads-done one (r + 1) i es (omega (arith, is)) h.1,
  )

-- ---- the jobs that are left

-- all but the one that is taken out
left-but : (xs : List Job) (i : ℕ) (x y : Job) → slice_get xs i ≡ Some x → Has y xs → (x ≡ y) ⊎ Has y (take i xs ++ drop (suc i) xs)
left-but [] i x y at h = absurd h
left-but (z ∷ xs) zero x y at h = ⊎_elim (λ (e : z ≡ y). let same : z ≡ x = cc in inl (subst (λ (w : Job). w ≡ y) same e)) (λ (k : Has y xs). inr k) h
left-but (z ∷ xs) (suc i) x y at h = ⊎_elim (λ (e : z ≡ y). inr (inl e))
    (λ (k : Has y xs). ⊎_elim (λ (e : x ≡ y). inl e) (λ (l : Has y (take i xs ++ drop (suc i) xs)). inr (inr l)) (left-but xs i x y at k)) h

pub left-or-it : (disk : List Job) (j : ℕ) (job y : Job) → job_at disk j ≡ Some job → Has y disk → (job ≡ y) ⊎ Has y (without_job disk j)
left-or-it disk j job y = go (j == 0) where
  go : (b : Bool) → cond b None (slice_get disk (j - 1)) ≡ Some job → Has y disk → (job ≡ y) ⊎ Has y (cond b disk (take (j - 1) disk ++ drop (suc (j - 1)) disk))
  go true at h = inr h
  go false at h = left-but disk (j - 1) job y at h
