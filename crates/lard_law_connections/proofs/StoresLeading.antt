-- What the notes of a node's step make of what the journal tells.
use Rattle.std.proofs.Common.{◌≡◌, ◌≢◌, ℕ, suc, ◌-◌, Bool, true, false, cond, nat_eq, List, [], ◌∷◌, ◌++◌, length, take, drop, map, Option, Some, None, refl, sym, ap, ◌∙◌, subst, append_assoc}
use Rattle.std.proofs.lemmas.List.{drop-map, map-append, take-map}
use Rattle.std.proofs.lemmas.List.Sums.{fold-append}
use Rattle.std.proofs.lemmas.Option.{slice_get-map}
use Rattle.std.specs.Prelude.{slice_get}
use Rattle.std.specs.Option.{option_map}
use Rattle.lard_law_view.specs.Prelude.{BackIn, EachMay, FilesAt, Job, NodeSetting, NodeState, Out, Rec, Recency, after_put, completed, content_bytes, has_path, hits, job_at, last_event, without_job}
use Rattle.lard_base.specs.declared.event.Event.TheVariants.{Disk}
use Rattle.lard_law_connections.specs.StoresLaws.{MayStore, job_told}
use Rattle.lard_counts.specs.Stores.{Queue, bytes_of_file, cache_of, cache_step, jobs, jobs_step, no_jobs, queue_of, size_of, waiting_at, without_waiting}
use Rattle.lard_law_connections.proofs.StoresAsides.{IsAside, cache-behind, jobs-behind}
use Rattle.lard_law_connections.proofs.StoresNodes.{MovesFrom, NodeMoves, Plain, Reads}
use Rattle.lard_law_connections.proofs.StoresNotes.{IsKept, notes-kept, notes-may, other-test, others-kept, own-test}
use Rattle.lard_history.proofs.Each.{Each}
use Rattle.lard_journal.specs.declared.rec.Rec.TheVariants as rec
use Rattle.lard_rules.specs.declared.node.BackIn.TheVariants as back

-- ---- a job among the jobs that are told

waiting-told : (disk : List Job) (j : ℕ) → waiting_at (map job_told disk) j ≡ option_map job_told (job_at disk j)
waiting-told disk j = go (nat_eq j 0) where
  go : (b : Bool) → cond b None (slice_get (map job_told disk) (j - 1)) ≡ option_map job_told (cond b None (slice_get disk (j - 1)))
  go true = refl
  go false = slice_get-map job_told disk (j - 1)

-- the j-th of a disk is the j-th that is told
pub waiting-is : (J : List Rec) (n j : ℕ) (disk : List Job) (job : Job) → jobs J n ≡ map job_told disk → job_at disk j ≡ Some job → waiting_at (jobs J n) j ≡ Some (job_told job)
waiting-is J n j disk job told is = ap (λ xs. waiting_at xs j) told ∙ waiting-told disk j ∙ ap (option_map job_told) is

without-told : (disk : List Job) (j : ℕ) → without_waiting (map job_told disk) j ≡ map job_told (without_job disk j)
without-told disk j = go (nat_eq j 0) where
  at : ℕ
  at = j - 1

  go : (b : Bool) → cond b (map job_told disk) (take at (map job_told disk) ++ drop (suc at) (map job_told disk)) ≡ map job_told (cond b disk (take at disk ++ drop (suc at) disk))
  go true = refl
  go false = (λ i. take-map job_told at disk i ++ drop-map job_told (suc at) disk i) ∙ sym (map-append job_told (take at disk) (drop (suc at) disk))

size-is : (o : Option (List ℕ)) → bytes_of_file o ≡ length (content_bytes o)
size-is None = refl
size-is (Some bytes) = refl

-- ---- what notes lead to

-- Behind J, node i is so after these notes, all other nodes are as before, and each of the notes may stand there.
pub record Leads (files : FilesAt) (limit : ℕ) (J : List Rec) (i : ℕ) (notes : List Rec) (t : NodeState) : Type 0 where
  pub mine : IsKept files limit (J ++ notes) i t.cache t.disk
  pub others : (k : ℕ) (cache : Recency) (disk : List Job) → i ≢ k → IsKept files limit J k cache disk → IsKept files limit (J ++ notes) k cache disk
  pub law : EachMay (MayStore files limit) J notes

-- records aside change nothing
pub asides-kept : (files : FilesAt) (limit k : ℕ) (J rs : List Rec) (cache : Recency) (disk : List Job) → Each IsAside rs → IsKept files limit J k cache disk → IsKept files limit (J ++ rs) k cache disk
asides-kept files limit k J rs cache disk e kept = record { jobs_are = jobs-behind k J rs e ∙ kept.jobs_are; cache_is = cache-behind files limit k J rs e ∙ kept.cache_is }

module _ (k : NodeSetting) (limit : ℕ) where
  moves-lead : (J : List Rec) (s : NodeState) (x : NodeState × Out) → IsKept k.files limit J k.n s.cache s.disk → MovesFrom k s x → Leads k.files limit J k.n x.1.notes x.0
  moves-lead J s x kept moves =
      let grown : IsKept k.files limit (J ++ x.1.notes) k.n (hits x.1.notes s.cache) (s.disk ++ moves.jobs) =
      notes-kept k.n k.files (has_path s.cache.entries) limit J x.1.notes s.cache s.disk moves.jobs moves.notes kept in
      record {
        mine = record { jobs_are = grown.jobs_are ∙ ap (map job_told) (sym moves.disk_is); cache_is = grown.cache_is ∙ sym moves.cache_is };
        others = λ q cache disk other was. others-kept k.n k.files (has_path s.cache.entries) limit q J x.1.notes cache disk other moves.notes.each was;
        law = notes-may k.n k.files (has_path s.cache.entries) limit J x.1.notes moves.notes.each (λ path. ap (λ (c : Recency). has_path c.entries path) kept.cache_is);
      }

  -- the j-th job is read
  module _ (J : List Rec) (s : NodeState) (j : ℕ) (job : Job) (kept : IsKept k.files limit J k.n s.cache s.disk) (at : (queue_of J k.n).at ≡ j) (last : last_event J ≡ Some (Disk k.n j))
      (is : job_at s.disk j ≡ Some job) where
    abbrev read : Rec
    read = rec.Read k.n job.origin job.c job.r job.path

    read-kept : IsKept k.files limit (J ++ read ∷ []) k.n (completed k s j job).cache (completed k s j job).disk
    read-kept = record {
      jobs_are =
          ap (λ (q : Queue). q.list) (fold-append (jobs_step k.n) no_jobs J (read ∷ []))
          ∙ ap (λ (q : Queue). q.list) (own-test k.n k.n (record (queue_of J k.n) { list = without_waiting (jobs J k.n) (queue_of J k.n).at }) (queue_of J k.n) refl)
          ∙ (λ i. without_waiting (kept.jobs_are i) (at i))
          ∙ without-told s.disk j;
      cache_is =
          fold-append (cache_step k.files k.n) (record { entries = []; limit = limit }) J (read ∷ [])
          ∙ own-test k.n k.n (after_put (cache_of k.files limit J k.n) job.path (size_of k.files job.path)) (cache_of k.files limit J k.n) refl
          ∙ (λ i. after_put (kept.cache_is i) job.path (size-is (k.files job.path) i));
    }

    read-others : (q : ℕ) (cache : Recency) (disk : List Job) → k.n ≢ q → IsKept k.files limit J q cache disk → IsKept k.files limit (J ++ read ∷ []) q cache disk
    read-others q cache disk other was = record {
      jobs_are =
          ap (λ (x : Queue). x.list) (fold-append (jobs_step q) no_jobs J (read ∷ []))
          ∙ ap (λ (x : Queue). x.list) (other-test k.n q (record (queue_of J q) { list = without_waiting (jobs J q) (queue_of J q).at }) (queue_of J q) other)
          ∙ was.jobs_are;
      cache_is =
          fold-append (cache_step k.files q) (record { entries = []; limit = limit }) J (read ∷ [])
          ∙ other-test k.n q (after_put (cache_of k.files limit J q) job.path (size_of k.files job.path)) (cache_of k.files limit J q) other
          ∙ was.cache_is;
    }

    read-may : MayStore k.files limit J read
    read-may = (j, last, waiting-is J k.n j s.disk job kept.jobs_are is)

    reads-lead : (x : NodeState × Out) → MovesFrom k (completed k s j job) x → Leads k.files limit J k.n (read ∷ x.1.notes) x.0
    reads-lead x moves =
        let then : Leads k.files limit (J ++ read ∷ []) k.n x.1.notes x.0 = moves-lead (J ++ read ∷ []) (completed k s j job) x read-kept moves in
        let same : (J ++ read ∷ []) ++ x.1.notes ≡ J ++ read ∷ x.1.notes = append_assoc J (read ∷ []) x.1.notes in
        record {
          mine = subst (λ (rs : List Rec). IsKept k.files limit rs k.n x.0.cache x.0.disk) same then.mine;
          others = λ q cache disk other was. subst (λ (rs : List Rec). IsKept k.files limit rs q cache disk) same (then.others q cache disk other (read-others q cache disk other was));
          law = (read-may, then.law);
        }

  -- the event of the step names the job, where one is completed
  abbrev pub IsNamed : List Rec → BackIn → Type 0
  IsNamed J (back.Disk j) = ((queue_of J k.n).at ≡ j) × (last_event J ≡ Some (Disk k.n j))
  IsNamed J _ = Unit {0}

  pub step-leads : (J : List Rec) (s : NodeState) (i : BackIn) (x : NodeState × Out) → IsKept k.files limit J k.n s.cache s.disk → IsNamed J i → NodeMoves k s i x → Leads k.files limit J k.n x.1.notes x.0
  step-leads J s i x kept named (Plain idle moves) = moves-lead J s x kept moves
  step-leads J s (back.Disk j) x kept named (Reads {job = job} {x = y} is moves) = reads-lead J s j job kept named.0 named.1 is y moves
