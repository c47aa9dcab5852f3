-- The nodes that are kept are those of the records, and one record more is noted.
use Rattle.std.proofs.Common.{◌≡◌, ◌≢◌, ℕ, zero, suc, ◌-◌, ◌≤◌, Bool, true, false, not, ◌&&◌, nat_eq, cond, List, [], ◌∷◌, ◌++◌, map, remove, replicate, slice_get, slice_set, Option, Some, None, is_some, refl, sym, ap, subst, ◌∙◌, arith}
use Rattle.std.proofs.lemmas.Bool.{eq-eqb}
use Rattle.std.proofs.lemmas.List.{length-replicate, map-append}
use Rattle.std.specs.Option.{option_map}
use Rattle.indexmap.proofs.SetLemmas.{map-remove}
use Rattle.lard_base.specs.declared.event.Event.{Event}
use Rattle.lard_base.specs.declared.event.Event.TheVariants as event
use Rattle.lard_cache.specs.Recency.{Recency, after_hit, after_put, has_path}
use Rattle.lard_counts.specs.Stores.{Queue, Waiting, at_step, bytes_of_file, cache_of, cache_step, cached, jobs, jobs_step, no_jobs, queue_of, size_of, without_waiting}
use Rattle.lard_history.proofs.Seeing.{by_number, other_number}
use Rattle.lard_journal.specs.declared.rec.Rec.{Rec}
use Rattle.lard_journal.specs.declared.rec.Rec.TheVariants as rec
use Rattle.lard_audit.specs.declared.nodes.Node.{Node}
use Rattle.lard_audit.specs.declared.queue.Job.{Job}
use Rattle.lard_audit.specs.Audit.{IsNodeOf}
use Rattle.lard_audit.specs.Sound.{audit_files_of, is_audit_job, audit_job_at, job_behind, job_by, keeps_cache, audit_last_of, size_in}
use Rattle.lard_audit.specs.Nodes.{IsAtNode, audit_changed, entries_at, entries_of, hit_by, audit_jobs_at, audit_jobs_of, named_by, named_by_event, nodes_step, audit_number_at, number_or_0, queued_by, read_by, set_node, size_or_0}
use Rattle.lard_audit.specs.Queue.{audit_told, audit_without_job}
use Rattle.lard_audit.proofs.Kept.{once-more}

-- ---- lists of nodes

set-same : (xs : List Node) (i : ℕ) (x y : Node) → slice_get xs i ≡ Some x → slice_get (slice_set xs i y) i ≡ Some y
set-same [] i x y e = cc
set-same (z ∷ zs) zero x y e = refl
set-same (z ∷ zs) (suc i) x y e = set-same zs i x y e

set-other : (xs : List Node) (i j : ℕ) (y : Node) → i ≢ j → slice_get (slice_set xs i y) j ≡ slice_get xs j
set-other [] i j y n = refl
set-other (z ∷ zs) zero zero y n = absurd (n refl)
set-other (z ∷ zs) zero (suc j) y n = refl
set-other (z ∷ zs) (suc i) zero y n = refl
set-other (z ∷ zs) (suc i) (suc j) y n = set-other zs i j y (λ e. n (ap suc e))

changed-same : (nodes : List Node) (k : ℕ) (x : Node) (f : Node → Node) → slice_get nodes (k - 1) ≡ Some x → slice_get (audit_changed nodes k f) (k - 1) ≡ Some (f x)
changed-same nodes k x f e =
    ap (λ (o : Option Node). slice_get (set_node nodes (k - 1) o f) (k - 1)) e ∙ set-same nodes (k - 1) x (f x) e

changed-other : (nodes : List Node) (k n : ℕ) (f : Node → Node) → 1 ≤ k → 1 ≤ n → k ≢ n → slice_get (audit_changed nodes k f) (n - 1) ≡ slice_get nodes (n - 1)
changed-other nodes k n f some_k some_n apart = go (slice_get nodes (k - 1)) where
  go : (o : Option Node) → slice_get (set_node nodes (k - 1) o f) (n - 1) ≡ slice_get nodes (n - 1)
  go None = refl
  go (Some x) = set-other nodes (k - 1) (n - 1) (f x) (λ e. apart (omega (arith, e, some_k, some_n)))

-- ---- the rule says the same of what is kept

module _ (sizes : List (List ℕ × ℕ)) (limit : ℕ) (nodes : List Node) (J : List Rec) (named : Option (ℕ × ℕ)) where
  cached-same : (n : ℕ) → IsNodeOf (audit_files_of sizes) limit nodes J n → cached (audit_files_of sizes) limit J n ≡ entries_at nodes n
  cached-same n h = ap (λ (c : Recency). c.entries) h.cache ∙ sym (ap entries_of h.there)

  jobs-same : (n : ℕ) → IsNodeOf (audit_files_of sizes) limit nodes J n → jobs J n ≡ audit_jobs_at nodes n
  jobs-same n h = h.queue ∙ sym (ap (λ (o : Option Node). map audit_told (audit_jobs_of o)) h.there)

  pub cache-same : (r : Rec) → ((n : ℕ) → 1 ≤ n → n ≤ 64 → IsNodeOf (audit_files_of sizes) limit nodes J n) → ((n : ℕ) → job_behind (audit_last_of J) n ≡ audit_number_at named n) → IsAtNode r
      → keeps_cache sizes (cached (audit_files_of sizes) limit J) (λ n. audit_job_at (jobs J n) (job_behind (audit_last_of J) n)) r
      ≡ keeps_cache sizes (entries_at nodes) (λ n. audit_job_at (audit_jobs_at nodes n) (audit_number_at named n)) r
  cache-same (rec.Hit n path) h by at = ap (λ (es : List (List ℕ × ℕ)). has_path es path) (cached-same n (h n at.0 at.1))
  cache-same (rec.Queued n m c r path) h by at = ap (λ (es : List (List ℕ × ℕ)). not (has_path es path) && is_some (size_in sizes path)) (cached-same n (h n at.0 at.1))
  cache-same (rec.Read n m c r path) h by at =
      ap (λ (js : List Waiting). is_audit_job (audit_job_at js (job_behind (audit_last_of J) n)) m c r path) (jobs-same n (h n at.0 at.1))
      ∙ ap (λ (o : Option ℕ). is_audit_job (audit_job_at (audit_jobs_at nodes n) o) m c r path) (by n)
  cache-same _ h by at = refl

-- ---- which job was named

pub named-more : (J : List Rec) (r : Rec) (n : ℕ) → job_behind (audit_last_of (J ++ r ∷ [])) n ≡ audit_number_at (named_by r) n
named-more J r n = ap (λ (o : Option Rec). job_behind o n) (once-more (λ before r. Some r) None J r) ∙ go r where
  by : (e : Event) → job_by n e ≡ audit_number_at (named_by_event e) n
  by (event.Disk k j) = refl
  by _ = refl

  go : (r : Rec) → job_behind (Some r) n ≡ audit_number_at (named_by r) n
  go (rec.Event i e) = by e
  go (rec.Inner e) = by e
  go _ = refl

pub reads-more : (J : List Rec) (r : Rec) (n j : ℕ) → audit_number_at (named_by r) n ≡ Some j → (queue_of (J ++ r ∷ []) n).at ≡ j
reads-more J r n j is = ap (λ (q : Queue). q.at) (once-more (jobs_step n) no_jobs J r) ∙ go r is where
  by : (e : Event) → audit_number_at (named_by_event e) n ≡ Some j → at_step n (queue_of J n).at e ≡ j
  by (event.Disk k i) h = here (nat_eq k n) h where
    here : (b : Bool) → cond {A = Option ℕ} b (Some i) None ≡ Some j → cond b i (queue_of J n).at ≡ j
    here true e = cc
    here false e = cc
  by _ h = cc

  go : (r : Rec) → audit_number_at (named_by r) n ≡ Some j → (jobs_step n (queue_of J n) r).at ≡ j
  go (rec.Event i e) h = by e h
  go (rec.Inner e) h = by e h
  go _ h = cc

-- ---- one record more

size-found : (sizes : List (List ℕ × ℕ)) (path : List ℕ) → size_of (audit_files_of sizes) path ≡ size_or_0 (size_in sizes path)
size-found sizes path = go (size_in sizes path) where
  go : (o : Option ℕ) → bytes_of_file (option_map (λ size. replicate size 0) o) ≡ size_or_0 o
  go None = refl
  go (Some size) = length-replicate size 0

-- the job that is read is the one that was named
number-read : (named : Option (ℕ × ℕ)) (k j : ℕ) → audit_number_at named k ≡ Some j → number_or_0 named ≡ j
number-read None k j e = cc
number-read (Some (n, i)) k j e = go (nat_eq n k) e where
  go : (b : Bool) → cond {A = Option ℕ} b (Some i) None ≡ Some j → i ≡ j
  go true e = cc
  go false e = cc

told-without : (xs : List Job) (j : ℕ) → map audit_told (audit_without_job xs j) ≡ without_waiting (map audit_told xs) j
told-without xs j = go (nat_eq j 0) where
  go : (b : Bool) → map audit_told (cond b xs (remove xs (j - 1))) ≡ cond b (map audit_told xs) (remove (map audit_told xs) (j - 1))
  go true = refl
  go false = map-remove audit_told xs (j - 1)

module _ (sizes : List (List ℕ × ℕ)) (limit : ℕ) (nodes : List Node) (J : List Rec) (n : ℕ) (h : IsNodeOf (audit_files_of sizes) limit nodes J n) (some : 1 ≤ n) where
  abbrev start : Recency
  start = record { entries = []; limit = limit }

  -- a record that says nothing of its cache and of its jobs
  aside : (r : Rec) (new : List Node) → slice_get new (n - 1) ≡ slice_get nodes (n - 1) → cache_step (audit_files_of sizes) n (cache_of (audit_files_of sizes) limit J n) r ≡ cache_of (audit_files_of sizes) limit J n
      → (jobs_step n (queue_of J n) r).list ≡ jobs J n → IsNodeOf (audit_files_of sizes) limit new (J ++ r ∷ []) n
  aside r new same cache queue = record {
    node = h.node;
    there = same ∙ h.there;
    cache = once-more (cache_step (audit_files_of sizes) n) start J r ∙ cache ∙ h.cache;
    queue = ap (λ (q : Queue). q.list) (once-more (jobs_step n) no_jobs J r) ∙ queue ∙ h.queue;
  }

  hit-more : (k : ℕ) (path : List ℕ) → 1 ≤ k → IsNodeOf (audit_files_of sizes) limit (audit_changed nodes k (hit_by path)) (J ++ rec.Hit k path ∷ []) n
  hit-more k path some_k = by_number _ k n same other where
    same : k ≡ n → IsNodeOf (audit_files_of sizes) limit (audit_changed nodes k (hit_by path)) (J ++ rec.Hit k path ∷ []) n
    same e = record {
      node = hit_by path h.node;
      there = subst (λ (i : ℕ). slice_get (audit_changed nodes i (hit_by path)) (n - 1) ≡ Some (hit_by path h.node)) (sym e) (changed-same nodes n h.node (hit_by path) h.there);
      cache =
          once-more (cache_step (audit_files_of sizes) n) start J (rec.Hit k path)
          ∙ ap (λ (b : Bool). cond b (record (cache_of (audit_files_of sizes) limit J n) { entries = after_hit (cache_of (audit_files_of sizes) limit J n).entries path }) (cache_of (audit_files_of sizes) limit J n)) (eq-eqb k n e)
          ∙ ap (λ (c : Recency). record c { entries = after_hit c.entries path }) h.cache;
      queue = ap (λ (q : Queue). q.list) (once-more (jobs_step n) no_jobs J (rec.Hit k path)) ∙ h.queue;
    }

    other : k ≢ n → IsNodeOf (audit_files_of sizes) limit (audit_changed nodes k (hit_by path)) (J ++ rec.Hit k path ∷ []) n
    other apart = aside (rec.Hit k path) (audit_changed nodes k (hit_by path)) (changed-other nodes k n (hit_by path) some_k some apart)
        (ap (λ (b : Bool). cond b (record (cache_of (audit_files_of sizes) limit J n) { entries = after_hit (cache_of (audit_files_of sizes) limit J n).entries path }) (cache_of (audit_files_of sizes) limit J n)) (other_number k n apart)) refl

  queued-more : (k : ℕ) (job : Job) → 1 ≤ k → IsNodeOf (audit_files_of sizes) limit (audit_changed nodes k (queued_by job)) (J ++ rec.Queued k job.m job.c job.r job.path ∷ []) n
  queued-more k job some_k = by_number _ k n same other where
    same : k ≡ n → IsNodeOf (audit_files_of sizes) limit (audit_changed nodes k (queued_by job)) (J ++ rec.Queued k job.m job.c job.r job.path ∷ []) n
    same e = record {
      node = queued_by job h.node;
      there = subst (λ (i : ℕ). slice_get (audit_changed nodes i (queued_by job)) (n - 1) ≡ Some (queued_by job h.node)) (sym e) (changed-same nodes n h.node (queued_by job) h.there);
      cache = once-more (cache_step (audit_files_of sizes) n) start J (rec.Queued k job.m job.c job.r job.path) ∙ h.cache;
      queue =
          ap (λ (q : Queue). q.list) (once-more (jobs_step n) no_jobs J (rec.Queued k job.m job.c job.r job.path))
          ∙ ap (λ (b : Bool). (cond b (record (queue_of J n) { list = (queue_of J n).list ++ audit_told job ∷ [] }) (queue_of J n)).list) (eq-eqb k n e)
          ∙ ap (λ (l : List Waiting). l ++ audit_told job ∷ []) h.queue
          ∙ sym (map-append audit_told h.node.jobs (job ∷ []));
    }

    other : k ≢ n → IsNodeOf (audit_files_of sizes) limit (audit_changed nodes k (queued_by job)) (J ++ rec.Queued k job.m job.c job.r job.path ∷ []) n
    other apart = aside (rec.Queued k job.m job.c job.r job.path) (audit_changed nodes k (queued_by job)) (changed-other nodes k n (queued_by job) some_k some apart) refl
        (ap (λ (b : Bool). (cond b (record (queue_of J n) { list = (queue_of J n).list ++ audit_told job ∷ [] }) (queue_of J n)).list) (other_number k n apart))

  read-more : (k m c r j : ℕ) (path : List ℕ) (size : ℕ) → 1 ≤ k → (queue_of J k).at ≡ j → size_of (audit_files_of sizes) path ≡ size
      → IsNodeOf (audit_files_of sizes) limit (audit_changed nodes k (read_by j path size)) (J ++ rec.Read k m c r path ∷ []) n
  read-more k m c r j path size some_k at bytes = by_number _ k n same other where
    same : k ≡ n → IsNodeOf (audit_files_of sizes) limit (audit_changed nodes k (read_by j path size)) (J ++ rec.Read k m c r path ∷ []) n
    same e = record {
      node = read_by j path size h.node;
      there = subst (λ (i : ℕ). slice_get (audit_changed nodes i (read_by j path size)) (n - 1) ≡ Some (read_by j path size h.node)) (sym e) (changed-same nodes n h.node (read_by j path size) h.there);
      cache =
          once-more (cache_step (audit_files_of sizes) n) start J (rec.Read k m c r path)
          ∙ ap (λ (b : Bool). cond b (after_put (cache_of (audit_files_of sizes) limit J n) path (size_of (audit_files_of sizes) path)) (cache_of (audit_files_of sizes) limit J n)) (eq-eqb k n e)
          ∙ ap (λ (c : Recency). after_put c path (size_of (audit_files_of sizes) path)) h.cache ∙ ap (after_put h.node.cache path) bytes;
      queue =
          ap (λ (q : Queue). q.list) (once-more (jobs_step n) no_jobs J (rec.Read k m c r path))
          ∙ ap (λ (b : Bool). (cond b (record (queue_of J n) { list = without_waiting (queue_of J n).list (queue_of J n).at }) (queue_of J n)).list) (eq-eqb k n e)
          ∙ ap (without_waiting (queue_of J n).list) (subst (λ (i : ℕ). (queue_of J i).at ≡ j) e at)
          ∙ ap (λ (l : List Waiting). without_waiting l j) h.queue
          ∙ sym (told-without h.node.jobs j);
    }

    other : k ≢ n → IsNodeOf (audit_files_of sizes) limit (audit_changed nodes k (read_by j path size)) (J ++ rec.Read k m c r path ∷ []) n
    other apart = aside (rec.Read k m c r path) (audit_changed nodes k (read_by j path size)) (changed-other nodes k n (read_by j path size) some_k some apart)
        (ap (λ (b : Bool). cond b (after_put (cache_of (audit_files_of sizes) limit J n) path (size_of (audit_files_of sizes) path)) (cache_of (audit_files_of sizes) limit J n)) (other_number k n apart))
        (ap (λ (b : Bool). (cond b (record (queue_of J n) { list = without_waiting (queue_of J n).list (queue_of J n).at }) (queue_of J n)).list) (other_number k n apart))

  -- a record is noted that keeps the rule
  pub nodes-more : (named : Option (ℕ × ℕ)) (r : Rec) → ((k j : ℕ) → audit_number_at named k ≡ Some j → (queue_of J k).at ≡ j) → IsAtNode r
      → keeps_cache sizes (entries_at nodes) (λ k. audit_job_at (audit_jobs_at nodes k) (audit_number_at named k)) r ≡ true → IsNodeOf (audit_files_of sizes) limit (nodes_step sizes named nodes r) (J ++ r ∷ []) n
  nodes-more named (rec.Hit k path) reads at keeps = hit-more k path at.0
  nodes-more named (rec.Queued k m c r path) reads at keeps = queued-more k (record { m = m; c = c; r = r; path = path }) at.0
  nodes-more named (rec.Read k m c r path) reads at keeps = go (audit_number_at named k) refl keeps where
    go : (o : Option ℕ) → audit_number_at named k ≡ o → is_audit_job (audit_job_at (audit_jobs_at nodes k) o) m c r path ≡ true
        → IsNodeOf (audit_files_of sizes) limit (audit_changed nodes k (read_by (number_or_0 named) path (size_or_0 (size_in sizes path)))) (J ++ rec.Read k m c r path ∷ []) n
    go None e is = let f : false ≡ true = is in absurd cc
    go (Some j) e is = read-more k m c r (number_or_0 named) path (size_or_0 (size_in sizes path)) at.0 (reads k j e ∙ sym (number-read named k j e)) (size-found sizes path)
  nodes-more named (rec.Event i e) reads at keeps = aside (rec.Event i e) nodes refl refl refl
  nodes-more named r reads at keeps = aside r nodes refl refl refl
