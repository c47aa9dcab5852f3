-- What a node notes of its disk and its cache in a turn, and what that makes of what the journal tells.
use Rattle.std.proofs.Common.{◌≡◌, ◌≢◌, ℕ, Bool, true, false, cond, nat_eq, is_some, List, [], ◌∷◌, ◌++◌, map, refl, sym, ap, ◌∙◌, subst, append_assoc, append-nil}
use Rattle.std.proofs.lemmas.List.{map-append}
use Rattle.std.proofs.lemmas.List.Sums.{fold-append}
use Rattle.std.specs.List.{fold}
use Rattle.lard_law_view.specs.Prelude.{EachMay, FilesAt, Job, Rec, Recency, after_hit, has_path, hit_step, hits}
use Rattle.lard_law_connections.specs.StoresLaws.{MayStore, job_told}
use Rattle.lard_counts.specs.Stores.{Queue, Waiting, cache_of, cache_step, cached, jobs, jobs_step, no_jobs, queue_of}
use Rattle.lard_law_connections.proofs.StoresAsides.{IsAside, aside}
use Rattle.lard_law_connections.proofs.StoresHits.{hit-has}
use Rattle.lard_history.proofs.Each.{Each, Each-append}
use Rattle.lard_history.proofs.Seeing.{other_number, same_number}
use Rattle.lard_journal.specs.declared.rec.Rec.TheVariants as rec

-- ---- what a turn notes

-- Node n brings to the front what its cache has, and queues a job for the path of a file that it has not; no job is read.
abbrev pub MayNote : ℕ → FilesAt → (List ℕ → Bool) → Rec → Type 0
MayNote n files has (rec.Hit k path) = (k ≡ n) × (has path ≡ true)
MayNote n files has (rec.Queued k m c r path) = (k ≡ n) × (has path ≡ false) × (is_some (files path) ≡ true)
MayNote n files has r = IsAside r

-- the jobs that are queued
abbrev pub queued_by : Rec → List Waiting
queued_by (rec.Queued k m c r path) = (m, c, r, path) ∷ []
queued_by _ = []

abbrev pub queued : List Rec → List Waiting
queued [] = []
queued (r ∷ rs) = queued_by r ++ queued rs

-- These notes tell these jobs, in their order, and no others.
pub record Tells (n : ℕ) (files : FilesAt) (has : List ℕ → Bool) (notes : List Rec) (given : List Job) : Type 0 where
  pub told : queued notes ≡ map job_told given
  pub each : Each (MayNote n files has) notes

queued-append : (xs ys : List Rec) → queued (xs ++ ys) ≡ queued xs ++ queued ys
queued-append [] ys = refl
queued-append (x ∷ xs) ys = ap (λ zs. queued_by x ++ zs) (queued-append xs ys) ∙ sym (append_assoc (queued_by x) (queued xs) (queued ys))

-- one more note, with the jobs that it tells
pub one-more : (n : ℕ) (files : FilesAt) (has : List ℕ → Bool) (notes : List Rec) (given : List Job) (r : Rec) (more : List Job) → Tells n files has notes given → queued_by r ≡ map job_told more → MayNote n files has r
    → Tells n files has (notes ++ r ∷ []) (given ++ more)
one-more n files has notes given r more t is may = record {
  told = queued-append notes (r ∷ []) ∙ (λ i. t.told i ++ (append-nil (queued_by r) ∙ is) i) ∙ sym (map-append job_told given more);
  each = Each-append (MayNote n files has) notes (r ∷ []) t.each (may, tt);
}

pub no-more : (n : ℕ) (files : FilesAt) (has : List ℕ → Bool) (notes : List Rec) (given : List Job) (r : Rec) → Tells n files has notes given → queued_by r ≡ [] → MayNote n files has r → Tells n files has (notes ++ r ∷ []) given
no-more n files has notes given r t none may = subst (Tells n files has (notes ++ r ∷ [])) (append-nil given) (one-more n files has notes given r [] t none may)

-- ---- what the journal tells then

-- the disk and the cache of a node are those that a journal tells
pub record IsKept (files : FilesAt) (limit : ℕ) (J : List Rec) (n : ℕ) (cache : Recency) (disk : List Job) : Type 0 where
  pub jobs_are : jobs J n ≡ map job_told disk
  pub cache_is : cache_of files limit J n ≡ cache

-- a test of the node's own number
pub own-test : {A : Type 0} (k n : ℕ) (x y : A) → k ≡ n → cond (nat_eq k n) x y ≡ x
own-test k n x y same = ap (λ b. cond b x y) (ap (λ j. nat_eq j n) same ∙ same_number n)

pub other-test : {A : Type 0} (k n : ℕ) (x y : A) → k ≢ n → cond (nat_eq k n) x y ≡ y
other-test k n x y other = ap (λ b. cond b x y) (other_number k n other)

module _ (n : ℕ) (files : FilesAt) (has_ : List ℕ → Bool) where
  one-jobs : (q : Queue) (r : Rec) → MayNote n files has_ r → (jobs_step n q r).list ≡ q.list ++ queued_by r
  one-jobs q (rec.Queued k m c r path) h = ap (λ (x : Queue). x.list) (own-test k n (record q { list = q.list ++ (m, c, r, path) ∷ [] }) q h.0)
  one-jobs q (rec.Hit k path) h = sym (append-nil q.list)
  one-jobs q r h = (aside r h).jobs n q ∙ sym (append-nil q.list)

  jobs-noted : (q : Queue) (notes : List Rec) → Each (MayNote n files has_) notes → (fold (jobs_step n) q notes).list ≡ q.list ++ queued notes
  jobs-noted q [] e = sym (append-nil q.list)
  jobs-noted q (r ∷ rs) e = jobs-noted (jobs_step n q r) rs e.1 ∙ ap (λ xs. xs ++ queued rs) (one-jobs q r e.0) ∙ append_assoc q.list (queued_by r) (queued rs)

  one-cache : (cache : Recency) (r : Rec) → MayNote n files has_ r → cache_step files n cache r ≡ record cache { entries = hit_step cache.entries r }
  one-cache cache (rec.Hit k path) h = own-test k n (record cache { entries = after_hit cache.entries path }) cache h.0
  one-cache cache (rec.Queued k m c r path) h = refl
  one-cache cache r h = (aside r h).cache files n cache

  cache-noted : (cache : Recency) (notes : List Rec) → Each (MayNote n files has_) notes → fold (cache_step files n) cache notes ≡ hits notes cache
  cache-noted cache [] e = refl
  cache-noted cache (r ∷ rs) e = ap (λ (x : Recency). fold (cache_step files n) x rs) (one-cache cache r e.0) ∙ cache-noted (record cache { entries = hit_step cache.entries r }) rs e.1

  -- a turn of this node
  pub notes-kept : (limit : ℕ) (J notes : List Rec) (cache : Recency) (disk given : List Job) → Tells n files has_ notes given → IsKept files limit J n cache disk
      → IsKept files limit (J ++ notes) n (hits notes cache) (disk ++ given)
  notes-kept limit J notes cache disk given t k = record {
    jobs_are =
        ap (λ (q : Queue). q.list) (fold-append (jobs_step n) no_jobs J notes)
        ∙ jobs-noted (queue_of J n) notes t.each
        ∙ (λ i. k.jobs_are i ++ t.told i)
        ∙ sym (map-append job_told disk given);
    cache_is = fold-append (cache_step files n) (record { entries = []; limit = limit }) J notes ∙ cache-noted (cache_of files limit J n) notes t.each ∙ ap (hits notes) k.cache_is;
  }

  -- a turn of another one
  other-jobs : (k : ℕ) (q : Queue) (notes : List Rec) → n ≢ k → Each (MayNote n files has_) notes → (fold (jobs_step k) q notes).list ≡ q.list
  other-jobs k q [] other e = refl
  other-jobs k q (r ∷ rs) other e = other-jobs k (jobs_step k q r) rs other e.1 ∙ one r e.0 where
    one : (r : Rec) → MayNote n files has_ r → (jobs_step k q r).list ≡ q.list
    one (rec.Queued j m c r path) h = ap (λ (x : Queue). x.list) (other-test j k (record q { list = q.list ++ (m, c, r, path) ∷ [] }) q (λ same. other (sym h.0 ∙ same)))
    one (rec.Hit j path) h = refl
    one r h = (aside r h).jobs k q

  other-cache : (k : ℕ) (cache : Recency) (notes : List Rec) → n ≢ k → Each (MayNote n files has_) notes → fold (cache_step files k) cache notes ≡ cache
  other-cache k cache [] other e = refl
  other-cache k cache (r ∷ rs) other e = ap (λ (x : Recency). fold (cache_step files k) x rs) (one r e.0) ∙ other-cache k cache rs other e.1 where
    one : (r : Rec) → MayNote n files has_ r → cache_step files k cache r ≡ cache
    one (rec.Hit j path) h = other-test j k (record cache { entries = after_hit cache.entries path }) cache (λ same. other (sym h.0 ∙ same))
    one (rec.Queued j m c r path) h = refl
    one r h = (aside r h).cache files k cache

  pub others-kept : (limit k : ℕ) (J notes : List Rec) (cache : Recency) (disk : List Job) → n ≢ k → Each (MayNote n files has_) notes → IsKept files limit J k cache disk → IsKept files limit (J ++ notes) k cache disk
  others-kept limit k J notes cache disk other e kept = record {
    jobs_are = ap (λ (q : Queue). q.list) (fold-append (jobs_step k) no_jobs J notes) ∙ other-jobs k (queue_of J k) notes other e ∙ kept.jobs_are;
    cache_is = fold-append (cache_step files k) (record { entries = []; limit = limit }) J notes ∙ other-cache k (cache_of files limit J k) notes other e ∙ kept.cache_is;
  }

  -- ---- each note stands where the cache lets it: what goes to the front stays in

  step-has : (cache : Recency) (r : Rec) → MayNote n files has_ r → (path : List ℕ) → has_path (cache_step files n cache r).entries path ≡ has_path cache.entries path
  step-has cache r may path = ap (λ (x : Recency). has_path x.entries path) (one-cache cache r may) ∙ stays r where
    stays : (r : Rec) → has_path (hit_step cache.entries r) path ≡ has_path cache.entries path
    stays (rec.Hit k p) = hit-has cache.entries p path
    stays _ = refl

  pub notes-may : (limit : ℕ) (J notes : List Rec) → Each (MayNote n files has_) notes → ((path : List ℕ) → has_path (cached files limit J n) path ≡ has_ path) → EachMay (MayStore files limit) J notes
  notes-may limit J [] e same = tt
  notes-may limit J (r ∷ rs) e same = (
    one r e.0,
    notes-may limit (J ++ r ∷ []) rs e.1
        (λ path. ap (λ (x : Recency). has_path x.entries path) (fold-append (cache_step files n) (record { entries = []; limit = limit }) J (r ∷ [])) ∙ step-has (cache_of files limit J n) r e.0 path ∙ same path),
  ) where
    one : (r : Rec) → MayNote n files has_ r → MayStore files limit J r
    one (rec.Hit k path) h = ap (λ j. has_path (cached files limit J j) path) h.0 ∙ same path ∙ h.1
    one (rec.Queued k m c r path) h = (ap (λ j. has_path (cached files limit J j) path) h.0 ∙ same path ∙ h.1, h.2)
    one r h = (aside r h).may files limit J
