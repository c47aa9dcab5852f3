-- Records that say nothing of disks and caches.
use Rattle.std.proofs.Common.{◌≡◌, ℕ, false, List, [], ◌∷◌, ◌++◌, refl, ap, ◌∙◌}
use Rattle.std.proofs.lemmas.List.Sums.{fold-append}
use Rattle.std.specs.List.{fold}
use Rattle.lard_law_view.specs.Prelude.{Client, EachMay, FilesAt, Front, Node, Place, Rec, Recency}
use Rattle.lard_law_connections.proofs.Calm.{Allows, AllowsNotes}
use Rattle.lard_law_connections.specs.StoresLaws.{MayStore, is_read}
use Rattle.lard_counts.specs.Stores.{Queue, cache_of, cache_step, jobs, jobs_step, no_jobs, queue_of}
use Rattle.lard_law_view.proofs.Saying.{NamesAll, NamesNobody, NotedAt}
use Rattle.lard_history.proofs.Each.{Each}
use Rattle.lard_journal.specs.declared.rec.Rec.TheVariants as rec

-- it is none of a disk or a cache
abbrev pub IsAside : Rec → Type 0
IsAside (rec.Hit n path) = ⊥
IsAside (rec.Queued n m c r path) = ⊥
IsAside (rec.Read n m c r path) = ⊥
IsAside _ = Unit {0}

-- No disk and no cache changes by it, no job is read, and it may stand anywhere.
pub record ChangesNothing (r : Rec) : Type 0 where
  pub jobs : (n : ℕ) (q : Queue) → (jobs_step n q r).list ≡ q.list
  pub cache : (files : FilesAt) (n : ℕ) (cache : Recency) → cache_step files n cache r ≡ cache
  pub may : (files : FilesAt) (limit : ℕ) (past : List Rec) → MayStore files limit past r
  pub unread : is_read r ≡ false

pub aside : (r : Rec) → IsAside r → ChangesNothing r
aside (rec.Hit n path) h = absurd h
aside (rec.Queued n m c r path) h = absurd h
aside (rec.Read n m c r path) h = absurd h
aside _ h = record { jobs = λ n q. refl; cache = λ files n x. refl; may = λ files limit past. tt; unread = refl }

-- ---- many of them

pub asides-jobs : (n : ℕ) (q : Queue) (rs : List Rec) → Each IsAside rs → (fold (jobs_step n) q rs).list ≡ q.list
asides-jobs n q [] e = refl
asides-jobs n q (r ∷ rs) e = asides-jobs n (jobs_step n q r) rs e.1 ∙ (aside r e.0).jobs n q

pub asides-cache : (files : FilesAt) (n : ℕ) (cache : Recency) (rs : List Rec) → Each IsAside rs → fold (cache_step files n) cache rs ≡ cache
asides-cache files n cache [] e = refl
asides-cache files n cache (r ∷ rs) e = ap (λ (x : Recency). fold (cache_step files n) x rs) ((aside r e.0).cache files n cache) ∙ asides-cache files n cache rs e.1

pub asides-may : (files : FilesAt) (limit : ℕ) (past rs : List Rec) → Each IsAside rs → EachMay (MayStore files limit) past rs
asides-may files limit past [] e = tt
asides-may files limit past (r ∷ rs) e = ((aside r e.0).may files limit past, asides-may files limit (past ++ r ∷ []) rs e.1)

-- ---- which records are

-- what is no note, and what a client or the front end notes
pub allows-aside : Allows IsAside
allows-aside = record {
  event = λ i e. tt;
  opened = λ c isn iss wnd mss. tt;
  injected = λ c. tt;
  got = λ k. tt;
  lost = λ k. tt;
  sent = λ k from to bytes. tt;
  gave = λ place c epoch. tt;
  armed = λ place c kind. tt;
  cleared = λ place c kind. tt;
}

named-aside : (place : Place) (c : ℕ) (r : Rec) → NamesAll place → NotedAt place c r → IsAside r
named-aside (Client e) c (rec.Wrote d bytes) k h = tt
named-aside (Client e) c (rec.Accepted d bytes) k h = tt
named-aside (Client e) c (rec.Eof d) k h = tt
named-aside (Client e) c (rec.Aborted d) k h = tt
named-aside Front c (rec.Took Front d epoch) k h = tt
named-aside Front c (rec.Served Front d r code size via) k h = tt
named-aside Front c (rec.Reset Front d total) k h = tt
named-aside Front c (rec.Waits d) k h = tt
named-aside Front c (rec.Admitted d) k h = tt
named-aside Front c (rec.AssignedFirst d r path n add remove) k h = tt
named-aside Front c (rec.AssignedLater d r path n add size queue) k h = tt
named-aside Front c (rec.BatchOver d) k h = tt
named-aside Front c (rec.Released d) k h = tt
named-aside (Node n) c r k h = absurd k
named-aside _ c _ k h = absurd h

nobody-aside : (place : Place) (r : Rec) → NamesAll place → NamesNobody place r → IsAside r
nobody-aside Front (rec.Closed n) k h = tt
nobody-aside (Node n) r k h = absurd k
nobody-aside _ _ k h = absurd h

pub note-aside : AllowsNotes NamesAll IsAside
note-aside = record { named = named-aside; nobody = nobody-aside }

-- ---- behind a journal

pub jobs-behind : (n : ℕ) (J rs : List Rec) → Each IsAside rs → jobs (J ++ rs) n ≡ jobs J n
jobs-behind n J rs e = ap (λ (q : Queue). q.list) (fold-append (jobs_step n) no_jobs J rs) ∙ asides-jobs n (queue_of J n) rs e

pub cache-behind : (files : FilesAt) (limit n : ℕ) (J rs : List Rec) → Each IsAside rs → cache_of files limit (J ++ rs) n ≡ cache_of files limit J n
cache-behind files limit n J rs e = fold-append (cache_step files n) (record { entries = []; limit = limit }) J rs ∙ asides-cache files n (cache_of files limit J n) rs e
