-- What a journal says of a node's disk and of its cache: folds over its records, the oldest first.
use Rattle.std.specs.Prelude.{ℕ, ◌-◌, nat_eq, List, [], ◌∷◌, ◌++◌, length, remove, slice_get, Option, Some, None, if◌then◌else◌}
use Rattle.std.specs.List.{fold}
use Rattle.lard_answers.specs.Answers.{FilesAt}
use Rattle.lard_base.specs.declared.event.Event.{Event}
use Rattle.lard_base.specs.declared.event.Event.TheVariants as event
use Rattle.lard_cache.specs.Recency.{Recency, after_hit, after_put}
use Rattle.lard_journal.specs.declared.rec.Rec.{Rec}
use Rattle.lard_journal.specs.declared.rec.Rec.TheVariants as rec

-- ---- disks

-- A job that waits: for which node, connection and request, and the path that is to be read. The journal names no epochs.
abbrev pub Waiting : Type 0
Waiting = ℕ × ℕ × ℕ × List ℕ

-- the j-th job from the oldest, counted from 1, if there is one
abbrev pub waiting_at : List Waiting → ℕ → Option Waiting
waiting_at jobs j = if nat_eq j 0 then None else slice_get jobs (j - 1)

-- the jobs once the j-th is read; where there is none they are as they were
abbrev pub without_waiting : List Waiting → ℕ → List Waiting
without_waiting jobs j = if nat_eq j 0 then jobs else remove jobs (j - 1)

-- The jobs of a disk, the oldest first, and which of them the last event of that disk completes.
pub record Queue : Type 0 where
  pub at : ℕ
  pub list : List Waiting

abbrev pub no_jobs : Queue
no_jobs = record { at = 0; list = [] }

-- the number in an event of node n's disk
abbrev pub at_step : ℕ → ℕ → Event → ℕ
at_step n at (event.Disk k j) = if nat_eq k n then j else at
at_step n at _ = at

-- a job is queued behind all others, and that one is read which the event names
abbrev pub jobs_step : ℕ → Queue → Rec → Queue
jobs_step n q (rec.Event i e) = record q { at = at_step n q.at e }
jobs_step n q (rec.Inner e) = record q { at = at_step n q.at e }
jobs_step n q (rec.Queued k m c r path) = if nat_eq k n then record q { list = q.list ++ (m, c, r, path) ∷ [] } else q
jobs_step n q (rec.Read k m c r path) = if nat_eq k n then record q { list = without_waiting q.list q.at } else q
jobs_step n q _ = q

-- the disk of node n
abbrev pub queue_of : List Rec → ℕ → Queue
queue_of J n = fold (jobs_step n) no_jobs J

-- the jobs that wait there: those that were queued and not yet read
abbrev pub jobs : List Rec → ℕ → List Waiting
jobs J n = (queue_of J n).list

-- ---- caches

-- how many bytes the file of a path has
abbrev pub bytes_of_file : Option (List ℕ) → ℕ
bytes_of_file None = 0
bytes_of_file (Some bytes) = length bytes

abbrev pub size_of : FilesAt → List ℕ → ℕ
size_of files path = bytes_of_file (files path)

-- A hit brings its path to the front. A file that was read goes to the front, unless it is larger than the cache, and others drop
-- from the end.
abbrev pub cache_step : FilesAt → ℕ → Recency → Rec → Recency
cache_step files n cache (rec.Hit k path) = if nat_eq k n then record cache { entries = after_hit cache.entries path } else cache
cache_step files n cache (rec.Read k m c r path) = if nat_eq k n then after_put cache path (size_of files path) else cache
cache_step files n cache _ = cache

-- the cache of node n, which is for files of `limit` bytes in all
abbrev pub cache_of : FilesAt → ℕ → List Rec → ℕ → Recency
cache_of files limit J n = fold (cache_step files n) (record { entries = []; limit = limit }) J

-- the paths that it has with the bytes of their files, the most recent first
abbrev pub cached : FilesAt → ℕ → List Rec → ℕ → List (List ℕ × ℕ)
cached files limit J n = (cache_of files limit J n).entries
