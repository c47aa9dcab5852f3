-- What is so of disks and caches in every run.
use Rattle.std.specs.Prelude.{◌≡◌, ℕ, Bool, true, false, is_some, List, [], ◌∷◌, length, map, Some}
use Rattle.std.specs.List.{AllByRecursion}
use Rattle.lard_law_view.specs.Prelude.{Config, EachMay, EachStep, Event, FilesAt, IsReached, Job, Machine, NodeState, Rec, file_at, has_path, last_event, node_at, steps}
use Rattle.lard_base.specs.declared.event.Event.TheVariants.{Disk}
use Rattle.lard_counts.specs.Stores.{Waiting, cached, jobs, waiting_at}
use Rattle.lard_journal.specs.declared.rec.Rec.TheVariants as rec

-- it is so of each node in every state that events lead to
abbrev pub OfEachNode : (Config → List (List ℕ × List ℕ) → List Rec → ℕ → NodeState → Type 0) → Type 0
OfEachNode P = (config : Config) (files : List (List ℕ × List ℕ)) (m : Machine) → IsReached config files m → (n : ℕ) (s : NodeState) → node_at m.nodes n ≡ Some s → P config files m.journal n s

-- ---- disks

-- a job as the journal tells it
abbrev pub job_told : Job → Waiting
job_told job = (job.origin, job.c, job.r, job.path)

-- The journal tells the jobs of a disk, and so how many there are.
abbrev pub JobsAreTold : Type 0
JobsAreTold = OfEachNode (λ config files J n s. (jobs J n ≡ map job_told s.disk) × (length (jobs J n) ≡ length s.disk))

-- ---- caches

-- It tells which paths a cache has, in their order, and the bytes of their files.
abbrev pub CachesAreTold : Type 0
CachesAreTold = OfEachNode (λ config files J n s. cached (file_at files) config.cache J n ≡ s.cache.entries)

-- ---- records

-- A hit is of a path that the cache has. A job is queued for one that it has not, and that a file has. What is read is the job that
-- the event of the step names.
abbrev pub MayStore : FilesAt → ℕ → List Rec → Rec → Type 0
MayStore files limit past (rec.Hit n path) = has_path (cached files limit past n) path ≡ true
MayStore files limit past (rec.Queued n m c r path) = (has_path (cached files limit past n) path ≡ false) × (is_some (files path) ≡ true)
MayStore files limit past (rec.Read n m c r path) = (j : ℕ) × (last_event past ≡ Some (Disk n j)) × (waiting_at (jobs past n) j ≡ Some (m, c, r, path))
MayStore files limit past _ = Unit {0}

abbrev pub StoresAreLawful : Type 0
StoresAreLawful = (config : Config) (files : List (List ℕ × List ℕ)) (m : Machine) → IsReached config files m → EachMay (MayStore (file_at files) config.cache) [] m.journal

-- ---- steps

abbrev pub is_read : Rec → Bool
is_read (rec.Read n m c r path) = true
is_read _ = false

-- no job is read
abbrev pub NoneRead : List Rec → Type 0
NoneRead rs = AllByRecursion (λ r. is_read r ≡ false) rs

-- Directly behind the event of a disk stands the job that it names, which is read; no other is. In no other step is one read.
abbrev pub CompletesJob : List Rec → Event → List Rec → Type 0
CompletesJob past (Disk n j) rs = (job : Waiting) × (rest : List Rec) × (waiting_at (jobs past n) j ≡ Some job) × (rs ≡ rec.Read n job.0 job.1 job.2 job.3 ∷ rest) × NoneRead rest
CompletesJob past _ rs = NoneRead rs

abbrev pub MustRead : List Rec → List Rec → Type 0
MustRead past (rec.Event i e ∷ rs) = CompletesJob past e rs
MustRead past (rec.Inner e ∷ rs) = CompletesJob past e rs
MustRead past _ = Unit {0}

abbrev pub DisksAreRead : Type 0
DisksAreRead = (config : Config) (files : List (List ℕ × List ℕ)) (m : Machine) → IsReached config files m → EachStep MustRead [] (steps m.journal)
