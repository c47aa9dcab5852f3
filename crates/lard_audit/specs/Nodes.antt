-- What is kept of caches and disks, and what each record changes of it.
use Rattle.std.specs.Prelude.{ℕ, ◌-◌, ◌≤◌, nat_eq, List, [], ◌∷◌, ◌++◌, map, slice_get, slice_set, Option, Some, None, if◌then◌else◌}
use Rattle.lard_base.specs.declared.event.Event.{Event}
use Rattle.lard_base.specs.declared.event.Event.TheVariants as event
use Rattle.lard_cache.specs.Recency.{after_hit, after_put}
use Rattle.lard_counts.specs.Stores.{Waiting}
use Rattle.lard_journal.specs.declared.rec.Rec.{Rec}
use Rattle.lard_journal.specs.declared.rec.Rec.TheVariants as rec
use Rattle.lard_audit.specs.declared.nodes.Node.{Node}
use Rattle.lard_audit.specs.declared.queue.Job.{Job}
use Rattle.lard_audit.specs.Queue.{audit_told, audit_without_job}
use Rattle.lard_audit.specs.Sound.{size_in}

-- a node with an empty cache of so many bytes, and no job
abbrev pub idle : ℕ → Node
idle bytes = record { cache = record { entries = []; limit = bytes }; jobs = [] }

abbrev pub entries_of : Option Node → List (List ℕ × ℕ)
entries_of None = []
entries_of (Some x) = x.cache.entries

-- what node n has in its cache
abbrev pub entries_at : List Node → ℕ → List (List ℕ × ℕ)
entries_at nodes n = entries_of (slice_get nodes (n - 1))

abbrev pub audit_jobs_of : Option Node → List Job
audit_jobs_of None = []
audit_jobs_of (Some x) = x.jobs

-- the jobs that wait at node n
abbrev pub audit_jobs_at : List Node → ℕ → List Waiting
audit_jobs_at nodes n = map audit_told (audit_jobs_of (slice_get nodes (n - 1)))

-- the job that the record before named, with its node
abbrev pub named_by_event : Event → Option (ℕ × ℕ)
named_by_event (event.Disk n j) = Some (n, j)
named_by_event _ = None

abbrev pub named_by : Rec → Option (ℕ × ℕ)
named_by (rec.Event i e) = named_by_event e
named_by (rec.Inner e) = named_by_event e
named_by _ = None

-- its number, if it is one of node n
abbrev pub audit_number_at : Option (ℕ × ℕ) → ℕ → Option ℕ
audit_number_at None n = None
audit_number_at (Some (k, j)) n = if nat_eq k n then Some j else None

abbrev pub number_or_0 : Option (ℕ × ℕ) → ℕ
number_or_0 None = 0
number_or_0 (Some (k, j)) = j

abbrev pub size_or_0 : Option ℕ → ℕ
size_or_0 None = 0
size_or_0 (Some size) = size

abbrev pub set_node : List Node → ℕ → Option Node → (Node → Node) → List Node
set_node nodes at None f = nodes
set_node nodes at (Some x) f = slice_set nodes at (f x)

-- the nodes once node n is changed
abbrev pub audit_changed : List Node → ℕ → (Node → Node) → List Node
audit_changed nodes n f = set_node nodes (n - 1) (slice_get nodes (n - 1)) f

abbrev pub hit_by : List ℕ → Node → Node
hit_by path x = record x { cache = record x.cache { entries = after_hit x.cache.entries path } }

abbrev pub queued_by : Job → Node → Node
queued_by job x = record x { jobs = x.jobs ++ job ∷ [] }

abbrev pub read_by : ℕ → List ℕ → ℕ → Node → Node
read_by j path size x = record { cache = after_put x.cache path size; jobs = audit_without_job x.jobs j }

abbrev pub nodes_step : List (List ℕ × ℕ) → Option (ℕ × ℕ) → List Node → Rec → List Node
nodes_step files named nodes (rec.Hit n path) = audit_changed nodes n (hit_by path)
nodes_step files named nodes (rec.Queued n m c r path) = audit_changed nodes n (queued_by (record { m = m; c = c; r = r; path = path }))
nodes_step files named nodes (rec.Read n m c r path) = audit_changed nodes n (read_by (number_or_0 named) path (size_or_0 (size_in files path)))
nodes_step files named nodes _ = nodes

-- the node that a record names, where it is one of its caches and disks, is one of the 64
abbrev pub IsAtNode : Rec → Type 0
IsAtNode (rec.Hit n path) = (1 ≤ n) × (n ≤ 64)
IsAtNode (rec.Queued n m c r path) = (1 ≤ n) × (n ≤ 64)
IsAtNode (rec.Read n m c r path) = (1 ≤ n) × (n ≤ 64)
IsAtNode _ = Unit {0}
