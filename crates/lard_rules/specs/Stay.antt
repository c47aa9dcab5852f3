-- How the requests of a stay are read, started and served: what a node has in hand of one connection, turn by turn.
use Rattle.std.specs.Prelude.{ℕ, zero, suc, ◌+◌, ◌-◌, ◌*◌, nat_lt, Bool, true, false, ◌==◌, if◌then◌else◌, List, [], ◌∷◌, ◌++◌, length, Option, Some, None}
use Rattle.std.specs.List.{slice_get}
use Rattle.lard_answers.specs.Answers.{FilesAt, good_path}
use Rattle.lard_base.specs.declared.place.Via.TheVariants as via
use Rattle.lard_disk.specs.declared.disk.Job.{Job}
use Rattle.lard_journal.specs.declared.rec.Rec.{Rec}
use Rattle.lard_journal.specs.declared.rec.Rec.TheVariants as rec
use Rattle.lard_rules.specs.declared.stay.Asked.{Asked}
use Rattle.lard_rules.specs.declared.stay.Entry.{Entry}
use Rattle.lard_rules.specs.declared.stay.Next.{Next}
use Rattle.lard_rules.specs.declared.stay.Next.TheVariants.{Serve, Read, Stop}
use Rattle.lard_rules.specs.declared.stay.Progress.{Progress}
use Rattle.lard_rules.specs.declared.stay.Progress.TheVariants.{Named, Reading, Awaited, Ready}
use Rattle.lard_rules.specs.declared.stay.Want.{Want}
use Rattle.lard_rules.specs.Loop.{Step, More, Done, runs}
use Rattle.lard_reader.specs.Batches.{batch_of, bytes_used}
use Rattle.lard_request.specs.declared.verdict.Verdict.{Verdict}
use Rattle.lard_rules.specs.Serving.{ServeEnv, Service, answered, serving_consumed, ended_at_fin, may_read}

-- What the rules rest on beside the connection's state.
pub record NodeEnv : Type 0 where
  pub serve : ServeEnv  -- the place that serves is the node
  pub n : ℕ  -- its number
  pub epoch : ℕ  -- that of the stay
  pub cached : List ℕ → Bool  -- which paths its cache has; what starts in a turn changes none of it
  pub queue : ℕ  -- how many jobs its disk had before the turn
  pub leaving : Bool  -- it takes nothing new, and gives back what it has

-- What is in hand: the endpoint and what was served, the requests that were read and are not served, how many Asks were sent;
-- and of this turn the jobs that the disk is given, the contents that are to be fetched, and the Ask that is to be sent.
pub record Work : Type 0 where
  pub service : Service
  pub batch : List Entry
  pub asks : ℕ
  pub jobs : List Job
  pub wants : List Want
  pub asked : Option Asked

abbrev pub noted : List Rec → Service → Service
noted rs s = record s { notes = s.notes ++ rs }

-- a request comes behind those of the batch
abbrev pub entered : Entry → Work → Work
entered e w = record w { batch = w.batch ++ e ∷ [] }

-- ---- a request is started where it is assigned

-- At this node: what the cache has can be served at once, and goes to its front; else a job of the disk reads it.
abbrev pub hit_here : NodeEnv → List ℕ → Verdict → Work → Work
hit_here env path v w = entered (record { verdict = v; progress = Ready via.Cache }) (record w { service = noted (rec.Hit env.n path ∷ []) w.service })

abbrev pub own_job : NodeEnv → ℕ → List ℕ → Job
own_job env r path = record { origin = env.n; c = env.serve.c; epoch = record { 0 = env.epoch }; r = r; path = path }

abbrev pub queued_here : NodeEnv → ℕ → List ℕ → Verdict → Work → Work
queued_here env r path v w =
    entered (record { verdict = v; progress = Reading })
    (record w { service = noted (rec.Queued env.n env.n env.serve.c r path ∷ []) w.service; jobs = w.jobs ++ own_job env r path ∷ [] })

abbrev pub started_here : NodeEnv → ℕ → List ℕ → Verdict → Work → Work
started_here env r path v w = if env.cached path then hit_here env path v w else queued_here env r path v w

-- At another node: its content is to be fetched from there.
abbrev pub started_there : ℕ → ℕ → List ℕ → Verdict → Work → Work
started_there node r path v w = entered (record { verdict = v; progress = Awaited node }) (record w { wants = w.wants ++ record { r = r; node = node; path = path } ∷ [] })

abbrev pub started : NodeEnv → ℕ → ℕ → List ℕ → Verdict → Work → Work
started env node r path v w = if node == env.n then started_here env r path v w else started_there node r path v w

-- ---- a batch is read

-- a request as it is read: one for a file is to be assigned, any other has its answer
abbrev pub progress_of : Option (List ℕ) → Progress
progress_of None = Ready via.Own
progress_of (Some path) = Named

abbrev pub read_entry : FilesAt → Verdict → Entry
read_entry files v = record { verdict = v; progress = progress_of (good_path files v) }

-- A request is entered: the first one for a file is started here, where it was assigned to this node with the connection (`here`).
-- The answer is whether that one is still awaited.
abbrev pub enters_first : NodeEnv → ℕ → Verdict → Work → Option (List ℕ) → Bool × Work
enters_first env r v w None = (true, entered (read_entry env.serve.files v) w)
enters_first env r v w (Some path) = (false, started_here env r path v w)

abbrev pub enters_one : NodeEnv → Bool → ℕ → Verdict → Work → Bool × Work
enters_one env false r v w = (false, entered (read_entry env.serve.files v) w)
enters_one env true r v w = enters_first env r v w (good_path env.serve.files v)

-- The requests of a batch are entered in order, the first with number r.
unfoldable pub enters : NodeEnv → Bool → ℕ → List Verdict → Work → Work
enters env here r [] w = w
enters env here r (v ∷ vs) w = enters env (enters_one env here r v w).0 (r + 1) vs (enters_one env here r v w).1

-- the path that an Ask names for a request, if it does
abbrev pub path_in : FilesAt → Entry → Progress → Option (List ℕ)
path_in files e Named = good_path files e.verdict
path_in files e Reading = None
path_in files e (Awaited node) = None
path_in files e (Ready way) = None

abbrev pub named_path : FilesAt → Entry → Option (List ℕ)
named_path files e = path_in files e e.progress

abbrev pub and_path : Option (List ℕ) → List (List ℕ) → List (List ℕ)
and_path None paths = paths
and_path (Some path) paths = path ∷ paths

-- the paths of the requests that are to be assigned
abbrev pub named_paths : FilesAt → List Entry → List (List ℕ)
named_paths files [] = []
named_paths files (e ∷ es) = and_path (named_path files e) (named_paths files es)

-- An Ask names them, with the size of the batch and the queue of the disk at this moment; where there are none it is not sent.
abbrev pub asks_for : NodeEnv → ℕ → List (List ℕ) → Work → Work
asks_for env size [] w = w
asks_for env size (path ∷ paths) w =
    record w { asks = w.asks + 1; asked = Some (record { number = w.asks + 1; queue = env.queue + length w.jobs; size = size; paths = path ∷ paths }) }

abbrev pub asking : NodeEnv → ℕ → Work → Work
asking env size w = asks_for env size (named_paths env.serve.files w.batch) w

-- These verdicts are the next batch, and these bytes are used for it. Where there are none, the cluster's FIN follows the
-- client's, and reading stops.
abbrev pub reads_these : NodeEnv → Bool → ℕ → Work → List Verdict → Step Work
reads_these env here used w [] = Done (record w { service = ended_at_fin (serving_consumed used w.service) })
reads_these env here used w (v ∷ vs) =
    More (asking env (length (v ∷ vs)) (enters env here (w.service.count + 1) (v ∷ vs) (record w { service = serving_consumed used w.service })))

-- the next batch of at most eight requests; `here`: the first one for a file was assigned to this node with the connection
abbrev pub reads_batch : NodeEnv → Bool → Work → Step Work
reads_batch env here w = reads_these env here (bytes_used 8 w.service.block.recv.unread) w (batch_of 8 w.service.block.recv.unread)

-- ---- the first request of the batch is served

-- Its response is queued, unless that would pass the stream limit: then it stays where it is.
abbrev pub left_by : Option ℕ → Entry → List Entry → List Entry
left_by None e rest = rest
left_by (Some total) e rest = e ∷ rest

abbrev pub serves_with : Service → Entry → List Entry → Work → Work
serves_with s e rest w = record w { service = s; batch = left_by s.over e rest }

abbrev pub serves_by : NodeEnv → Entry → List Entry → Work → Progress → Work
serves_by env e rest w (Ready way) = serves_with (answered env.serve way e.verdict w.service) e rest w
serves_by env e rest w Named = w
serves_by env e rest w Reading = w
serves_by env e rest w (Awaited node) = w

abbrev pub serves_first : NodeEnv → Work → List Entry → Work
serves_first env w [] = w
serves_first env w (e ∷ rest) = serves_by env e rest w e.progress

abbrev pub stay_serves : NodeEnv → Work → Work
stay_serves env w = serves_first env w w.batch

-- ---- turn by turn

abbrev pub next_by : Progress → Next
next_by (Ready way) = Serve
next_by Named = Stop
next_by Reading = Stop
next_by (Awaited node) = Stop

abbrev pub next_in : List Entry → Next
next_in [] = Read
next_in (e ∷ rest) = next_by e.progress

-- Requests are served in their order, each once it is ready (RFC 9112, 9.3.2); a batch is read once all of the last are served.
abbrev pub next_of : Work → Next
next_of w = if may_read w.service then next_in w.batch else Stop

-- A node that leaves reads no batch.
abbrev pub turned : NodeEnv → Work → Next → Step Work
turned env w Serve = More (stay_serves env w)
turned env w Read = if env.leaving then Done w else reads_batch env false w
turned env w Stop = Done w

abbrev pub stay_turn : NodeEnv → Work → Step Work
stay_turn env w = turned env w (next_of w)

-- what falls with each turn: a request that is read uses a byte at least, and a response that would pass the stream limit is the last
abbrev pub left_over : Option ℕ → ℕ
left_over None = 1
left_over (Some total) = 0

abbrev pub work_left : Work → ℕ
work_left w = 2 * length w.service.block.recv.unread + length w.batch + left_over w.service.over

abbrev pub goes_on : NodeEnv → Work → Work
goes_on env w = runs (stay_turn env) work_left w

-- ---- what came for requests of the batch

-- A request that the Ask names starts at its node. What is not for a file, or has no node, stays as it is. The answer is whether it
-- started.
abbrev pub starts_named : NodeEnv → ℕ → ℕ → Entry → Work → Option (List ℕ) → Bool × Work
starts_named env node r e w None = (false, entered e w)
starts_named env node r e w (Some path) = (true, started env node r path e.verdict w)

abbrev pub starts_one : NodeEnv → Option ℕ → ℕ → Entry → Work → Bool × Work
starts_one env None r e w = (false, entered e w)
starts_one env (Some node) r e w = starts_named env node r e w (named_path env.serve.files e)

-- Each takes the next of the nodes, from this place on; the first of the requests has number r.
unfoldable pub starts_at : NodeEnv → List ℕ → ℕ → ℕ → List Entry → Work → Work
starts_at env nodes at r [] w = w
starts_at env nodes at r (e ∷ es) w = elim (starts_one env (slice_get nodes at) r e w).0 [
  | true ↦ starts_at env nodes (at + 1) (r + 1) es (starts_one env (slice_get nodes at) r e w).1
  | false ↦ starts_at env nodes at (r + 1) es (starts_one env (slice_get nodes at) r e w).1
]

abbrev pub tagged : NodeEnv → List ℕ → Work → Work
tagged env nodes w = starts_at env nodes 0 (w.service.count + 1) w.batch (record w { batch = [] })

-- A job of this node's disk was completed, or a content came: a request that awaits it is ready.
abbrev pub read_progress : Progress → Progress
read_progress Reading = Ready via.Disk
read_progress Named = Named
read_progress (Awaited node) = Awaited node
read_progress (Ready way) = Ready way

abbrev pub come_progress : ℕ → Progress → Progress
come_progress from (Awaited node) = if node == from then Ready (via.Node from) else Awaited node
come_progress from Named = Named
come_progress from Reading = Reading
come_progress from (Ready way) = Ready way

-- the i-th request of the batch comes so far, if there is one
abbrev pub come_on : (Progress → Progress) → ℕ → List Entry → List Entry
come_on f i [] = []
come_on f zero (e ∷ es) = record e { progress = f e.progress } ∷ es
come_on f (suc i) (e ∷ es) = e ∷ come_on f i es

-- the request of this number, if it is in the batch
abbrev pub came_for : (Progress → Progress) → ℕ → Work → Work
came_for f r w = if nat_lt w.service.count r then record w { batch = come_on f (r - (w.service.count + 1)) w.batch } else w
