-- A node's step: it looks up what it keeps of the connection, does the rule of what came, puts it back, and tells its cache and its
-- disk what the rule did.
use Rattle.std.specs.Prelude.{ℕ, Bool, true, false, ◌==◌, if◌then◌else◌, List, [], ◌∷◌, ◌++◌, length, Option, Some, None, Result, Ok, Err}
use Rattle.std.specs.FinMap as table
use Rattle.std.specs.List.{flat_map, fold, list_any}
use Rattle.lard_answers.specs.Answers.{FilesAt}
use Rattle.lard_base.specs.declared.place.Place.{Place}
use Rattle.lard_base.specs.declared.place.Place.TheVariants as place
use Rattle.lard_cache.specs.Recency.{Recency, after_hit, after_put, has_path}
use Rattle.lard_disk.specs.declared.disk.Job.{Job}
use Rattle.lard_disk.specs.Jobs.{is_for, job_at, without_job}
use Rattle.lard_handoff_back.specs.Table.{beside_in, table_put, table_begun}
use Rattle.lard_journal.specs.declared.rec.Rec.{Rec}
use Rattle.lard_journal.specs.declared.rec.Rec.TheVariants as rec
use Rattle.lard_message.specs.declared.fault.MsgFault.{MsgFault}
use Rattle.lard_message.specs.declared.message.Body.{Body}
use Rattle.lard_message.specs.declared.message.Body.TheVariants as body
use Rattle.lard_message.specs.declared.message.Message.{Message}
use Rattle.lard_message.specs.Reading.{decoded_message}
use Rattle.lard_rules.specs.declared.node.BackIn.{BackIn}
use Rattle.lard_rules.specs.declared.node.BackIn.TheVariants as input
use Rattle.lard_rules.specs.declared.node.NodeState.{NodeState}
use Rattle.lard_rules.specs.declared.node.NodeTurn.{NodeTurn}
use Rattle.lard_rules.specs.Node.{NodeDeed, Drops, Says, Does, NodePart, message, node_acknowledged, node_armed, node_content, node_forwarded, node_offered, node_read, node_tagged, node_timer, node_saying}
use Rattle.lard_rules.specs.Stay.{NodeEnv}
use Rattle.lard_resend.specs.Pending.{held, put_list}
use Rattle.lard_rules.specs.declared.places.Out.{Out}
use Rattle.lard_rules.specs.Outs.{kind_change, timer_kinds, nothing_done}
use Rattle.lard_segment.specs.declared.segment.Dir.TheVariants.{ToCluster}
use Rattle.lard_segment.specs.Segment.{decoded}
use Rattle.lard_table.specs.Table.{put_or}

-- What never changes in a run.
pub record NodeSetting : Type 0 where
  pub n : ℕ  -- the node's number
  pub files : FilesAt
  pub stream : ℕ  -- the most bytes of responses on one connection

-- ---- what is kept

abbrev pub node_part : NodeState → ℕ → NodePart
node_part s c = record { row = table.get s.conns.rows c; stay = table.get s.stays c; kept = held s.kept c; fetches = held s.fetches c; beside = beside_in s.conns c }

abbrev pub node_put : NodeState → ℕ → NodePart → NodeState
node_put s c p = record s { conns = table_put s.conns c p.row p.beside; stays = put_or s.stays c p.stay; kept = put_list s.kept c p.kept; fetches = put_list s.fetches c p.fetches }

-- no connection was offered, no path is cached, and no job is queued
abbrev pub no_stays : ℕ → NodeState
no_stays limit = record { conns = table_begun; stays = table.empty; kept = table.empty; fetches = table.empty; cache = record { entries = []; limit = limit }; disk = [] }

-- a node takes nothing new, and gives back what it has
abbrev pub node_leaves : NodeState → Bool
node_leaves s = s.conns.leaving

-- a node that is not there does not
abbrev pub leaves_at : Option NodeState → Bool
leaves_at None = false
leaves_at (Some s) = node_leaves s

abbrev pub node_env : NodeSetting → NodeState → ℕ → ℕ → NodeEnv
node_env k s c epoch = record {
  serve = record { place = place.Node k.n; c = c; files = k.files; stream = k.stream };
  n = k.n;
  epoch = epoch;
  cached = has_path s.cache.entries;
  queue = length s.disk;
  leaving = node_leaves s;
}

-- ---- what a turn comes to in a step

-- a path that was served from the cache goes to its front
abbrev pub hit_step : List (List ℕ × ℕ) → Rec → List (List ℕ × ℕ)
hit_step entries (rec.Hit n path) = after_hit entries path
hit_step entries _ = entries

abbrev pub hits : List Rec → Recency → Recency
hits notes cache = record cache { entries = fold hit_step cache.entries notes }

-- the cache is told the hits, and the disk is given the jobs
abbrev pub stores_told : NodeState → NodeTurn → NodeState
stores_told s t = record s { cache = hits t.notes s.cache; disk = s.disk ++ t.jobs }

-- the records of the timers that changed, from what was kept before the step and after it
abbrev pub node_timers : ℕ → ℕ → NodePart → NodePart → List Rec
node_timers n c p q = flat_map (λ kind. kind_change (place.Node n) c kind (node_armed p kind) (node_armed q kind)) timer_kinds

abbrev pub node_out : ℕ → ℕ → NodePart → NodePart → NodeTurn → Out
node_out n c p q t = record { notes = t.notes; segments = t.segments; gave = t.gave; messages = t.messages; timers = node_timers n c p q; answered = t.answered }

-- a rule of connection c gave this
abbrev pub node_did : NodeSetting → NodeState → ℕ → NodePart × NodeTurn → NodeState × Out
node_did k s c given = (stores_told (node_put s c given.0) given.1, node_out k.n c (node_part s c) given.0 given.1)

-- nothing that is kept of a connection changes
abbrev pub aside : NodeState → NodeTurn → NodeState × Out
aside s t = (stores_told s t, record { notes = t.notes; segments = []; gave = []; messages = t.messages; timers = []; answered = 0 })

abbrev pub node_deed : NodeSetting → NodeState → ℕ → NodeDeed → NodeState × Out
node_deed k s c Drops = (s, nothing_done)
node_deed k s c (Says messages) = aside s (node_saying messages)
node_deed k s c (Does given) = node_did k s c given

-- ---- what other nodes ask for

abbrev pub content_bytes : Option (List ℕ) → List ℕ
content_bytes None = []
content_bytes (Some bytes) = bytes

-- the content of a file goes to the node that serves the request
abbrev pub content_sent : NodeSetting → ℕ → ℕ → ℕ → ℕ → List ℕ → Place × List ℕ
content_sent k to c epoch r path = (place.Node to, message c epoch (body.Content r (content_bytes (k.files path))))

-- a Fetch is answered at once where the cache has its path; else a job of the disk reads it. One whose job is queued already is
-- dropped, and so is one for no file.
abbrev pub fetched_file : NodeSetting → NodeState → ℕ → ℕ → ℕ → ℕ → List ℕ → NodeTurn
fetched_file k s from c epoch r path =
    if has_path s.cache.entries path
    then record (node_saying (content_sent k from c epoch r path ∷ [])) { notes = rec.Hit k.n path ∷ [] }
    else record (node_saying []) { notes = rec.Queued k.n from c r path ∷ []; jobs = record { origin = from; c = c; epoch = record { 0 = epoch }; r = r; path = path } ∷ [] }

abbrev pub fetched : NodeSetting → NodeState → ℕ → ℕ → ℕ → ℕ → List ℕ → Option (List ℕ) → NodeState × Out
fetched k s from c epoch r path None = (s, nothing_done)
fetched k s from c epoch r path (Some bytes) = if list_any (is_for c epoch r) s.disk then (s, nothing_done) else aside s (fetched_file k s from c epoch r path)

-- ---- messages

-- each kind of message counts from the place that sends it; any other is dropped
abbrev pub node_hears : NodeSetting → NodeState → Place → ℕ → ℕ → Body → NodeState × Out
node_hears k s place.Front c epoch (body.Offer parts) = node_deed k s c (node_offered (node_env k s c epoch) (node_part s c) parts)
node_hears k s place.Front c epoch (body.Forward bytes) = node_deed k s c (node_forwarded (node_env k s c epoch) (node_part s c) (decoded bytes c ToCluster))
node_hears k s place.Front c epoch (body.Tag number nodes) = node_deed k s c (node_tagged (node_env k s c epoch) (node_part s c) number nodes)
node_hears k s place.Front c epoch body.EndedAck = node_deed k s c (node_acknowledged (node_env k s c epoch) false (node_part s c))
node_hears k s place.Front c epoch body.Given = node_deed k s c (node_acknowledged (node_env k s c epoch) true (node_part s c))
node_hears k s (place.Node from) c epoch (body.Fetch r path) = fetched k s from c epoch r path (k.files path)
node_hears k s (place.Node from) c epoch (body.Content r bytes) = node_deed k s c (node_content (node_env k s c epoch) (node_part s c) from r)
node_hears k s _ c epoch _ = (s, nothing_done)

-- what does not decode is dropped
abbrev pub node_gets : NodeSetting → NodeState → Place → Result Message MsgFault → NodeState × Out
node_gets k s from (Err fault) = (s, nothing_done)
node_gets k s from (Ok m) = node_hears k s from m.c m.epoch.0 m.body

-- ---- the disk

-- the job is taken out, and its path goes to the front of the cache
abbrev pub completed : NodeSetting → NodeState → ℕ → Job → NodeState
completed k s j job = record s { cache = after_put s.cache job.path (length (content_bytes (k.files job.path))); disk = without_job s.disk j }

-- the record of the job stands before all that it leads to
abbrev pub with_first : Rec → NodeState × Out → NodeState × Out
with_first r x = (x.0, record x.1 { notes = r ∷ [] ++ x.1.notes })

-- a job of this node makes its request ready, one for another node sends the content there
abbrev pub node_brought : NodeSetting → NodeState → Job → NodeState × Out
node_brought k s job =
    if job.origin == k.n
    then node_deed k s job.c (node_read (node_env k s job.c job.epoch.0) (node_part s job.c) job.r)
    else aside s (node_saying (content_sent k job.origin job.c job.epoch.0 job.r job.path ∷ []))

abbrev pub disk_step : NodeSetting → NodeState → ℕ → Option Job → NodeState × Out
disk_step k s j None = (s, nothing_done)
disk_step k s j (Some job) = with_first (rec.Read k.n job.origin job.c job.r job.path) (node_brought k (completed k s j job) job)

-- ---- one step

-- the epoch of the connection's stay, if it is here or its end is not acknowledged
abbrev pub node_epoch_at : NodeState → ℕ → ℕ
node_epoch_at s c = elim (table.get s.conns.rows c) [ None ↦ 0 | Some row ↦ row.epoch.0 ]

abbrev pub node_step : NodeSetting → NodeState → BackIn → NodeState × Out
node_step k s (input.Message from bytes) = node_gets k s from (decoded_message bytes)
node_step k s (input.Timer c) = node_deed k s c (node_timer (node_env k s c (node_epoch_at s c)) (node_part s c))
node_step k s (input.Disk j) = disk_step k s j (job_at s.disk j)
