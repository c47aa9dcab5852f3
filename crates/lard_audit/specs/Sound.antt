-- Which records of a report are sound: what each may say behind those before it. Each rule is a test by cases on the record, of what
-- it looks up in the past.
use Rattle.std.specs.Prelude.{◌≡◌, ℕ, ◌+◌, Bool, true, false, not, ◌&&◌, nat_eq, nat_le, nat_lt, if◌then◌else◌, List, [], replicate, Option, Some, None, is_none, is_some}
use Rattle.std.specs.List.{fold}
use Rattle.std.specs.Map.{lookup}
use Rattle.std.specs.Option.{option_map}
use Rattle.std.specs.Str.{bytes_eq}
use Rattle.lard_answers.specs.Answers.{FilesAt}
use Rattle.lard_base.specs.Config.{room_of}
use Rattle.lard_base.specs.declared.config.Config.{Config}
use Rattle.lard_base.specs.declared.event.Event.{Event}
use Rattle.lard_base.specs.declared.event.Event.TheVariants as event
use Rattle.lard_base.specs.declared.ids.Millis.{Millis}
use Rattle.lard_base.specs.declared.place.Place.{Place}
use Rattle.lard_base.specs.declared.place.Place.TheVariants.{Front, Node, Client}
use Rattle.lard_cache.specs.Recency.{has_path}
use Rattle.lard_costs.specs.Later.{later_choice}
use Rattle.lard_costs.specs.declared.later.LaterChoice.{LaterChoice}
use Rattle.lard_counts.specs.Ledger.{ledger_admitted, is_in_ledger, ledger}
use Rattle.lard_counts.specs.Stores.{Waiting, cached, jobs, waiting_at}
use Rattle.lard_history.specs.Journal.{goal_of, is_lost, is_place, last_epoch, owner, sent_count}
use Rattle.lard_history.specs.Laws.{EachMay}
use Rattle.lard_journal.specs.declared.rec.Rec.{Rec}
use Rattle.lard_journal.specs.declared.rec.Rec.TheVariants as rec
use Rattle.lard_loads.specs.Tally.{Tally, has_other_open, home, is_open, open_shares}
use Rattle.lard_policy.specs.First.{first_choice}
use Rattle.lard_policy.specs.declared.first.FirstChoice.{FirstChoice}
use Rattle.lard_sets.specs.Sets.{set_of}
use Rattle.lard_sets.specs.declared.sets.ServerSet.{ServerSet}
use Rattle.lard_audit.specs.declared.rule.Rule.{Rule}
use Rattle.lard_audit.specs.declared.rule.Rule.TheVariants.{Network, Owner, Sender, Admission, Choice, Cache, Clock}

-- ---- the network

-- A packet is sent with the number behind the last one. One is got or lost only if it was sent, and not lost.
abbrev pub keeps_network : ℕ → (ℕ → Bool) → Rec → Bool
keeps_network sent may_arrive (rec.Sent k from to bytes) = nat_eq k (sent + 1)
keeps_network sent may_arrive (rec.Got k) = may_arrive k
keeps_network sent may_arrive (rec.Lost k) = may_arrive k
keeps_network sent may_arrive _ = true

-- packet k was sent, and not lost
abbrev pub may_arrive : List Rec → ℕ → Bool
may_arrive past k = is_some (goal_of past k) && not (is_lost past k)

-- ---- owners

abbrev pub is_owner : Option Place → Place → Bool
is_owner None place = false
is_owner (Some p) place = is_place p place

-- A place takes a connection that nobody owns, in an epoch above the last. It gives up one that it owns, in the epoch in which it took it.
abbrev pub keeps_owner : (ℕ → Option Place) → (ℕ → ℕ) → Rec → Bool
keeps_owner owner_of epoch_of (rec.Took place c epoch) = is_none (owner_of c) && nat_lt (epoch_of c) epoch.0
keeps_owner owner_of epoch_of (rec.Gave place c epoch) = is_owner (owner_of c) place && nat_eq (epoch_of c) epoch.0
keeps_owner owner_of epoch_of _ = true

-- ---- who sends

-- of the cluster only the owner of a connection sends to its client
abbrev pub may_audit_send : (ℕ → Option Place) → Place → Place → Bool
may_audit_send owner_of Front (Client c) = is_owner (owner_of c) Front
may_audit_send owner_of (Node n) (Client c) = is_owner (owner_of c) (Node n)
may_audit_send owner_of _ _ = true

abbrev pub keeps_sender : (ℕ → Option Place) → Rec → Bool
keeps_sender owner_of (rec.Sent k from to bytes) = may_audit_send owner_of from to
keeps_sender owner_of _ = true

-- ---- admission

-- the last record, if there is one
abbrev pub audit_last_of : List Rec → Option Rec
audit_last_of J = fold (λ before r. Some r) None J

-- the connection whose first assignment is due behind a record: the one that it admits
abbrev pub due_by : Rec → Option ℕ
due_by (rec.Admitted c) = Some c
due_by _ = None

abbrev pub audit_due_behind : Option Rec → Option ℕ
audit_due_behind None = None
audit_due_behind (Some r) = due_by r

abbrev pub is_first_of : ℕ → Rec → Bool
is_first_of c (rec.AssignedFirst d r path n add remove) = nat_eq d c
is_first_of c _ = false

-- Where nothing is due: a connection is to wait only where as many are admitted as there is room for; one is admitted only where there
-- is room, and it is not in; one is released only where it is in; and no first assignment stands here.
abbrev pub keeps_room : ℕ → ℕ → (ℕ → Bool) → Rec → Bool
keeps_room room count is_in (rec.Waits c) = nat_eq count room
keeps_room room count is_in (rec.Admitted c) = nat_lt count room && not (is_in c)
keeps_room room count is_in (rec.AssignedFirst c r path n add remove) = false
keeps_room room count is_in (rec.Released c) = is_in c
keeps_room room count is_in _ = true

-- Directly behind the record that admits a connection stands its first assignment.
abbrev pub keeps_admission : Option ℕ → ℕ → ℕ → (ℕ → Bool) → Rec → Bool
keeps_admission None room count is_in r = keeps_room room count is_in r
keeps_admission (Some c) room count is_in r = is_first_of c r

-- ---- choices

abbrev pub is_same : Option ℕ → Option ℕ → Bool
is_same None None = true
is_same (Some n) (Some m) = nat_eq n m
is_same _ _ = false

abbrev pub is_first_choice : FirstChoice → ℕ → Option ℕ → Option ℕ → Bool
is_first_choice x n add remove = nat_eq x.node n && (is_same x.add add && is_same x.remove remove)

abbrev pub is_later_choice : LaterChoice → ℕ → Option ℕ → Bool
is_later_choice x n add = nat_eq x.node n && is_same x.add add

-- the first choice for a path, at these loads and server sets
abbrev pub audit_first_at : Config → Millis → Tally → List (List ℕ × ServerSet) → List ℕ → FirstChoice
audit_first_at cfg now loads sets path = first_choice loads (set_of sets path).members now (set_of sets path).modified cfg

-- A later assignment is of a connection that has a node. Its batch has one to eight requests, and fewer than eight shares are open.
abbrev pub keeps_later : Config → Tally → List (List ℕ × ServerSet) → Option ℕ → ℕ → List ℕ → ℕ → Option ℕ → ℕ → ℕ → Bool
keeps_later cfg loads sets None c path n add size queue = false
keeps_later cfg loads sets (Some h) c path n add size queue =
    (nat_le 1 size && nat_le size 8) && (nat_lt (open_shares loads c) 8 && is_later_choice (later_choice loads h (set_of sets path).members queue cfg) n add)

-- The first choice is that of LARD with replication, and a later one that of the extended policy, for a connection that is in: each at
-- the loads and the server sets as they stand just before the record. A node is closed only where it is open, and another one is.
abbrev pub keeps_choice : Config → Millis → Tally → List (List ℕ × ServerSet) → (ℕ → Bool) → Rec → Bool
keeps_choice cfg now loads sets is_in (rec.AssignedFirst c r path n add remove) = is_first_choice (audit_first_at cfg now loads sets path) n add remove
keeps_choice cfg now loads sets is_in (rec.AssignedLater c r path n add size queue) = is_in c && keeps_later cfg loads sets (home loads c) c path n add size queue
keeps_choice cfg now loads sets is_in (rec.Closed n) = is_open loads n && has_other_open loads n
keeps_choice cfg now loads sets is_in _ = true

-- ---- caches and disks

-- how many bytes the file of a path has, by the lines of the files
abbrev pub size_in : List (List ℕ × ℕ) → List ℕ → Option ℕ
size_in files path = lookup (bytes_eq path) files

-- files of these sizes, whatever their bytes are, since caches count bytes alone
abbrev pub audit_files_of : List (List ℕ × ℕ) → FilesAt
audit_files_of files path = option_map (λ size. replicate size 0) (size_in files path)

-- which job an event names, if it is one of this node's disk
abbrev pub job_by : ℕ → Event → Option ℕ
job_by n (event.Disk k j) = if nat_eq k n then Some j else None
job_by n _ = None

abbrev pub job_behind : Option Rec → ℕ → Option ℕ
job_behind (Some (rec.Event i e)) n = job_by n e
job_behind (Some (rec.Inner e)) n = job_by n e
job_behind _ n = None

abbrev pub audit_job_at : List Waiting → Option ℕ → Option Waiting
audit_job_at jobs None = None
audit_job_at jobs (Some j) = waiting_at jobs j

abbrev pub is_audit_job : Option Waiting → ℕ → ℕ → ℕ → List ℕ → Bool
is_audit_job None m c r path = false
is_audit_job (Some w) m c r path = (nat_eq w.0 m && nat_eq w.1 c) && (nat_eq w.2 r && bytes_eq w.3 path)

-- A hit is of a path that the node's cache has. A job is queued for one that it has not, and that is a file's. What is read is the job
-- that the record directly before names, which is an event of this node's disk.
abbrev pub keeps_cache : List (List ℕ × ℕ) → (ℕ → List (List ℕ × ℕ)) → (ℕ → Option Waiting) → Rec → Bool
keeps_cache files cached_at named_at (rec.Hit n path) = has_path (cached_at n) path
keeps_cache files cached_at named_at (rec.Queued n m c r path) = not (has_path (cached_at n) path) && is_some (size_in files path)
keeps_cache files cached_at named_at (rec.Read n m c r path) = is_audit_job (named_at n) m c r path
keeps_cache files cached_at named_at _ = true

-- ---- the clock

-- the time does not go back
abbrev pub keeps_clock : Millis → Rec → Bool
keeps_clock now (rec.Clock time) = nat_le now.0 time.0
keeps_clock now _ = true

-- ---- all rules

-- the first rule whose test fails, in their order
abbrev pub first_broken : Bool → Bool → Bool → Bool → Bool → Bool → Bool → Option Rule
first_broken network owner sender admission choice cache clock =
    if not network then Some Network
    else if not owner then Some Owner
    else if not sender then Some Sender
    else if not admission then Some Admission
    else if not choice then Some Choice
    else if not cache then Some Cache
    else if not clock then Some Clock
    else None

-- The first rule that a record breaks behind those of the past, in a report with this configuration and files of these sizes.
unfoldable pub broken : Config → List (List ℕ × ℕ) → List Rec → Rec → Option Rule
broken cfg files past r =
    first_broken
    (keeps_network (sent_count past) (may_arrive past) r)
    (keeps_owner (owner past) (last_epoch past) r)
    (keeps_sender (owner past) r)
    (keeps_admission (audit_due_behind (audit_last_of past)) (room_of cfg) (ledger_admitted (ledger cfg past)) (is_in_ledger (ledger cfg past)) r)
    (keeps_choice cfg (ledger cfg past).now (ledger cfg past).loads (ledger cfg past).sets (is_in_ledger (ledger cfg past)) r)
    (keeps_cache files (cached (audit_files_of files) cfg.cache past) (λ n. audit_job_at (jobs past n) (job_behind (audit_last_of past) n)) r)
    (keeps_clock (ledger cfg past).now r)

-- each record keeps all rules, behind those before it
abbrev pub IsSound : Config → List (List ℕ × ℕ) → List Rec → Type 0
IsSound cfg files J = EachMay (λ past r. broken cfg files past r ≡ None) [] J
