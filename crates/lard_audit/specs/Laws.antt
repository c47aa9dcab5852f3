-- What it is that a record breaks no rule: in the words of the laws where these stand below, else in those of the folds.
use Rattle.std.specs.Prelude.{◌≡◌, ◌↔◌, ℕ, ◌+◌, ◌<◌, ◌≤◌, true, false, is_some, List, Option, Some, None}
use Rattle.lard_base.specs.Config.{room_of}
use Rattle.lard_base.specs.declared.config.Config.{Config}
use Rattle.lard_cache.specs.Recency.{has_path}
use Rattle.lard_costs.specs.Later.{later_choice}
use Rattle.lard_counts.specs.Ledger.{Ledger, ledger_admitted, is_in_ledger, ledger}
use Rattle.lard_counts.specs.Stores.{cached, jobs, waiting_at}
use Rattle.lard_history.specs.Journal.{goal_of, is_lost, sent_count}
use Rattle.lard_history.specs.Laws.{MayOwn, MaySend}
use Rattle.lard_journal.specs.declared.rec.Rec.{Rec}
use Rattle.lard_journal.specs.declared.rec.Rec.TheVariants as rec
use Rattle.lard_loads.specs.Tally.{has_other_open, home, is_open, open_shares}
use Rattle.lard_sets.specs.Sets.{set_of}
use Rattle.lard_audit.specs.Sound.{broken, audit_due_behind, audit_files_of, audit_first_at, job_behind, audit_last_of, size_in}

-- Packet numbers run from 1. A packet is got or lost only after it was sent, and not after it was lost.
abbrev pub RecordMayPass : List Rec → Rec → Type 0
RecordMayPass past (rec.Sent k from to bytes) = k ≡ sent_count past + 1
RecordMayPass past (rec.Got k) = (is_some (goal_of past k) ≡ true) × (is_lost past k ≡ false)
RecordMayPass past (rec.Lost k) = (is_some (goal_of past k) ≡ true) × (is_lost past k ≡ false)
RecordMayPass past _ = Unit {0}

-- the record is the first assignment of this connection
abbrev pub IsFirstOf : ℕ → Rec → Type 0
IsFirstOf c (rec.AssignedFirst d r path n add remove) = d ≡ c
IsFirstOf c _ = ⊥

-- Where nothing is due: one is to wait only where as many are admitted as there is room for, is admitted only where there is room and it
-- is not in, and is released only where it is in; and no first assignment stands here.
abbrev pub MayEnter : Config → Ledger → Rec → Type 0
MayEnter cfg l (rec.Waits c) = ledger_admitted l ≡ room_of cfg
MayEnter cfg l (rec.Admitted c) = (ledger_admitted l < room_of cfg) × (is_in_ledger l c ≡ false)
MayEnter cfg l (rec.AssignedFirst c r path n add remove) = ⊥
MayEnter cfg l (rec.Released c) = is_in_ledger l c ≡ true
MayEnter cfg l _ = Unit {0}

-- Directly behind the record that admits a connection stands its first assignment.
abbrev pub MayBeAdmitted : Config → Option ℕ → Ledger → Rec → Type 0
MayBeAdmitted cfg None l r = MayEnter cfg l r
MayBeAdmitted cfg (Some c) l r = IsFirstOf c r

-- what a later assignment says: of a connection at node h, with a batch of one to eight, of whose shares fewer than eight are open
pub record IsLaterAt (cfg : Config) (l : Ledger) (c : ℕ) (path : List ℕ) (n : ℕ) (add : Option ℕ) (size queue : ℕ) : Type 0 where
  pub inside : is_in_ledger l c ≡ true
  pub h : ℕ
  pub at : home l.loads c ≡ Some h
  pub some : 1 ≤ size
  pub few : size ≤ 8
  pub room : open_shares l.loads c < 8
  pub choice : later_choice l.loads h (set_of l.sets path).members queue cfg ≡ record { node = n; add = add }

-- A first assignment is that of LARD with replication, and a later one that of the extended policy. A node is closed where it is open, and
-- another one is.
abbrev pub RecordMayBeAssigned : Config → Ledger → Rec → Type 0
RecordMayBeAssigned cfg l (rec.AssignedFirst c r path n add remove) = audit_first_at cfg l.now l.loads l.sets path ≡ record { node = n; add = add; remove = remove }
RecordMayBeAssigned cfg l (rec.AssignedLater c r path n add size queue) = IsLaterAt cfg l c path n add size queue
RecordMayBeAssigned cfg l (rec.Closed n) = (is_open l.loads n ≡ true) × (has_other_open l.loads n ≡ true)
RecordMayBeAssigned cfg l _ = Unit {0}

-- A hit is of a path that the cache has. A job is queued for one that it has not, and that is a file's. What is read is the job that the
-- event directly before names.
abbrev pub MayBeStored : Config → List (List ℕ × ℕ) → List Rec → Rec → Type 0
MayBeStored cfg files past (rec.Hit n path) = has_path (cached (audit_files_of files) cfg.cache past n) path ≡ true
MayBeStored cfg files past (rec.Queued n m c r path) = (has_path (cached (audit_files_of files) cfg.cache past n) path ≡ false) × (is_some (size_in files path) ≡ true)
MayBeStored cfg files past (rec.Read n m c r path) = (j : ℕ) × (job_behind (audit_last_of past) n ≡ Some j) × (waiting_at (jobs past n) j ≡ Some (m, c, r, path))
MayBeStored cfg files past _ = Unit {0}

-- the time does not go back
abbrev pub MayTick : Ledger → Rec → Type 0
MayTick l (rec.Clock time) = l.now.0 ≤ time.0
MayTick l _ = Unit {0}

-- All that a record of a report is asked for. Who owns a connection and who sends are the laws of runs.
pub record RecordMayStand (cfg : Config) (files : List (List ℕ × ℕ)) (past : List Rec) (r : Rec) : Type 0 where
  pub passes : RecordMayPass past r
  pub owns : MayOwn past r
  pub sends : MaySend past r
  pub admits : MayBeAdmitted cfg (audit_due_behind (audit_last_of past)) (ledger cfg past) r
  pub assigns : RecordMayBeAssigned cfg (ledger cfg past) r
  pub stores : MayBeStored cfg files past r
  pub tells : MayTick (ledger cfg past) r

-- A record breaks no rule exactly where it may stand.
abbrev pub SoundMeans : Type 0
SoundMeans = (cfg : Config) (files : List (List ℕ × ℕ)) (past : List Rec) (r : Rec) → (broken cfg files past r ≡ None) ↔ RecordMayStand cfg files past r
