-- Each rule of an audit is kept by what the laws of a journal let stand.
use Rattle.std.proofs.Common.{◌≡◌, ◌+◌, ℕ, Bool, true, not, ◌&&◌, cond, is_some, List, Option, Some, None, refl, sym, ap, ◌∙◌, subst, nat_eq, nat_le, nat_lt, arith}
use Rattle.std.specs.Prelude.{is_none}
use Rattle.std.proofs.lemmas.Bool.{and_from, le-leb, lt-ltb}
use Rattle.std.proofs.lemmas.Slice.Eq.{bytes_eq-Decides}
use Rattle.lard_audit.specs.Sound.{audit_files_of, audit_first_at, is_first_choice, is_audit_job, is_later_choice, is_owner, is_same, audit_job_at, job_behind, job_by, keeps_admission, keeps_cache, keeps_choice, keeps_clock, keeps_later, keeps_network, keeps_owner, keeps_room, keeps_sender, audit_last_of, may_arrive, may_audit_send}
use Rattle.lard_law_view.specs.Prelude.{Client, Config, Event, FirstChoice, Front, LaterChoice, MayInNetwork, MayOwn, MaySend, MayTime, Node, OwnerSends, Place, Rec, file_at, goal_of, has_other_open, has_path, home, is_lost, is_open, is_place, last_epoch, later_choice, open_shares, owner, room_of, sent_count, time_of}
use Rattle.lard_base.specs.declared.event.Event.TheVariants as event
use Rattle.lard_counts.specs.Ledger.{Ledger, ledger_admitted, is_in_ledger, server_set}
use Rattle.lard_counts.specs.Stores.{Waiting, cached, jobs}
use Rattle.lard_history.proofs.Seeing.{same_number}
use Rattle.lard_journal.specs.declared.rec.Rec.TheVariants as rec
use Rattle.lard_law_audit.specs.Laws.{file_lengths}
use Rattle.lard_law_audit.proofs.Behind.{MayPair, ReadsBehind, event-last, event_in}
use Rattle.lard_law_audit.proofs.Files.{cached-same, size-there}
use Rattle.lard_law_connections.specs.PolicyLaws.{MayAdmit, MayAssign}
use Rattle.lard_law_connections.specs.StoresLaws.{MayStore}

-- ---- the network

pub network-kept : (past : List Rec) (r : Rec) → MayInNetwork past r → keeps_network (sent_count past) (may_arrive past) r ≡ true
network-kept past (rec.Sent k from to bytes) h = ap (λ (j : ℕ). nat_eq j (sent_count past + 1)) h ∙ same_number (sent_count past + 1)
network-kept past (rec.Got k) h = and_from (is_some (goal_of past k)) (not (is_lost past k)) h.0 (ap not h.2)
network-kept past (rec.Lost k) h = and_from (is_some (goal_of past k)) (not (is_lost past k)) h.0 (ap not h.1)
network-kept past _ h = refl

-- ---- owners

same-place : (p : Place) → is_place p p ≡ true
same-place Front = refl
same-place (Node n) = same_number n
same-place (Client c) = same_number c

is-its : (o : Option Place) (p : Place) → o ≡ Some p → is_owner o p ≡ true
is-its o p e = ap (λ (q : Option Place). is_owner q p) e ∙ same-place p

pub owner-kept : (past : List Rec) (r : Rec) → MayOwn past r → MaySend past r → keeps_owner (owner past) (last_epoch past) r ≡ true
owner-kept past (rec.Took place c epoch) own send = and_from (is_none (owner past c)) (nat_lt (last_epoch past c) epoch.0) (ap is_none send) (lt-ltb (last_epoch past c) epoch.0 own)
owner-kept past (rec.Gave place c epoch) own send = and_from (is_owner (owner past c) place) (nat_eq (last_epoch past c) epoch.0) (is-its (owner past c) place own.0)
    (ap (λ (j : ℕ). nat_eq j epoch.0) own.1 ∙ same_number epoch.0)
owner-kept past _ own send = refl

may-send : (past : List Rec) (from to : Place) → OwnerSends past from to → may_audit_send (owner past) from to ≡ true
may-send past Front (Client c) h = is-its (owner past c) Front h
may-send past (Node n) (Client c) h = is-its (owner past c) (Node n) h
may-send past Front Front h = refl
may-send past Front (Node n) h = refl
may-send past (Node n) Front h = refl
may-send past (Node n) (Node j) h = refl
may-send past (Client c) to h = refl

pub sender-kept : (past : List Rec) (r : Rec) → MaySend past r → keeps_sender (owner past) r ≡ true
sender-kept past (rec.Sent k from to bytes) h = may-send past from to h
sender-kept past _ h = refl

-- ---- admission

room-kept : (cfg : Config) (l : Ledger) (r : Rec) → MayPair None r → MayAdmit cfg l r → keeps_room (room_of cfg) (ledger_admitted l) (is_in_ledger l) r ≡ true
room-kept cfg l (rec.Waits c) pair h = ap (λ (j : ℕ). nat_eq j (room_of cfg)) h ∙ same_number (room_of cfg)
room-kept cfg l (rec.Admitted c) pair h = and_from (nat_lt (ledger_admitted l) (room_of cfg)) (not (is_in_ledger l c)) (lt-ltb (ledger_admitted l) (room_of cfg) h.0) (ap not h.1)
room-kept cfg l (rec.Released c) pair h = h
room-kept cfg l (rec.AssignedFirst c r path n add remove) pair h = absurd pair
room-kept cfg l _ pair h = refl

pub admission-kept : (cfg : Config) (l : Ledger) (due : Option ℕ) (r : Rec) → MayPair due r → MayAdmit cfg l r → keeps_admission due (room_of cfg) (ledger_admitted l) (is_in_ledger l) r ≡ true
admission-kept cfg l None r pair h = room-kept cfg l r pair h
admission-kept cfg l (Some c) r pair h = pair

-- ---- choices

same-option : (o : Option ℕ) → is_same o o ≡ true
same-option None = refl
same-option (Some n) = same_number n

first-same : (x : FirstChoice) (n : ℕ) (add remove : Option ℕ) → ◌≡◌ {A = FirstChoice} (record { node = n; add = add; remove = remove }) x → is_first_choice x n add remove ≡ true
first-same x n add remove e = subst (λ (y : FirstChoice). is_first_choice y n add remove ≡ true) e
    (and_from (nat_eq n n) (is_same add add && is_same remove remove) (same_number n) (and_from (is_same add add) (is_same remove remove) (same-option add) (same-option remove)))

later-same : (x : LaterChoice) (n : ℕ) (add : Option ℕ) → ◌≡◌ {A = LaterChoice} (record { node = n; add = add }) x → is_later_choice x n add ≡ true
later-same x n add e = subst (λ (y : LaterChoice). is_later_choice y n add ≡ true) e (and_from (nat_eq n n) (is_same add add) (same_number n) (same-option add))

pub choice-kept : (cfg : Config) (l : Ledger) (r : Rec) → ((c : ℕ) → is_some (home l.loads c) ≡ true → is_in_ledger l c ≡ true) → MayAssign cfg l r → keeps_choice cfg l.now l.loads l.sets (is_in_ledger l) r ≡ true
choice-kept cfg l (rec.AssignedFirst c r path n add remove) homes h = first-same (audit_first_at cfg l.now l.loads l.sets path) n add remove h.1
choice-kept cfg l (rec.AssignedLater c r path n add size queue) homes h =
    let choice : LaterChoice = later_choice l.loads h.0 (server_set l path).members queue cfg in
    and_from (is_in_ledger l c) (keeps_later cfg l.loads l.sets (home l.loads c) c path n add size queue) (homes c (ap is_some h.1))
    (ap (λ (o : Option ℕ). keeps_later cfg l.loads l.sets o c path n add size queue) h.1
    ∙ and_from (nat_le 1 size && nat_le size 8) (nat_lt (open_shares l.loads c) 8 && is_later_choice choice n add)
    (and_from (nat_le 1 size) (nat_le size 8) (le-leb 1 size h.3) (le-leb size 8 h.4))
    (and_from (nat_lt (open_shares l.loads c) 8) (is_later_choice choice n add) (lt-ltb (open_shares l.loads c) 8 h.5) (later-same choice n add h.2)))
choice-kept cfg l (rec.Closed n) homes h = and_from (is_open l.loads n) (has_other_open l.loads n) h.0 h.1
choice-kept cfg l _ homes h = refl

-- ---- caches and disks

-- the job that an event directly before names
pub job-named : (before : Option Rec) (e : Event) (n : ℕ) → event_in before ≡ Some e → job_behind before n ≡ job_by n e
job-named (Some (rec.Event i d)) e n is = let same : d ≡ e = cc in ap (job_by n) same
job-named (Some (rec.Inner d)) e n is = let same : d ≡ e = cc in ap (job_by n) same
job-named None e n is = let no : None ≡ Some e = is in absurd cc
job-named (Some _) e n is = let no : None ≡ Some e = is in absurd cc

disk-names : (n j : ℕ) → job_by n (event.Disk n j) ≡ Some j
disk-names n j = ap (λ (b : Bool). cond {A = Option ℕ} b (Some j) None) (same_number n)

same-job : (m c r : ℕ) (path : List ℕ) → is_audit_job (Some (m, c, r, path)) m c r path ≡ true
same-job m c r path = and_from (nat_eq m m && nat_eq c c) _ (and_from (nat_eq m m) (nat_eq c c) (same_number m) (same_number c)) (and_from (nat_eq r r) _ (same_number r) ((bytes_eq-Decides path path).1 refl))

module _ (files : List (List ℕ × List ℕ)) (limit : ℕ) (past : List Rec) where
  abbrev named_at : ℕ → Option Waiting
  named_at n = audit_job_at (jobs past n) (job_behind (audit_last_of past) n)

  pub cache-kept : (r : Rec) → ReadsBehind (audit_last_of past) r → MayStore (file_at files) limit past r
      → keeps_cache (file_lengths files) (cached (audit_files_of (file_lengths files)) limit past) named_at r ≡ true
  cache-kept (rec.Hit n path) reads h = ap (λ (es : List (List ℕ × ℕ)). has_path es path) (cached-same files limit past n) ∙ h
  cache-kept (rec.Queued n m c r path) reads h = and_from _ _ (ap (λ (es : List (List ℕ × ℕ)). not (has_path es path)) (cached-same files limit past n) ∙ ap not h.0) (size-there files path ∙ h.1)
  cache-kept (rec.Read n m c r path) reads h =
      let one : Some reads.0 ≡ Some (event.Disk n h.0) = sym (event-last past reads.0 reads.1) ∙ h.1 in
      let same : reads.0 ≡ event.Disk n h.0 = cc in
      let named : job_behind (audit_last_of past) n ≡ Some h.0 = job-named (audit_last_of past) reads.0 n reads.1 ∙ ap (job_by n) same ∙ disk-names n h.0 in
      ap (λ (o : Option ℕ). is_audit_job (audit_job_at (jobs past n) o) m c r path) named ∙ ap (λ (w : Option Waiting). is_audit_job w m c r path) h.2 ∙ same-job m c r path
  cache-kept _ reads h = refl

-- ---- the clock

pub clock-kept : (past : List Rec) (l : Ledger) (r : Rec) → l.now.0 ≡ time_of past → MayTime past r → keeps_clock l.now r ≡ true
clock-kept past l (rec.Clock time) now h = le-leb l.now.0 time.0 (let t : time.0 ≡ time_of past + h.0 = h.2 in omega (arith, now, t))
clock-kept past l _ now h = refl
