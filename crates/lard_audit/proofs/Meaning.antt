-- The tests of the rules decide what they say.
use Rattle.std.proofs.Common.{◌≡◌, ℕ, ◌+◌, ◌<◌, ◌≤◌, Bool, true, false, not, ◌&&◌, nat_eq, nat_le, nat_lt, List, Option, Some, None, is_none, is_some, refl, sym, ap, ◌∙◌, arith}
use Rattle.std.proofs.lemmas.Bool.{and_parts, eq-eqb, eqb-true}
use Rattle.std.proofs.lemmas.Bool.Decides.{nat_tests}
use Rattle.std.proofs.lemmas.Slice.Eq.{bytes_eq-Decides}
use Rattle.std.specs.Str.{bytes_eq}
use Rattle.lard_base.specs.Config.{room_of}
use Rattle.lard_base.specs.declared.config.Config.{Config}
use Rattle.lard_base.specs.declared.place.Place.{Place}
use Rattle.lard_base.specs.declared.place.Place.TheVariants.{Front, Node, Client}
use Rattle.lard_cache.specs.Recency.{has_path}
use Rattle.lard_costs.specs.Later.{later_choice}
use Rattle.lard_costs.specs.declared.later.LaterChoice.{LaterChoice}
use Rattle.lard_counts.specs.Ledger.{Ledger, ledger_admitted, is_in_ledger, ledger}
use Rattle.lard_counts.specs.Stores.{Waiting, cached, jobs, waiting_at}
use Rattle.lard_history.specs.Journal.{goal_of, is_lost, is_place, last_epoch, owner, sent_count}
use Rattle.lard_history.specs.Laws.{MayOwn, MaySend, OwnerSends}
use Rattle.lard_history.proofs.Seeing.{same_number}
use Rattle.lard_journal.specs.declared.rec.Rec.{Rec}
use Rattle.lard_journal.specs.declared.rec.Rec.TheVariants as rec
use Rattle.lard_loads.specs.Tally.{has_other_open, home, is_open, open_shares}
use Rattle.lard_policy.specs.declared.first.FirstChoice.{FirstChoice}
use Rattle.lard_sets.specs.Sets.{set_of}
use Rattle.lard_audit.specs.Books.{AuditBooks}
use Rattle.lard_audit.specs.Laws.{IsFirstOf, IsLaterAt, MayBeAdmitted, RecordMayBeAssigned, MayEnter, RecordMayPass, RecordMayStand, MayBeStored, MayTick, SoundMeans}
use Rattle.lard_audit.specs.Sound.{broken, audit_due_behind, audit_files_of, audit_first_at, first_broken, is_first_choice, is_first_of, is_audit_job, is_later_choice, is_owner, is_same, audit_job_at, job_behind, keeps_admission, keeps_cache, keeps_choice, keeps_clock, keeps_later, keeps_network, keeps_owner, keeps_room, keeps_sender, audit_last_of, may_arrive, may_audit_send, size_in}
use Rattle.lard_audit.proofs.Auditing.{AreKept, all-kept, seven}
use Rattle.lard_audit.proofs.Keeping.{IsLater, at-most, is-later, less, same-first}

-- the test is met exactly where P is so
abbrev Tells : Bool → Type 0 → Type 0
Tells b P = (b ≡ true → P) × (P → b ≡ true)

nothing : Tells true (Unit {0})
nothing = (λ _. tt, λ _. refl)

never : Tells false ⊥
never = ((λ e. (let no : false ≡ true = e in absurd cc)), λ p. absurd p)

both : (a b : Bool) → a ≡ true → b ≡ true → (a && b) ≡ true
both a b e f = ap (λ (x : Bool). x && b) e ∙ f

not-true : (b : Bool) → not b ≡ true → b ≡ false
not-true true e = sym e
not-true false e = refl

not-false : (b : Bool) → b ≡ false → not b ≡ true
not-false b e = ap not e

at-most-true : (a b : ℕ) → a ≤ b → nat_le a b ≡ true
at-most-true a b h = grind (arith, nat_tests, h)

less-true : (a b : ℕ) → a < b → nat_lt a b ≡ true
less-true a b h = grind (arith, nat_tests, h)

-- ---- the network

arrive-means : (past : List Rec) (k : ℕ) → Tells (may_arrive past k) ((is_some (goal_of past k) ≡ true) × (is_lost past k ≡ false))
arrive-means past k = (
  (λ e. (let p = and_parts (is_some (goal_of past k)) (not (is_lost past k)) e in (p.0, not-true (is_lost past k) p.1))),
  λ p. both (is_some (goal_of past k)) (not (is_lost past k)) p.0 (not-false (is_lost past k) p.1),
)

network-means : (past : List Rec) (r : Rec) → Tells (keeps_network (sent_count past) (may_arrive past) r) (RecordMayPass past r)
network-means past (rec.Sent k from to bytes) = (eqb-true k (sent_count past + 1), eq-eqb k (sent_count past + 1))
network-means past (rec.Got k) = arrive-means past k
network-means past (rec.Lost k) = arrive-means past k
network-means past _ = nothing

-- ---- owners

place-is : (p q : Place) → is_place p q ≡ true → p ≡ q
place-is Front Front e = refl
place-is (Node n) (Node m) e = ap Node (eqb-true n m e)
place-is (Client c) (Client d) e = ap Client (eqb-true c d e)
place-is Front (Node m) e = cc
place-is Front (Client d) e = cc
place-is (Node n) Front e = cc
place-is (Node n) (Client d) e = cc
place-is (Client c) Front e = cc
place-is (Client c) (Node m) e = cc

place-same : (p : Place) → is_place p p ≡ true
place-same Front = refl
place-same (Node n) = same_number n
place-same (Client c) = same_number c

no-some : (p : Place) → None ≡ Some p → false ≡ true
no-some p e = cc

some-no : (p : Place) → Some p ≡ None → false ≡ true
some-no p e = cc

owner-is : (o : Option Place) (p : Place) → Tells (is_owner o p) (o ≡ Some p)
owner-is None p = ((λ e. (let no : false ≡ true = e in absurd cc)), no-some p)
owner-is (Some q) p = ((λ e. ap Some (place-is q p e)), λ e. ap (λ (x : Option Place). is_owner x p) e ∙ place-same p)

none-is : (o : Option Place) → Tells (is_none o) (o ≡ None)
none-is None = ((λ e. refl), λ e. refl)
none-is (Some q) = ((λ e. (let no : false ≡ true = e in absurd cc)), some-no q)

sends-mean : (past : List Rec) (from to : Place) → Tells (may_audit_send (owner past) from to) (OwnerSends past from to)
sends-mean past Front (Client c) = owner-is (owner past c) Front
sends-mean past (Node n) (Client c) = owner-is (owner past c) (Node n)
sends-mean past Front Front = nothing
sends-mean past Front (Node m) = nothing
sends-mean past (Node n) Front = nothing
sends-mean past (Node n) (Node m) = nothing
sends-mean past (Client d) Front = nothing
sends-mean past (Client d) (Node m) = nothing
sends-mean past (Client d) (Client c) = nothing

-- the rule of owners and that of who sends are the two laws
owns-mean : (past : List Rec) (r : Rec) → Tells (keeps_owner (owner past) (last_epoch past) r && keeps_sender (owner past) r) (MayOwn past r × MaySend past r)
owns-mean past (rec.Took place c epoch) = (
  (λ e. (
      let p = and_parts (is_none (owner past c) && nat_lt (last_epoch past c) epoch.0) true e in
      let q = and_parts (is_none (owner past c)) (nat_lt (last_epoch past c) epoch.0) p.0 in
      (less (last_epoch past c) epoch.0 q.1, (none-is (owner past c)).0 q.0)
      )),
  λ p. both (is_none (owner past c) && nat_lt (last_epoch past c) epoch.0) true (both (is_none (owner past c)) (nat_lt (last_epoch past c) epoch.0) ((none-is (owner past c)).1 p.1) (less-true (last_epoch past c) epoch.0 p.0)) refl,
)
owns-mean past (rec.Gave place c epoch) = (
  (λ e. (
      let p = and_parts (is_owner (owner past c) place && nat_eq (last_epoch past c) epoch.0) true e in
      let q = and_parts (is_owner (owner past c) place) (nat_eq (last_epoch past c) epoch.0) p.0 in
      (((owner-is (owner past c) place).0 q.0, eqb-true (last_epoch past c) epoch.0 q.1), tt)
      )),
  λ p. both (is_owner (owner past c) place && nat_eq (last_epoch past c) epoch.0) true
      (both (is_owner (owner past c) place) (nat_eq (last_epoch past c) epoch.0) ((owner-is (owner past c) place).1 p.0.0) (eq-eqb (last_epoch past c) epoch.0 p.0.1)) refl,
)
owns-mean past (rec.Sent k from to bytes) = ((λ e. (tt, (sends-mean past from to).0 e)), λ p. (sends-mean past from to).1 p.1)
owns-mean past _ = ((λ e. (tt, tt)), λ p. refl)

-- ---- admission

first-means : (c : ℕ) (r : Rec) → Tells (is_first_of c r) (IsFirstOf c r)
first-means c (rec.AssignedFirst d r path n add remove) = (eqb-true d c, eq-eqb d c)
first-means c _ = never

room-means : (cfg : Config) (l : Ledger) (r : Rec) → Tells (keeps_room (room_of cfg) (ledger_admitted l) (is_in_ledger l) r) (MayEnter cfg l r)
room-means cfg l (rec.Waits c) = (eqb-true (ledger_admitted l) (room_of cfg), eq-eqb (ledger_admitted l) (room_of cfg))
room-means cfg l (rec.Admitted c) = (
  (λ e. (let p = and_parts (nat_lt (ledger_admitted l) (room_of cfg)) (not (is_in_ledger l c)) e in (less (ledger_admitted l) (room_of cfg) p.0, not-true (is_in_ledger l c) p.1))),
  λ p. both (nat_lt (ledger_admitted l) (room_of cfg)) (not (is_in_ledger l c)) (less-true (ledger_admitted l) (room_of cfg) p.0) (not-false (is_in_ledger l c) p.1),
)
room-means cfg l (rec.AssignedFirst c r path n add remove) = never
room-means cfg l (rec.Released c) = ((λ e. e), λ e. e)
room-means cfg l _ = nothing

admission-means : (cfg : Config) (due : Option ℕ) (l : Ledger) (r : Rec) → Tells (keeps_admission due (room_of cfg) (ledger_admitted l) (is_in_ledger l) r) (MayBeAdmitted cfg due l r)
admission-means cfg None l r = room-means cfg l r
admission-means cfg (Some c) l r = first-means c r

-- ---- choices

option-same : (a : Option ℕ) → is_same a a ≡ true
option-same None = refl
option-same (Some n) = same_number n

first-true : (x : FirstChoice) (n : ℕ) (add remove : Option ℕ) → x ≡ record { node = n; add = add; remove = remove } → is_first_choice x n add remove ≡ true
first-true x n add remove e =
    ap (λ (y : FirstChoice). is_first_choice y n add remove) e
    ∙ both (nat_eq n n) (is_same add add && is_same remove remove) (same_number n) (both (is_same add add) (is_same remove remove) (option-same add) (option-same remove))

later-true : (x : LaterChoice) (n : ℕ) (add : Option ℕ) → x ≡ record { node = n; add = add } → is_later_choice x n add ≡ true
later-true x n add e = ap (λ (y : LaterChoice). is_later_choice y n add) e ∙ both (nat_eq n n) (is_same add add) (same_number n) (option-same add)

later-is : (x : LaterChoice) (n : ℕ) (add : Option ℕ) → x.node ≡ n → x.add ≡ add → x ≡ record { node = n; add = add }
later-is x n add e f = ap (λ (k : ℕ). made k x.add) e ∙ ap (made n) f where
  made : ℕ → Option ℕ → LaterChoice
  made k a = record { node = k; add = a }

choice-means : (cfg : Config) (l : Ledger) (r : Rec) → Tells (keeps_choice cfg l.now l.loads l.sets (is_in_ledger l) r) (RecordMayBeAssigned cfg l r)
choice-means cfg l (rec.AssignedFirst c r path n add remove) = (same-first (audit_first_at cfg l.now l.loads l.sets path) n add remove, first-true (audit_first_at cfg l.now l.loads l.sets path) n add remove)
choice-means cfg l (rec.AssignedLater c r path n add size queue) = (forth, back) where
  forth : (is_in_ledger l c && keeps_later cfg l.loads l.sets (home l.loads c) c path n add size queue) ≡ true → IsLaterAt cfg l c path n add size queue
  forth e =
      let p = and_parts (is_in_ledger l c) (keeps_later cfg l.loads l.sets (home l.loads c) c path n add size queue) e in
      let b : AuditBooks = record { config = cfg; time = l.now; loads = l.loads; sets = l.sets; due = None } in
      let x : IsLater b c path n add size queue = is-later b c path n add size queue p.1 in
      record {
        inside = p.0;
        h = x.h;
        at = x.at;
        some = x.some;
        few = x.few;
        room = x.room;
        choice = later-is (later_choice l.loads x.h (set_of l.sets path).members queue cfg) n add x.node x.added;
      }

  back : IsLaterAt cfg l c path n add size queue → (is_in_ledger l c && keeps_later cfg l.loads l.sets (home l.loads c) c path n add size queue) ≡ true
  back x = both (is_in_ledger l c) (keeps_later cfg l.loads l.sets (home l.loads c) c path n add size queue) x.inside
      (ap (λ (o : Option ℕ). keeps_later cfg l.loads l.sets o c path n add size queue) x.at
      ∙ both (nat_le 1 size && nat_le size 8) (nat_lt (open_shares l.loads c) 8 && is_later_choice (later_choice l.loads x.h (set_of l.sets path).members queue cfg) n add)
      (both (nat_le 1 size) (nat_le size 8) (at-most-true 1 size x.some) (at-most-true size 8 x.few))
      (both (nat_lt (open_shares l.loads c) 8) (is_later_choice (later_choice l.loads x.h (set_of l.sets path).members queue cfg) n add) (less-true (open_shares l.loads c) 8 x.room)
      (later-true (later_choice l.loads x.h (set_of l.sets path).members queue cfg) n add x.choice)))
choice-means cfg l (rec.Closed n) = (and_parts (is_open l.loads n) (has_other_open l.loads n), λ p. both (is_open l.loads n) (has_other_open l.loads n) p.0 p.1)
choice-means cfg l _ = nothing

-- ---- caches, disks and the clock

abbrev some_job : ℕ → ℕ → ℕ → List ℕ → Option Waiting
some_job m c r path = Some (m, c, r, path)

no-job : (w : Waiting) → None ≡ Some w → false ≡ true
no-job w e = cc

job-is : (o : Option Waiting) (m c r : ℕ) (path : List ℕ) → Tells (is_audit_job o m c r path) (o ≡ Some (m, c, r, path))
job-is None m c r path = ((λ e. (let no : false ≡ true = e in absurd cc)), no-job (m, c, r, path))
job-is (Some (a, b, d, p)) m c r path = (forth, back) where
  forth : ((nat_eq a m && nat_eq b c) && (nat_eq d r && bytes_eq p path)) ≡ true → some_job a b d p ≡ some_job m c r path
  forth e =
      let one = and_parts (nat_eq a m && nat_eq b c) (nat_eq d r && bytes_eq p path) e in
      let two = and_parts (nat_eq a m) (nat_eq b c) one.0 in
      let three = and_parts (nat_eq d r) (bytes_eq p path) one.1 in
      ap (λ (k : ℕ). some_job k b d p) (eqb-true a m two.0) ∙ ap (λ (k : ℕ). some_job m k d p) (eqb-true b c two.1)
      ∙ ap (λ (k : ℕ). some_job m c k p) (eqb-true d r three.0) ∙ ap (some_job m c r) ((bytes_eq-Decides p path).0 three.1)

  back : some_job a b d p ≡ some_job m c r path → ((nat_eq a m && nat_eq b c) && (nat_eq d r && bytes_eq p path)) ≡ true
  back e =
      ap (λ (o : Option Waiting). is_audit_job o m c r path) e
      ∙ both (nat_eq m m && nat_eq c c) (nat_eq r r && bytes_eq path path) (both (nat_eq m m) (nat_eq c c) (same_number m) (same_number c)) (both (nat_eq r r) (bytes_eq path path) (same_number r) ((bytes_eq-Decides path path).1 refl))

read-means : (past : List Rec) (n m c r : ℕ) (path : List ℕ) (o : Option ℕ) → job_behind (audit_last_of past) n ≡ o
    → Tells (is_audit_job (audit_job_at (jobs past n) o) m c r path) ((j : ℕ) × (job_behind (audit_last_of past) n ≡ Some j) × (waiting_at (jobs past n) j ≡ Some (m, c, r, path)))
read-means past n m c r path None is = ((λ e. (let no : false ≡ true = e in absurd cc)), λ x. absurd (apart x.0 (sym is ∙ x.1))) where
  apart : (j : ℕ) → None ≡ Some j → ⊥
  apart j e = cc
read-means past n m c r path (Some i) is = (
  (λ e. (i, is, (job-is (waiting_at (jobs past n) i) m c r path).0 e)),
  λ x. (job-is (waiting_at (jobs past n) i) m c r path).1 (ap (waiting_at (jobs past n)) (same (sym is ∙ x.1)) ∙ x.2),
) where
  same : {j : ℕ} → Some i ≡ Some j → i ≡ j
  same e = cc

cache-means : (cfg : Config) (files : List (List ℕ × ℕ)) (past : List Rec) (r : Rec)
    → Tells (keeps_cache files (cached (audit_files_of files) cfg.cache past) (λ n. audit_job_at (jobs past n) (job_behind (audit_last_of past) n)) r) (MayBeStored cfg files past r)
cache-means cfg files past (rec.Hit n path) = ((λ e. e), λ e. e)
cache-means cfg files past (rec.Queued n m c r path) = (
  (λ e. (let p = and_parts (not (has_path (cached (audit_files_of files) cfg.cache past n) path)) (is_some (size_in files path)) e in (not-true (has_path (cached (audit_files_of files) cfg.cache past n) path) p.0, p.1))),
  λ p. both (not (has_path (cached (audit_files_of files) cfg.cache past n) path)) (is_some (size_in files path)) (not-false (has_path (cached (audit_files_of files) cfg.cache past n) path) p.0) p.1,
)
cache-means cfg files past (rec.Read n m c r path) = read-means past n m c r path (job_behind (audit_last_of past) n) refl
cache-means cfg files past _ = nothing

clock-means : (l : Ledger) (r : Rec) → Tells (keeps_clock l.now r) (MayTick l r)
clock-means l (rec.Clock time) = (at-most l.now.0 time.0, at-most-true l.now.0 time.0)
clock-means l _ = nothing

-- ---- all rules

none-broken : (a b c d e f g : Bool) → AreKept a b c d e f g → first_broken a b c d e f g ≡ None
none-broken a b c d e f g k = seven a b c d e f g true true true true true true true k.sent k.owned k.told k.roomy k.chosen k.stored k.timed

pub sound-means : SoundMeans
unfolding broken
sound-means cfg files past r = (forth, back) where
  forth : broken cfg files past r ≡ None → RecordMayStand cfg files past r
  forth none =
      let k = all-kept _ _ _ _ _ _ _ none in
      let own : MayOwn past r × MaySend past r = (owns-mean past r).0 (both (keeps_owner (owner past) (last_epoch past) r) (keeps_sender (owner past) r) k.owned k.told) in
      record {
        passes = (network-means past r).0 k.sent;
        owns = own.0;
        sends = own.1;
        admits = (admission-means cfg (audit_due_behind (audit_last_of past)) (ledger cfg past) r).0 k.roomy;
        assigns = (choice-means cfg (ledger cfg past) r).0 k.chosen;
        stores = (cache-means cfg files past r).0 k.stored;
        tells = (clock-means (ledger cfg past) r).0 k.timed;
      }

  back : RecordMayStand cfg files past r → broken cfg files past r ≡ None
  back h =
      let own = and_parts (keeps_owner (owner past) (last_epoch past) r) (keeps_sender (owner past) r) ((owns-mean past r).1 (h.owns, h.sends)) in
      none-broken _ _ _ _ _ _ _ (record {
        sent = (network-means past r).1 h.passes;
        owned = own.0;
        told = own.1;
        roomy = (admission-means cfg (audit_due_behind (audit_last_of past)) (ledger cfg past) r).1 h.admits;
        chosen = (choice-means cfg (ledger cfg past) r).1 h.assigns;
        stored = (cache-means cfg files past r).1 h.stores;
        timed = (clock-means (ledger cfg past) r).1 h.tells;
      })
