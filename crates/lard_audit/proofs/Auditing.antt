-- What is kept judges a record as the records before it do; and one record more is noted.
use Rattle.std.proofs.Common.{◌≡◌, ℕ, zero, suc, ◌≤◌, ◌-◌, Bool, true, false, List, [], ◌∷◌, ◌++◌, length, replicate, slice_get, sum_by, Option, Some, None, cond, is_some, Result, Ok, Err, OnOk, refl, sym, ap, subst, ◌∙◌, arith}
use Rattle.std.proofs.lemmas.Bool.{eqb-true}
use Rattle.std.proofs.lemmas.List.{length-map, map-append}
use Rattle.std.proofs.lemmas.List.Sums.{sum_by-append}
use Rattle.std.specs.Str.{bytes_eq}
use Rattle.lard_base.specs.Config.{room_of}
use Rattle.lard_base.specs.declared.config.Config.{Config}
use Rattle.lard_counts.specs.Ledger.{blank_ledger, ledger, ledger_step}
use Rattle.lard_counts.specs.Stores.{cached, jobs}
use Rattle.lard_files.specs.Files.{AnswersAddition, first_fault}
use Rattle.lard_files.specs.declared.fault.FileFault.{FileFault}
use Rattle.lard_history.proofs.Each.{each_append}
use Rattle.lard_journal.specs.declared.rec.Rec.{Rec}
use Rattle.lard_journal.specs.declared.rec.Rec.TheVariants as rec
use Rattle.lard_lab.specs.declared.targets.Target.{Target}
use Rattle.lard_lab.specs.Targets.{fresh_target, target_at, targets_total}
use Rattle.lard_lab.specs.Targets as targets
use Rattle.lard_audit.specs.declared.audit.Audit.{Audit}
use Rattle.lard_audit.specs.declared.nodes.Node.{Node}
use Rattle.lard_audit.specs.Audit.{AreBooks, IsAuditOf, IsNodeOf}
use Rattle.lard_audit.specs.Books.{AreSound, AuditBooks, blank_books, books_step, count_in, is_inside}
use Rattle.lard_audit.specs.Network.{audit_epoch_in, is_audit_on_way, owner_in}
use Rattle.lard_audit.specs.Nodes.{IsAtNode, entries_at, idle, audit_jobs_at, nodes_step, audit_number_at}
use Rattle.lard_audit.specs.Sound.{broken, audit_due_behind, audit_files_of, first_broken, is_first_of, audit_job_at, job_behind, keeps_admission, keeps_cache, keeps_choice, keeps_clock, keeps_network, keeps_owner, keeps_room, keeps_sender, audit_last_of, size_in}
use Rattle.lard_audit.specs.State.{audit_add_check, broken_at, audit_noted, sizes_of}
use Rattle.lard_audit.proofs.Following.{admission-same, books-begin, books-more, choice-same, clock-same, due-more}
use Rattle.lard_audit.proofs.Holding.{owner-same, owners-begin, owners-more, sender-same}
use Rattle.lard_audit.proofs.Keeping.{first_books}
use Rattle.lard_audit.proofs.Kept.{once-more}
use Rattle.lard_audit.proofs.Sending.{network-same, packets-begin, packets-more}
use Rattle.lard_audit.proofs.Storing.{cache-same, named-more, nodes-more, reads-more}

-- ---- the rules

-- where no rule is broken each is kept
pub record AreKept (network owner sender admission choice cache clock : Bool) : Type 0 where
  pub sent : network ≡ true
  pub owned : owner ≡ true
  pub told : sender ≡ true
  pub roomy : admission ≡ true
  pub chosen : choice ≡ true
  pub stored : cache ≡ true
  pub timed : clock ≡ true

pub all-kept : (a b c d e f g : Bool) → first_broken a b c d e f g ≡ None → AreKept a b c d e f g
all-kept true true true true true true true h = record { sent = refl; owned = refl; told = refl; roomy = refl; chosen = refl; stored = refl; timed = refl }
all-kept false b c d e f g h = cc
all-kept true false c d e f g h = cc
all-kept true true false d e f g h = cc
all-kept true true true false e f g h = cc
all-kept true true true true false f g h = cc
all-kept true true true true true false g h = cc
all-kept true true true true true true false h = cc

-- what each rule says of what is kept
abbrev pub Keeps : Audit → Rec → Type 0
Keeps a r = AreKept
    (keeps_network a.packets.sent (is_audit_on_way a.packets) r)
    (keeps_owner (owner_in a.owners) (audit_epoch_in a.owners) r)
    (keeps_sender (owner_in a.owners) r)
    (keeps_admission a.books.due (room_of a.books.config) (count_in a.books) (is_inside a.books) r)
    (keeps_choice a.books.config a.books.time a.books.loads a.books.sets (is_inside a.books) r)
    (keeps_cache (sizes_of a.targets) (entries_at a.nodes) (λ n. audit_job_at (audit_jobs_at a.nodes n) (audit_number_at a.named n)) r)
    (keeps_clock a.books.time r)

pub keeps-all : (a : Audit) (r : Rec) → broken_at a r ≡ None → Keeps a r
unfolding broken_at
keeps-all a r h = all-kept _ _ _ _ _ _ _ h

pub seven : (a b c d e f g a2 b2 c2 d2 e2 f2 g2 : Bool) → a ≡ a2 → b ≡ b2 → c ≡ c2 → d ≡ d2 → e ≡ e2 → f ≡ f2 → g ≡ g2 → first_broken a b c d e f g ≡ first_broken a2 b2 c2 d2 e2 f2 g2
seven a b c d e f g a2 b2 c2 d2 e2 f2 g2 s t u v w x y =
    ap (λ z. first_broken z b c d e f g) s ∙ ap (λ z. first_broken a2 z c d e f g) t ∙ ap (λ z. first_broken a2 b2 z d e f g) u ∙ ap (λ z. first_broken a2 b2 c2 z e f g) v
    ∙ ap (λ z. first_broken a2 b2 c2 d2 z f g) w ∙ ap (λ z. first_broken a2 b2 c2 d2 e2 z g) x ∙ ap (first_broken a2 b2 c2 d2 e2 f2) y

config-stays : (b : AuditBooks) (r : Rec) → (books_step b r).config ≡ b.config
config-stays b (rec.Clock time) = refl
config-stays b (rec.Admitted c) = refl
config-stays b (rec.Released c) = refl
config-stays b (rec.AssignedFirst c r path n add remove) = refl
config-stays b (rec.AssignedLater c r path n add size queue) = refl
config-stays b (rec.Closed n) = refl
config-stays b (rec.BatchOver c) = refl
config-stays b _ = refl

module _ (a : Audit) (cfg : Config) (files : List (List ℕ × ℕ)) (J : List Rec) (h : IsAuditOf a cfg files J) where
  stored-same : (r : Rec) → IsAtNode r
      → keeps_cache files (cached (audit_files_of files) cfg.cache J) (λ n. audit_job_at (jobs J n) (job_behind (audit_last_of J) n)) r
      ≡ keeps_cache (sizes_of a.targets) (entries_at a.nodes) (λ n. audit_job_at (audit_jobs_at a.nodes n) (audit_number_at a.named n)) r
  stored-same r at =
      cache-same files cfg.cache a.nodes J a.named r h.nodes h.named at
      ∙ ap (λ (fs : List (List ℕ × ℕ)). keeps_cache fs (entries_at a.nodes) (λ n. audit_job_at (audit_jobs_at a.nodes n) (audit_number_at a.named n)) r) (sym h.sizes)

  -- the first rule that is broken is that which is found
  pub judged : (r : Rec) → IsAtNode r → broken cfg files J r ≡ broken_at a r
  unfolding broken broken_at
  judged r at = seven _ _ _ _ _ _ _ _ _ _ _ _ _ _
      (network-same a.packets J r h.packets)
      (owner-same a.owners J r h.owners)
      (sender-same a.owners J r h.owners)
      (admission-same a.books (ledger cfg J) cfg (audit_due_behind (audit_last_of J)) r h.books h.config h.due)
      (choice-same a.books (ledger cfg J) cfg r h.books h.config)
      (stored-same r at)
      (clock-same a.books (ledger cfg J) r h.books)

  -- a record is noted that breaks no rule
  pub followed : (r : Rec) → AreSound a.books → IsAtNode r → broken_at a r ≡ None → IsAuditOf (audit_noted a r) cfg files (J ++ r ∷ [])
  unfolding audit_noted
  followed r s at none =
      let k : Keeps a r = keeps-all a r none in
      record {
        config = config-stays a.books r ∙ h.config;
        sizes = h.sizes;
        sound = each_append (λ past q. broken cfg files past q ≡ None) [] J (r ∷ []) h.sound (judged r at ∙ none, tt);
        packets = packets-more a.packets J r h.packets k.sent;
        owners = owners-more a.owners J r h.owners;
        books = subst (AreBooks _) (sym (once-more ledger_step (blank_ledger cfg) J r)) (books-more a.books (ledger cfg J) r h.books s k.roomy);
        due = ap audit_due_behind (once-more (λ before r. Some r) None J r) ∙ due-more a.books r k.roomy;
        nodes = λ n some few. subst (λ (fs : List (List ℕ × ℕ)). IsNodeOf (audit_files_of files) cfg.cache (nodes_step fs a.named a.nodes r) (J ++ r ∷ []) n) (sym h.sizes)
            (nodes-more files cfg.cache a.nodes J n (h.nodes n some few) some a.named r h.reads at
            (subst (λ (fs : List (List ℕ × ℕ)). keeps_cache fs (entries_at a.nodes) (λ k. audit_job_at (audit_jobs_at a.nodes k) (audit_number_at a.named k)) r ≡ true) h.sizes k.stored));
        named = named-more J r;
        reads = reads-more J r;
      }

-- ---- what the changes ask for

-- a record that is no first assignment keeps the rule of admission only where none is due
pub none-due : (b : AuditBooks) (r : Rec) → ((d : ℕ) → is_first_of d r ≡ false) → keeps_admission b.due (room_of b.config) (count_in b) (is_inside b) r ≡ true → b.due ≡ None
none-due b r other keeps = go b.due refl keeps where
  go : (due : Option ℕ) → b.due ≡ due → keeps_admission due (room_of b.config) (count_in b) (is_inside b) r ≡ true → b.due ≡ None
  go None is k = is
  go (Some d) is k = let no : false ≡ true = sym (other d) ∙ k in absurd cc

pub room-kept : (b : AuditBooks) (r : Rec) → b.due ≡ None → keeps_admission b.due (room_of b.config) (count_in b) (is_inside b) r ≡ true → keeps_room (room_of b.config) (count_in b) (is_inside b) r ≡ true
room-kept b r none keeps = subst (λ (d : Option ℕ). keeps_admission d (room_of b.config) (count_in b) (is_inside b) r ≡ true) none keeps

-- a first assignment keeps it only where it is the one that is due
pub first-due : (b : AuditBooks) (c r : ℕ) (path : List ℕ) (n : ℕ) (add remove : Option ℕ)
    → keeps_admission b.due (room_of b.config) (count_in b) (is_inside b) (rec.AssignedFirst c r path n add remove) ≡ true → b.due ≡ Some c
first-due b c r path n add remove keeps = go b.due refl keeps where
  go : (due : Option ℕ) → b.due ≡ due → keeps_admission due (room_of b.config) (count_in b) (is_inside b) (rec.AssignedFirst c r path n add remove) ≡ true → b.due ≡ Some c
  go None is k = let no : false ≡ true = k in absurd cc
  go (Some d) is k = is ∙ ap Some (sym (eqb-true c d k))

-- the audit once a first assignment was made
pub first-changed : {E : Type 0} (a : Audit) (given : Rec) (c r : ℕ) (path : List ℕ) (n : ℕ) (add remove : Option ℕ) (result : Result (Unit {0}) E) (new : AuditBooks) → given ≡ rec.AssignedFirst c r path n add remove
    → OnOk result (new ≡ first_books a.books c path (record { node = n; add = add; remove = remove })) → OnOk result (record a { books = new } ≡ record a { books = books_step a.books given })
first-changed a given c r path n add remove (Ok done) new is ok = ap (λ (b : AuditBooks). record a { books = b }) (ok ∙ ap (books_step a.books) (sym is))
first-changed a given c r path n add remove (Err fault) new is ok = tt

-- ---- the begin

at-replicate : (k i : ℕ) (x : Node) → suc i ≤ k → slice_get (replicate k x) i ≡ Some x
at-replicate zero i x le = absurd (omega (arith, le))
at-replicate (suc k) zero x le = refl
at-replicate (suc k) (suc i) x le = at-replicate k i x (omega (arith, le))

pub begun : (a : Audit) (cfg : Config) → a.packets.sent ≡ 0 → a.packets.lost ≡ [] → a.owners ≡ [] → a.books ≡ blank_books cfg → a.nodes ≡ replicate 64 (idle cfg.cache) → a.named ≡ None → a.targets ≡ [] → IsAuditOf a cfg [] []
begun a cfg sent lost owners books nodes named targets = record {
  config = ap (λ (b : AuditBooks). b.config) books;
  sizes = ap sizes_of targets;
  sound = tt;
  packets = packets-begin a.packets sent lost;
  owners = owners-begin a.owners owners;
  books = subst (λ (b : AuditBooks). AreBooks b (blank_ledger cfg)) (sym books) (books-begin cfg);
  due = sym (ap (λ (b : AuditBooks). b.due) books);
  nodes = λ n some few. record {
    node = idle cfg.cache;
    there = ap (λ (l : List Node). slice_get l (n - 1)) nodes ∙ at-replicate 64 (n - 1) (idle cfg.cache) (omega (arith, some, few));
    cache = refl;
    queue = refl;
  };
  named = λ n. sym (ap (λ (o : Option (ℕ × ℕ)). audit_number_at o n) named);
  reads = λ n j e. none n j (sym (ap (λ (o : Option (ℕ × ℕ)). audit_number_at o n) named) ∙ e);
} where
  none : (n j : ℕ) → audit_number_at None n ≡ Some j → 0 ≡ j
  none n j e = cc

-- ---- files

abbrev size_found : Option Target → Option ℕ
size_found None = None
size_found (Some t) = Some t.size

found : (ts : List (List ℕ × Target)) (path : List ℕ) → size_in (sizes_of ts) path ≡ size_found (target_at ts path)
found [] path = refl
found (t ∷ ts) path = go (bytes_eq path t.0) (found ts path) where
  go : (b : Bool) → size_in (sizes_of ts) path ≡ size_found (target_at ts path) → cond {A = Option ℕ} b (Some t.1.size) (size_in (sizes_of ts) path) ≡ size_found (cond {A = Option Target} b (Some t.1) (target_at ts path))
  go true e = refl
  go false e = e

pub size-of-some : (ts : List (List ℕ × Target)) (path : List ℕ) (t : Target) → target_at ts path ≡ Some t → Some t.size ≡ size_in (sizes_of ts) path
size-of-some ts path t e = sym (found ts path ∙ ap size_found e)

pub size-of-none : (ts : List (List ℕ × Target)) (path : List ℕ) → target_at ts path ≡ None → None ≡ size_in (sizes_of ts) path
size-of-none ts path e = sym (found ts path ∙ ap size_found e)

total-same : (ts : List (List ℕ × Target)) → sum_by (λ (f : List ℕ × ℕ). f.1) (sizes_of ts) ≡ targets_total ts
total-same [] = refl
total-same (t ∷ ts) =
    let one = sum_by-append (λ (f : List ℕ × ℕ). f.1) ((t.0, t.1.size) ∷ []) (sizes_of ts) in
    let two = sum_by-append (λ (t : List ℕ × Target). t.1.size) (t ∷ []) ts in
    let more = total-same ts in omega (arith, one, two, more)

-- a file may be added exactly where the targets may have one more
check-same : (ts : List (List ℕ × Target)) (path : List ℕ) (size : ℕ) → targets.target_check ts path size ≡ audit_add_check (sizes_of ts) path size
check-same ts path size =
    ap (λ (b : Bool). first_fault b (length ts) (targets_total ts) size) (there (target_at ts path) ∙ sym (ap is_some (found ts path)))
    ∙ ap (λ (n : ℕ). first_fault (is_some (size_in (sizes_of ts) path)) n (targets_total ts) size) (sym (length-map ts (λ t. (t.0, t.1.size))))
    ∙ ap (λ (n : ℕ). first_fault (is_some (size_in (sizes_of ts) path)) (length (sizes_of ts)) n size) (sym (total-same ts)) where
      there : (o : Option Target) → is_some o ≡ is_some (size_found o)
      there None = refl
      there (Some t) = refl

module _ (a : Audit) (cfg : Config) (files : List (List ℕ × ℕ)) (h : IsAuditOf a cfg files []) (path : List ℕ) (size : ℕ) where
  pub checked : (result : Result (Unit {0}) FileFault) → AnswersAddition (targets.target_check a.targets path size) result → AnswersAddition (audit_add_check files path size) result
  checked result answers =
      subst (λ (r : Result (Unit {0}) FileFault). AnswersAddition r result) (check-same a.targets path size ∙ ap (λ (fs : List (List ℕ × ℕ)). audit_add_check fs path size) h.sizes) answers

  pub filed : (new : List (List ℕ × Target)) → new ≡ a.targets ++ (path, fresh_target size) ∷ [] → IsAuditOf (record a { targets = new }) cfg (files ++ (path, size) ∷ []) []
  filed new is = record {
    config = h.config;
    sizes = ap sizes_of is ∙ map-append (λ (t : List ℕ × Target). (t.0, t.1.size)) a.targets ((path, fresh_target size) ∷ []) ∙ ap (λ (fs : List (List ℕ × ℕ)). fs ++ (path, size) ∷ []) h.sizes;
    sound = tt;
    packets = h.packets;
    owners = h.owners;
    books = h.books;
    due = h.due;
    nodes = λ n some few. (let x = h.nodes n some few in record { node = x.node; there = x.there; cache = x.cache; queue = x.queue });
    named = h.named;
    reads = h.reads;
  }
