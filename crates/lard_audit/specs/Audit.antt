-- Which audit is that of a report.
use Rattle.std.specs.Prelude.{◌≡◌, ℕ, ◌+◌, ◌-◌, ◌≤◌, nat_eq, nat_le, nat_lt, ◌&&◌, if◌then◌else◌, List, [], ◌∷◌, map, Option, Some, None, is_some, slice_get}
use Rattle.lard_answers.specs.Answers.{FilesAt}
use Rattle.lard_base.specs.declared.config.Config.{Config}
use Rattle.lard_counts.specs.Ledger.{Ledger, ledger_admitted, ledger}
use Rattle.lard_counts.specs.Stores.{cache_of, jobs, queue_of}
use Rattle.lard_history.specs.Journal.{goal_of, is_lost, last_epoch, owner, sent_count}
use Rattle.lard_journal.specs.declared.rec.Rec.{Rec}
use Rattle.lard_audit.specs.declared.audit.Audit.{Audit}
use Rattle.lard_audit.specs.declared.nodes.Node.{Node}
use Rattle.lard_audit.specs.declared.owners.Holder.{Holder}
use Rattle.lard_audit.specs.declared.packets.Packets.{Packets}
use Rattle.lard_audit.specs.declared.rule.AuditFault.{AuditFault}
use Rattle.lard_audit.specs.declared.rule.AuditFault.TheVariants.{Broken, NoMemory}
use Rattle.lard_audit.specs.declared.rule.Rule.{Rule}
use Rattle.lard_audit.specs.Sound.{IsSound, audit_due_behind, audit_files_of, job_behind, audit_last_of}
use Rattle.lard_audit.specs.Books.{AuditBooks, count_in, is_inside}
use Rattle.lard_audit.specs.Network.{audit_epoch_in, owner_in}
use Rattle.lard_audit.specs.Nodes.{audit_number_at}
use Rattle.lard_audit.specs.Queue.{audit_told}
use Rattle.lard_audit.specs.Register.{kept}
use Rattle.lard_audit.specs.State.{sizes_of}

-- The packets of a report: as many were sent as it says, each with the number behind the one before; and these were lost.
pub record ArePackets (p : Packets) (J : List Rec) : Type 0 where
  pub count : p.sent ≡ sent_count J
  pub sent : (k : ℕ) → is_some (goal_of J k) ≡ (nat_lt 0 k && nat_le k p.sent)
  pub lost : (k : ℕ) → is_lost J k ≡ is_some (kept p.lost k)

-- Who owns each connection, and the epoch in which it was taken last.
pub record AreOwners (owners : List (ℕ × Holder)) (J : List Rec) : Type 0 where
  pub held : (c : ℕ) → owner J c ≡ owner_in owners c
  pub epoch : (c : ℕ) → last_epoch J c ≡ audit_epoch_in owners c

-- how often a number stands in a list
abbrev pub times : ℕ → List ℕ → ℕ
times c [] = 0
times c (x ∷ xs) = (if nat_eq c x then 1 else 0) + times c xs

-- The books of a ledger: its time, loads and sets; and those that are in, each once, have a node or are to have one.
pub record AreBooks (b : AuditBooks) (l : Ledger) : Type 0 where
  pub time : l.now ≡ b.time
  pub loads : l.loads ≡ b.loads
  pub sets : l.sets ≡ b.sets
  pub many : ledger_admitted l ≡ count_in b
  pub each : (c : ℕ) → times c l.ins ≡ (if is_inside b c then 1 else 0)

-- What node n keeps: its cache, and the jobs that wait at its disk.
pub record IsNodeOf (files : FilesAt) (limit : ℕ) (nodes : List Node) (J : List Rec) (n : ℕ) : Type 0 where
  pub node : Node
  pub there : slice_get nodes (n - 1) ≡ Some node
  pub cache : cache_of files limit J n ≡ node.cache
  pub queue : jobs J n ≡ map audit_told node.jobs

-- An audit of a report with this configuration and files of these sizes, whose records so far are these, and sound.
pub record IsAuditOf (a : Audit) (cfg : Config) (files : List (List ℕ × ℕ)) (J : List Rec) : Type 0 where
  pub config : a.books.config ≡ cfg
  pub sizes : sizes_of a.targets ≡ files
  pub sound : IsSound cfg files J
  pub packets : ArePackets a.packets J
  pub owners : AreOwners a.owners J
  pub books : AreBooks a.books (ledger cfg J)
  pub due : audit_due_behind (audit_last_of J) ≡ a.books.due
  pub nodes : (n : ℕ) → 1 ≤ n → n ≤ 64 → IsNodeOf (audit_files_of files) cfg.cache a.nodes J n
  pub named : (n : ℕ) → job_behind (audit_last_of J) n ≡ audit_number_at a.named n
  pub reads : (n j : ℕ) → audit_number_at a.named n ≡ Some j → (queue_of J n).at ≡ j

-- A fault tells the first rule that is broken; memory runs out only where none is.
abbrev pub IsFaultOf : AuditFault → Option Rule → Type 0
IsFaultOf (Broken rule) first = first ≡ Some rule
IsFaultOf NoMemory first = first ≡ None
