-- How an audit judges a record by what it keeps, and what is kept behind it.
use Rattle.std.specs.Prelude.{ℕ, List, length, map, sum_by, is_some, Option, Result}
use Rattle.lard_base.specs.Config.{room_of}
use Rattle.lard_files.specs.Files.{first_fault}
use Rattle.lard_files.specs.declared.fault.FileFault.{FileFault}
use Rattle.lard_journal.specs.declared.rec.Rec.{Rec}
use Rattle.lard_lab.specs.declared.targets.Target.{Target}
use Rattle.lard_audit.specs.declared.audit.Audit.{Audit}
use Rattle.lard_audit.specs.declared.rule.Rule.{Rule}
use Rattle.lard_audit.specs.Books.{books_step, count_in, is_inside}
use Rattle.lard_audit.specs.Network.{audit_epoch_in, is_audit_on_way, owner_in, owners_step, packets_step}
use Rattle.lard_audit.specs.Nodes.{entries_at, audit_jobs_at, named_by, nodes_step, audit_number_at}
use Rattle.lard_audit.specs.Sound.{first_broken, audit_job_at, keeps_admission, keeps_cache, keeps_choice, keeps_clock, keeps_network, keeps_owner, keeps_sender, size_in}

-- ---- files

-- the sizes of the files that were told
abbrev pub sizes_of : List (List ℕ × Target) → List (List ℕ × ℕ)
sizes_of targets = map (λ t. (t.0, t.1.size)) targets

-- whether a file of so many bytes may be added under a path, by the rules for files of a run
abbrev pub audit_add_check : List (List ℕ × ℕ) → List ℕ → ℕ → Result (Unit {0}) FileFault
audit_add_check files path size = first_fault (is_some (size_in files path)) (length files) (sum_by (λ f. f.1) files) size

-- ---- the audit

-- the first rule that a record breaks, by what is kept
unfoldable pub broken_at : Audit → Rec → Option Rule
broken_at a r =
    first_broken
    (keeps_network a.packets.sent (is_audit_on_way a.packets) r)
    (keeps_owner (owner_in a.owners) (audit_epoch_in a.owners) r)
    (keeps_sender (owner_in a.owners) r)
    (keeps_admission a.books.due (room_of a.books.config) (count_in a.books) (is_inside a.books) r)
    (keeps_choice a.books.config a.books.time a.books.loads a.books.sets (is_inside a.books) r)
    (keeps_cache (sizes_of a.targets) (entries_at a.nodes) (λ n. audit_job_at (audit_jobs_at a.nodes n) (audit_number_at a.named n)) r)
    (keeps_clock a.books.time r)

-- what a record changes, but for the job that it names
abbrev pub audit_changed_by : Audit → Rec → Audit
audit_changed_by a r = record a {
  packets = packets_step a.packets r;
  owners = owners_step a.owners r;
  books = books_step a.books r;
  nodes = nodes_step (sizes_of a.targets) a.named a.nodes r;
}

-- what is kept behind a record that breaks none
unfoldable pub audit_noted : Audit → Rec → Audit
audit_noted a r = record (audit_changed_by a r) { named = named_by r }
