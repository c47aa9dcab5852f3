-- Which texts are sound reports.
use Rattle.std.specs.Prelude.{◌≡◌, ◌↔◌, ℕ, ◌<◌, ◌≤◌, ◌^◌, true, List, [], ◌∷◌, ◌++◌, length, Ok}
use Rattle.std.specs.List.{AllByRecursion, flat_map}
use Rattle.lard_audit.specs.Sound.{IsSound}
use Rattle.lard_audit.specs.State.{audit_add_check}
use Rattle.lard_base.specs.Config.{config_check}
use Rattle.lard_base.specs.declared.config.Config.{Config}
use Rattle.lard_journal.specs.Report.{rec_line, report}
use Rattle.lard_journal.specs.declared.rec.Rec.{Rec}
use Rattle.lard_report.specs.Readable.{IsReadable}
use Rattle.lard_schedule.specs.Files.{is_file_path}
use Rattle.lard_audit_run.specs.declared.verdict.Verdict.TheVariants.{Sound}
use Rattle.lard_audit_run.specs.Audited.{audited}

-- files, one after another: each has a path that a file may have, and may be added to those before
abbrev pub MayBeAdded : List (List ℕ × ℕ) → List (List ℕ × ℕ) → Type 0
MayBeAdded before [] = Unit {0}
MayBeAdded before (file ∷ files) = (is_file_path file.0 ≡ true) × (file.1 < 2 ^ 64) × (audit_add_check before file.0 file.1 ≡ Ok tt) × MayBeAdded (before ++ file ∷ []) files

-- The text is a heading, the lines of files and those of records, of which nothing is refused; and each record keeps all rules behind
-- those before it.
pub record IsSoundReport (text : List ℕ) : Type 0 where
  pub config : Config
  pub files : List (List ℕ × ℕ)
  pub journal : List Rec
  pub is : text ≡ report config files journal
  pub usable : config_check config ≡ Ok tt
  pub addable : MayBeAdded [] files
  pub readable : AllByRecursion IsReadable journal
  pub sound : IsSound config files journal

-- a text passes exactly where it has at most 2^30 bytes, and is a sound report
abbrev pub SoundReportsPass : Type 0
SoundReportsPass = (text : List ℕ) → ((n : ℕ) × (audited text ≡ Sound n)) ↔ ((length text ≤ 2 ^ 30) × IsSoundReport text)

-- and has as many records as it is said to have
abbrev pub RecordsAreCounted : Type 0
RecordsAreCounted = (text : List ℕ) (r : IsSoundReport text) → length text ≤ 2 ^ 30 → audited text ≡ Sound (length r.journal)

-- a text is one report: of one configuration, one list of files and one of records
abbrev pub IsOneReport : Type 0
IsOneReport = (text : List ℕ) (r s : IsSoundReport text) → (r.config ≡ s.config) × (r.files ≡ s.files) × (r.journal ≡ s.journal)

-- The front of a sound report that ends behind the line of a record, or before all of them, is a sound report of the records so far: so the
-- report of a run that still goes on can be audited as far as it is there.
abbrev pub FrontsAreSound : Type 0
FrontsAreSound = (text : List ℕ) (r : IsSoundReport text) (before behind : List Rec) → r.journal ≡ before ++ behind
    → (text ≡ report r.config r.files before ++ flat_map rec_line behind) × ((front : IsSoundReport (report r.config r.files before)) × (front.journal ≡ before))
