-- A text is one report: its configuration, files and records are known.
use Rattle.std.proofs.Common.{◌≡◌, ℕ, List, [], ◌∷◌, ◌++◌, sym, ◌∙◌}
use Rattle.std.proofs.lemmas.Bool.{and_parts}
use Rattle.std.proofs.lemmas.List.Elements.{All-cons, All-nil}
use Rattle.std.specs.List.{AllByRecursion, list_all}
use Rattle.std.specs.Prelude.{All}
use Rattle.lard_journal.specs.Range.{IsFileInRange, IsRecordInRange, IsReportInRange}
use Rattle.lard_journal.specs.declared.rec.Rec.{Rec}
use Rattle.lard_journal.proofs.Unique.{report-injective}
use Rattle.lard_report.specs.Readable.{IsReadable}
use Rattle.lard_report.proofs.Ranges.{path_unspaced, readable_in_range}
use Rattle.lard_schedule.specs.Events.{is_path}
use Rattle.lard_schedule.specs.Files.{is_no_question}
use Rattle.lard_audit_run.specs.Reports.{IsSoundReport, MayBeAdded}
use Rattle.lard_audit_run.proofs.Back.{wide}

recs_in_range : (recs : List Rec) → AllByRecursion IsReadable recs → All IsRecordInRange recs
recs_in_range [] fits = All-nil IsRecordInRange
recs_in_range (r ∷ recs) fits = All-cons IsRecordInRange r recs (readable_in_range r fits.0) (recs_in_range recs fits.1)

files_in_range : (files before : List (List ℕ × ℕ)) → MayBeAdded before files → All IsFileInRange files
files_in_range [] before may = All-nil IsFileInRange
files_in_range (file ∷ files) before may =
    All-cons IsFileInRange file files (path_unspaced file.0 (and_parts (is_path file.0) (list_all is_no_question file.0) may.0).0, may.1) (files_in_range files (before ++ file ∷ []) may.3)

in_range : (text : List ℕ) (r : IsSoundReport text) → IsReportInRange r.config r.files r.journal
in_range text r = record { numbers = wide r.config r.usable; paths = files_in_range r.files [] r.addable; records = recs_in_range r.journal r.readable }

pub one_report : (text : List ℕ) (r s : IsSoundReport text) → (r.config ≡ s.config) × (r.files ≡ s.files) × (r.journal ≡ s.journal)
one_report text r s = report-injective r.config s.config r.files s.files r.journal s.journal (in_range text r) (in_range text s) (sym r.is ∙ s.is)
