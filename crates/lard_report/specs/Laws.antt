-- A line stands for what has this line, and for nothing else.
use Rattle.std.specs.Prelude.{◌≡◌, ◌↔◌, ℕ, ◌<◌, ◌^◌, true, List, [], ◌∷◌, ◌++◌, Some, None}
use Rattle.lard_base.specs.Spelling.{sentence}
use Rattle.lard_journal.specs.declared.rec.Rec.{Rec}
use Rattle.lard_journal.specs.Range.{IsRecordInRange}
use Rattle.lard_journal.specs.Report.{file_text, heading_line, rec_line, rec_words}
use Rattle.lard_schedule.specs.Files.{is_file_path}
use Rattle.lard_report.specs.declared.preface.Heading.{Heading}
use Rattle.lard_report.specs.Preface.{IsHeadingWide, heading_config, file_line_of, heading_of}
use Rattle.lard_report.specs.Readable.{IsReadable}
use Rattle.lard_report.specs.Records.{record_of}

-- with its line feed the line is that of the record, and a line can stand for the record
abbrev pub IsLineOfRecord : List ℕ → Rec → Type 0
IsLineOfRecord line r = (line ++ 10 ∷ [] ≡ rec_line r) × IsReadable r

-- a line is read as a record exactly where it is the record's
abbrev pub RecordsAreRead : Type 0
RecordsAreRead = (line : List ℕ) (r : Rec) → (record_of line ≡ Some r) ↔ IsLineOfRecord line r

-- and as none exactly where it is no record's
abbrev pub OthersAreNot : Type 0
OthersAreNot = (line : List ℕ) → (record_of line ≡ None) ↔ ((r : Rec) → ¬ IsLineOfRecord line r)

-- the line of a record that a line can stand for is read as this record
abbrev pub RecordsAreReadAgain : Type 0
RecordsAreReadAgain = (r : Rec) → IsReadable r → record_of (sentence (rec_words r)) ≡ Some r

-- the records that a line can stand for are of those that their lines tell apart
abbrev pub ReadableAreInRange : Type 0
ReadableAreInRange = (r : Rec) → IsReadable r → IsRecordInRange r

-- a line is read as nine numbers exactly where it is the heading with these numbers
abbrev pub HeadingsAreRead : Type 0
HeadingsAreRead = (line : List ℕ) (h : Heading) → (heading_of line ≡ Some h) ↔ ((line ++ 10 ∷ [] ≡ heading_line (heading_config h)) × IsHeadingWide h)

-- a line is read as a path and a length exactly where it is the line of a file of this path and length
abbrev pub FilesAreRead : Type 0
FilesAreRead = (line path : List ℕ) (size : ℕ)
    → (file_line_of line ≡ Some (path, size)) ↔ ((line ++ 10 ∷ [] ≡ file_text (path, size)) × (is_file_path path ≡ true) × (size < 2 ^ 64))
