-- Why an audit ends as it does, in words of the text's lines, of the rules, and of what the lines before have told.
use Rattle.std.specs.Prelude.{◌≡◌, ◌≢◌, ◌⊎◌, ℕ, ◌+◌, ◌^◌, ◌<◌, ◌≤◌, true, List, [], ◌∷◌, ◌++◌, length, Some, Err}
use Rattle.lard_audit.specs.Sound.{broken}
use Rattle.lard_audit.specs.State.{audit_add_check}
use Rattle.lard_base.specs.Config.{config_check}
use Rattle.lard_journal.specs.Report.{file_text, heading_line}
use Rattle.lard_journal.specs.declared.rec.Rec.{Rec}
use Rattle.lard_report.specs.Laws.{IsLineOfRecord}
use Rattle.lard_report.specs.Preface.{IsHeadingWide, heading_config}
use Rattle.lard_report.specs.declared.preface.Heading.{Heading}
use Rattle.lard_schedule.specs.Files.{is_file_path}
use Rattle.lard_audit_run.specs.declared.auditor.Stage.{Stage}
use Rattle.lard_audit_run.specs.declared.auditor.Stage.TheVariants as stage
use Rattle.lard_audit_run.specs.declared.verdict.Flaw.{Flaw}
use Rattle.lard_audit_run.specs.declared.verdict.Flaw.TheVariants as flaw
use Rattle.lard_audit_run.specs.declared.verdict.Verdict.{Verdict}
use Rattle.lard_audit_run.specs.declared.verdict.Verdict.TheVariants.{Sound, Refused, TooLong}
use Rattle.lard_audit_run.specs.Audited.{Course, AuditLeads, audit_begin}

-- the bytes of lines, with their line feeds
abbrev pub audit_bytes_in : List (List ℕ) → ℕ
audit_bytes_in [] = 0
audit_bytes_in (line ∷ lines) = (length line + 1) + audit_bytes_in lines

-- with its line feed the line is the heading with these numbers
abbrev pub IsHeadingOf : List ℕ → Heading → Type 0
IsHeadingOf line h = (line ++ 10 ∷ [] ≡ heading_line (heading_config h)) × IsHeadingWide h

-- with its line feed it is that of a file with this path and length
abbrev pub IsFileOf : List ℕ → List ℕ → ℕ → Type 0
IsFileOf line path size = (line ++ 10 ∷ [] ≡ file_text (path, size)) × (is_file_path path ≡ true) × (size < 2 ^ 64)

-- it is none that may stand here: the heading comes first, and files before the first record
abbrev pub IsAuditNone : List ℕ → Stage → Type 0
IsAuditNone line stage.Heading = (h : Heading) → ¬ IsHeadingOf line h
IsAuditNone line stage.Files = ((path : List ℕ) (size : ℕ) → ¬ IsFileOf line path size) × ((r : Rec) → ¬ IsLineOfRecord line r)
IsAuditNone line stage.Records = (r : Rec) → ¬ IsLineOfRecord line r

-- Why a line is refused in its place. Of the numbers of a heading it is the first fault in their order; of a file and of a record the
-- first cause, and the first rule.
abbrev pub AuditRefuses : Course → List ℕ → Flaw → Type 0
AuditRefuses s line flaw.Syntax = IsAuditNone line s.stage
AuditRefuses s line (flaw.Config fault) = (s.stage ≡ stage.Heading) × ((h : Heading) × IsHeadingOf line h × (config_check (heading_config h) ≡ Err fault))
AuditRefuses s line (flaw.File fault) = (s.stage ≡ stage.Files) × ((path : List ℕ) × (size : ℕ) × IsFileOf line path size × (audit_add_check s.files path size ≡ Err fault))
AuditRefuses s line (flaw.Broken rule) = (s.stage ≢ stage.Heading) × ((r : Rec) × IsLineOfRecord line r × (broken s.config s.files s.journal r ≡ Some rule))

-- how a line ends the audit, after n lines of so many bytes: it holds the byte after the limit, or it is refused
abbrev pub AuditEndsLine : Course → ℕ → ℕ → List ℕ → Verdict → Type 0
AuditEndsLine s n bytes line (TooLong number) = (number ≡ n + 1) × (2 ^ 30 < bytes + (length line + 1))
AuditEndsLine s n bytes line (Refused number flaw) = (number ≡ n + 1) × (bytes + (length line + 1) ≤ 2 ^ 30) × AuditRefuses s line flaw
AuditEndsLine s n bytes line _ = ⊥

-- how the text behind the line feed of the last line ends it: it is to be empty, and the heading is to have passed
abbrev pub AuditEndsText : Course → ℕ → ℕ → List ℕ → Verdict → Type 0
AuditEndsText s n bytes last (Sound count) = (last ≡ []) × (s.stage ≢ stage.Heading) × (count ≡ length s.journal)
AuditEndsText s n bytes last (Refused number flaw.Syntax) = (number ≡ n + 1) × (bytes + length last ≤ 2 ^ 30) × ((last ≢ []) ⊎ (s.stage ≡ stage.Heading))
AuditEndsText s n bytes last (TooLong number) = (number ≡ n + 1) × (2 ^ 30 < bytes + length last)
AuditEndsText s n bytes last _ = ⊥

-- what is left behind the lines that passed ends the audit
abbrev pub AuditEndsRest : Course → ℕ → ℕ → List (List ℕ) → Verdict → Type 0
AuditEndsRest s n bytes [] verdict = ⊥
AuditEndsRest s n bytes (last ∷ []) verdict = AuditEndsText s n bytes last verdict
AuditEndsRest s n bytes (line ∷ next ∷ more) verdict = AuditEndsLine s n bytes line verdict

-- Some lines pass, and the next ends the audit.
pub record AuditCause (lines : List (List ℕ)) (verdict : Verdict) : Type 0 where
  pub before : List (List ℕ)
  pub rest : List (List ℕ)
  pub are : lines ≡ before ++ rest
  pub course : Course
  pub leads : AuditLeads audit_begin before course
  pub ends : AuditEndsRest course (length before) (audit_bytes_in before) rest verdict
