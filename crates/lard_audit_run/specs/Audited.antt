-- What the audit of a text comes to: its lines are taken one after another, and the first that is none in its place, or whose record is
-- not sound, ends it.
use Rattle.std.specs.Prelude.{◌≡◌, ℕ, ◌+◌, List, [], ◌∷◌, ◌++◌, length, Option, Some, None, Result, Ok, Err, nat_lt, codes, decimal, if◌then◌else◌}
use Rattle.lard_audit.specs.declared.rule.Rule.{Rule}
use Rattle.lard_audit.specs.Sound.{broken}
use Rattle.lard_audit.specs.State.{audit_add_check}
use Rattle.lard_base.specs.Config.{config_check, standard}
use Rattle.lard_base.specs.declared.config.Config.{Config}
use Rattle.lard_base.specs.declared.config.ConfigFault.{ConfigFault}
use Rattle.lard_files.specs.declared.fault.FileFault.{FileFault}
use Rattle.lard_journal.specs.declared.rec.Rec.{Rec}
use Rattle.lard_lines.specs.Lines.{lines_of}
use Rattle.lard_report.specs.Preface.{heading_config, file_line_of, heading_of}
use Rattle.lard_report.specs.Records.{record_of}
use Rattle.lard_report.specs.declared.preface.Heading.{Heading}
use Rattle.lard_audit_run.specs.declared.auditor.Stage.{Stage}
use Rattle.lard_audit_run.specs.declared.auditor.Stage.TheVariants as stage
use Rattle.lard_audit_run.specs.declared.auditor.TheConstants.{MAX_REPORT_BYTES}
use Rattle.lard_audit_run.specs.declared.verdict.Flaw.{Flaw}
use Rattle.lard_audit_run.specs.declared.verdict.Flaw.TheVariants as flaw
use Rattle.lard_audit_run.specs.declared.verdict.Verdict.{Verdict}
use Rattle.lard_audit_run.specs.declared.verdict.Verdict.TheVariants.{Sound, Refused, TooLong}

-- what the lines so far have told: what may come next, the configuration, the files with their lengths, and the records; and how many
-- lines they are, of how many bytes
pub record Course : Type 0 where
  pub stage : Stage
  pub config : Config
  pub files : List (List ℕ × ℕ)
  pub journal : List Rec
  pub lines : ℕ
  pub read : ℕ

-- nothing was read; until the heading has passed, the standard numbers stand for a configuration
abbrev pub audit_begin : Course
audit_begin = record { stage = stage.Heading; config = standard; files = []; journal = []; lines = 0; read = 0 }

-- ---- what a line stands for, in its place

-- a configuration, where it can be used
abbrev pub audit_configured : Config → Result (Unit {0}) ConfigFault → Result Config ConfigFault
audit_configured config (Ok _) = Ok config
audit_configured config (Err fault) = Err fault

-- the heading tells the configuration, and there are no files and no records yet
abbrev pub begun : Course → Result Config ConfigFault → Result Course Flaw
begun s (Ok config) = Ok (record s { stage = stage.Files; config = config; files = []; journal = [] })
begun s (Err fault) = Err (flaw.Config fault)

abbrev pub headed : Course → Option Heading → Result Course Flaw
headed s (Some h) = begun s (audit_configured (heading_config h) (config_check (heading_config h)))
headed s None = Err flaw.Syntax

-- a file comes to those before
abbrev pub audit_filed : Course → List ℕ × ℕ → Result (Unit {0}) FileFault → Result Course Flaw
audit_filed s file (Ok _) = Ok (record s { files = s.files ++ file ∷ [] })
audit_filed s file (Err fault) = Err (flaw.File fault)

-- a record comes to those before, where it breaks no rule
abbrev pub ruled : Course → Rec → Option Rule → Result Course Flaw
ruled s r None = Ok (record s { stage = stage.Records; journal = s.journal ++ r ∷ [] })
ruled s r (Some rule) = Err (flaw.Broken rule)

abbrev pub recorded : Course → Option Rec → Result Course Flaw
recorded s (Some r) = ruled s r (broken s.config s.files s.journal r)
recorded s None = Err flaw.Syntax

-- as long as no record came, a line may be that of a file
abbrev pub audit_listed : Course → List ℕ → Option (List ℕ × ℕ) → Result Course Flaw
audit_listed s line (Some file) = audit_filed s file (audit_add_check s.files file.0 file.1)
audit_listed s line None = recorded s (record_of line)

abbrev pub entered_at : Stage → Course → List ℕ → Result Course Flaw
entered_at stage.Heading s line = headed s (heading_of line)
entered_at stage.Files s line = audit_listed s line (file_line_of line)
entered_at stage.Records s line = recorded s (record_of line)

unfoldable pub audit_entered : Course → List ℕ → Result Course Flaw
audit_entered s line = entered_at s.stage s line

-- ---- lines

-- the line and its line feed are read
abbrev pub counted : List ℕ → Course → Course
counted line t = record t { lines = t.lines + 1; read = t.read + length line + 1 }

abbrev pub taken : ℕ → List ℕ → Result Course Flaw → Result Course Verdict
taken number line (Ok t) = Ok (counted line t)
taken number line (Err flaw) = Err (Refused number flaw)

-- what a line leads to: it is passed, or it ends the audit. One that goes past the limit is not read as anything.
unfoldable pub audit_passed : Course → List ℕ → Result Course Verdict
audit_passed s line = if nat_lt MAX_REPORT_BYTES (s.read + length line + 1) then Err (TooLong (s.lines + 1)) else taken (s.lines + 1) line (audit_entered s line)

-- the lines pass, one after another, and lead from one course to another
abbrev pub AuditLeads : Course → List (List ℕ) → Course → Type 0
AuditLeads s [] t = s ≡ t
AuditLeads s (line ∷ lines) t = (u : Course) × (audit_passed s line ≡ Ok u) × AuditLeads u lines t

-- ---- how a text ends

-- nothing comes after the last line feed: the report is whole where its heading has passed
abbrev pub ended_at : Course → Stage → Verdict
ended_at s stage.Heading = Refused (s.lines + 1) flaw.Syntax
ended_at s stage.Files = Sound (length s.journal)
ended_at s stage.Records = Sound (length s.journal)

-- what comes after the last line feed: nothing, or a line without its end
abbrev pub audit_ending : Course → List ℕ → Verdict
audit_ending s [] = ended_at s s.stage
audit_ending s (b ∷ bs) = if nat_lt MAX_REPORT_BYTES (s.read + length (b ∷ bs)) then TooLong (s.lines + 1) else Refused (s.lines + 1) flaw.Syntax

-- ---- the whole text

-- the verdict on lines, behind those that passed
abbrev pub audit_judged : Course → List (List ℕ) → Verdict
audit_judged s [] = audit_ending s []
audit_judged s (last ∷ []) = audit_ending s last
audit_judged s (line ∷ next ∷ more) = elim (audit_passed s line) [ Err verdict ↦ verdict | Ok t ↦ audit_judged t (next ∷ more) ]

unfoldable pub audited : List ℕ → Verdict
audited text = audit_judged audit_begin (lines_of text)

-- what is written of a sound report with so many records
abbrev pub records_line : ℕ → List ℕ
records_line n = codes "records " ++ decimal n ++ codes "\n"
