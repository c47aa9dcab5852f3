-- What an answer of `run` says: of the bytes that were read and written, of what they stand for, and of its journal.
use Rattle.std.specs.Prelude.{◌≡◌, ◌↔◌, ℕ, ◌+◌, ◌^◌, ◌≤◌, ◌⊎◌, List, [], ◌∷◌, ◌++◌, length, Option, Some, None, Err}
use Rattle.std.specs.Io.KnownBytes.{Appends, Consumes, IsAtEnd}
use Rattle.lard_law_view.specs.Prelude.{Config, Event, MAX_INPUT_BYTES, Rec, WrotePrefix}
use Rattle.lard_grammar.specs.Schedule.{IsSchedule, text_of}
use Rattle.lard_lines.specs.Lines.{lines_of}
use Rattle.lard_audit_run.specs.Audited.{audited}
use Rattle.lard_audit_run.specs.declared.verdict.Verdict.TheVariants.{Sound}
use Rattle.lard_report.specs.Formed.{HaveWidths}
use Rattle.lard_schedule.specs.declared.reader.Stage.TheVariants.{Running}
use Rattle.lard_app.specs.Causes.{EndsRun, Leads}
use Rattle.lard_app.specs.Happened.{Happened}
use Rattle.lard_app.specs.declared.status.Status.{Status}
use Rattle.lard_app.specs.declared.status.Status.TheVariants.{Done, Usage, Refused, ReadFault, WriteFault, NoMemory, Limit}
use Rattle.lard_app.specs.Replay.{Progress, begin, begun_by, config_of, events_of, files_of, gain, halted, journal_of, line_passed, report_of, file_sizes, whole}

-- ---- how a run ends over the text that it read

-- the status is that of the whole text, and the whole report of its replay was written
pub record CompletesText (status : Status) (text : List ℕ) (old new : Option (List ℕ)) : Type 0 where
  pub status_is : (whole text).1 ≡ status
  pub written : Appends old new (report_of (whole text).0)

-- the text is the whole input, or whatever follows it, its replay is the same
abbrev pub DecidesReplay : List ℕ → Option (List ℕ) → Type 0
DecidesReplay text left = IsAtEnd left ⊎ ((more : List ℕ) → whole (text ++ more) ≡ whole text)

-- each line of the text that has its line feed was passed
abbrev pub HasPassed : List ℕ → Type 0
HasPassed text = (lines : List (List ℕ)) × (last : List ℕ) × (lines_of text ≡ lines ++ last ∷ []) × Leads begin lines (whole text).0

-- The text is lines that were passed, with their whole report written, and one more, which was taken: of what came of it a front was
-- written.
pub record EndsInLine (text : List ℕ) (old new : Option (List ℕ)) : Type 0 where
  pub lines : List (List ℕ)
  pub line : List ℕ
  pub are : lines_of text ≡ lines ++ line ∷ [] ∷ []
  pub state : Progress
  pub leads : Leads begin lines state
  pub between : Option (List ℕ)
  pub written : Appends old between (report_of state)
  pub front : WrotePrefix between new (gain state line)

-- the text is lines that were passed, with their whole report written
pub record EndsBehindLines (text : List ℕ) (old new : Option (List ℕ)) : Type 0 where
  pub lines : List (List ℕ)
  pub are : lines_of text ≡ lines ++ [] ∷ []
  pub state : Progress
  pub leads : Leads begin lines state
  pub written : Appends old new (report_of state)

-- A fault of reading comes behind lines that were all passed, and leaves their report. A fault of writing comes in a line, and memory runs
-- out in a line or behind one: the text is the lines that were taken by then.
abbrev pub Ended : Status → List ℕ → Option (List ℕ) → Option (List ℕ) → Option (List ℕ) → Type 0
Ended Done text left old new = IsAtEnd left × (length text ≤ MAX_INPUT_BYTES) × CompletesText Done text old new
Ended (Refused line why) text left old new = DecidesReplay text left × CompletesText (Refused line why) text old new
Ended (Limit line what) text left old new = DecidesReplay text left × CompletesText (Limit line what) text old new
Ended ReadFault text left old new = (length text ≤ MAX_INPUT_BYTES) × HasPassed text × Appends old new (report_of (whole text).0)
Ended WriteFault text left old new = EndsInLine text old new
Ended NoMemory text left old new = EndsInLine text old new ⊎ EndsBehindLines text old new
Ended Usage text left old new = ⊥

-- The run tells of all that was read; or, where a write failed or memory ran out, of a front of it.
abbrev pub TellsOfRead : Status → List ℕ → List ℕ → Type 0
TellsOfRead WriteFault read text = (behind : List ℕ) × (read ≡ text ++ behind)
TellsOfRead NoMemory read text = (behind : List ℕ) × (read ≡ text ++ behind)
TellsOfRead _ read text = read ≡ text

-- where the whole report was written, the numbers of its records have the ranges of their types
abbrev pub TellsWidths : Status → List ℕ → Type 0
TellsWidths WriteFault text = Unit {0}
TellsWidths NoMemory text = Unit {0}
TellsWidths _ text = HaveWidths (journal_of text)

-- what was read, the text of it that the run tells of, and how the run ended over that
pub record ReadsInput (status : Status) (left left_now old new : Option (List ℕ)) : Type 0 where
  pub read : List ℕ
  pub consumed : Consumes left left_now read
  pub bounded : length read ≤ MAX_INPUT_BYTES + 1
  pub text : List ℕ
  pub told : TellsOfRead status read text
  pub wrote : WrotePrefix old new (report_of (whole text).0)
  pub ended : Ended status text left_now old new
  pub widths : TellsWidths status text

-- ---- what a text stands for

-- how a replay ends behind the lines that passed, before the rest: nothing more happened; or the next line ends the run, and what
-- happened of its event is the last
abbrev pub EndsBehind : Progress → List (List ℕ) → Progress → List Event → Type 0
EndsBehind s rest t last =
    ((t ≡ s) × (last ≡ [])) ⊎ ((line : List ℕ) × (more : List (List ℕ)) × (status : Status) × (rest ≡ line ∷ more) × (line_passed s line ≡ Err status) × (t ≡ halted s line) × (last ≡ begun_by s line))

-- The lines of a text that are passed are a front of it. Where `go` is among them they are a schedule, which stands for
-- this configuration, these files and these events, but for a last one in which the run ended; and where the replay is done, they are
-- the whole text.
pub record Passed (text : List ℕ) (config : Config) (files : List (List ℕ × List ℕ)) (events : List Event) : Type 0 where
  pub lines : List (List ℕ)
  pub behind : List ℕ
  pub cut : text ≡ text_of lines ++ behind
  pub rest : List (List ℕ)
  pub parts : lines_of text ≡ lines ++ rest
  pub state : Progress
  pub leads : Leads begin lines state
  pub done : List Event
  pub last : List Event
  pub are : events ≡ done ++ last
  pub ends : EndsBehind state rest (whole text).0 last
  pub schedule : state.reader.stage ≡ Running → IsSchedule (text_of lines) config files done
  pub all : (whole text).1 ≡ Done → (behind ≡ []) × (last ≡ [])

-- ---- what an audit says of the report

-- Where the whole report was written, behind a `go`, an audit passes it, with as many records as the journal has, unless it is too long.
abbrev pub PassesAudit : Status → List ℕ → Type 0
PassesAudit WriteFault text = Unit {0}
PassesAudit NoMemory text = Unit {0}
PassesAudit _ text = (whole text).0.reader.stage ≡ Running → length (report_of (whole text).0) ≤ 2 ^ 30 → audited (report_of (whole text).0) ≡ Sound (length (journal_of text))

-- ---- the whole of a run

-- All that a run says: what was read, the text of it that the run tells of, what that stands for, how the run ended over it, and the
-- journal with its laws.
pub record Ran (status : Status) (left left_now old new : Option (List ℕ)) : Type 0 where
  -- the bytes that were read, at most 2^26 + 1
  pub read : List ℕ
  pub consumed : Consumes left left_now read
  pub bounded : length read ≤ MAX_INPUT_BYTES + 1
  -- All of them are the text; or, where a write failed or memory ran out, the lines that were taken by then. Of its report a front was
  -- written, and which one the status says.
  pub text : List ℕ
  pub told : TellsOfRead status read text
  pub wrote : WrotePrefix old new (report_of (whole text).0)
  pub ended : Ended status text left_now old new
  -- the text's replay ends with a status exactly where a line, or the text's end, gives its cause
  pub causes : (other : Status) → ((whole text).1 ≡ other) ↔ EndsRun (lines_of text) other
  -- what its lines that were passed stand for, with a settle in which its replay ends, and the journal of the replay
  pub config : Config
  pub files : List (List ℕ × List ℕ)
  pub events : List Event
  pub journal : List Rec
  pub are : (config_of text ≡ config) × (files_of text ≡ files) × (events_of text ≡ events) × (journal_of text ≡ journal)
  pub passed : Passed text config files events
  -- the journal is the machine's after these events, and obeys every law
  pub happened : Happened config files events journal
  -- The report tells all of this: a text with the same report has the same configuration, files with the same paths and lengths, and
  -- the same journal.
  pub tells_all : (also : List ℕ) → report_of (whole text).0 ≡ report_of (whole also).0
      → (config ≡ config_of also) × (file_sizes files ≡ file_sizes (files_of also)) × (journal ≡ journal_of also)
  -- the report passes an audit
  pub passes_audit : PassesAudit status text

-- the status is that of a known input, unless memory ran out
abbrev pub IsSettled : Status → Option (List ℕ) → Type 0
IsSettled status None = Unit {0}
IsSettled status (Some input) = (status ≡ (whole input).1) ⊎ (status ≡ NoMemory)
