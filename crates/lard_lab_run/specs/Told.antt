-- What the lines of a trace stand for, and that what is written of them is the report of that.
use Rattle.std.specs.Prelude.{◌≡◌, ◌↔◌, ℕ, ◌+◌, ◌≤◌, List, [], ◌∷◌, ◌++◌, length, Option, Some, None, Ok}
use Rattle.std.specs.Io.KnownBytes.{Consumes}
use Rattle.lard_base.specs.Config.{config_check, set_key, standard}
use Rattle.lard_base.specs.Outside.{WrotePrefix}
use Rattle.lard_base.specs.declared.config.Config.{Config}
use Rattle.lard_base.specs.declared.limits.TheConstants.{MAX_INPUT_BYTES}
use Rattle.lard_lab.specs.declared.event.LabEvent.{LabEvent}
use Rattle.lard_lab.specs.declared.policy.Policy.{Policy}
use Rattle.lard_lab.specs.Laws.{PassAll, lab_with, told_all}
use Rattle.lard_lab.specs.Report.{File, lab_report}
use Rattle.lard_lab.specs.Text.{lab_heading_line}
use Rattle.lard_lines.specs.Lines.{lines_of}
use Rattle.lard_schedule.specs.declared.reader.Reader.{Reader}
use Rattle.lard_schedule.specs.declared.reader.Stage.{Stage}
use Rattle.lard_schedule.specs.declared.reader.Stage.TheVariants.{Start, Settings, Files, Running}
use Rattle.lard_schedule.specs.Reader as reader
use Rattle.lard_lab_run.specs.Causes.{EndsLab}
use Rattle.lard_lab_run.specs.Items.{lab_reader_after, lab_item_of}
use Rattle.lard_lab_run.specs.Run.{LabEnded, IsLabTold}
use Rattle.lard_lab_run.specs.Trial.{LeadsInLab, LabProgress, lab_begin, lab_whole}
use Rattle.lard_lab_run.specs.declared.end.LabEnd.{LabEnd}
use Rattle.lard_lab_run.specs.declared.end.LabEnd.TheVariants.{Done}
use Rattle.lard_lab_run.specs.declared.item.Item.{Item}
use Rattle.lard_lab_run.specs.declared.item.Item.TheVariants as item

-- ---- a trace

-- what lines stand for: the numbers, the files, and the events
pub record Trace : Type 0 where
  pub config : Config
  pub files : List File
  pub events : List LabEvent

abbrev pub no_trace : Trace
no_trace = record { config = standard; files = []; events = [] }

abbrev pub lab_with_item : Trace → Item → Trace
lab_with_item t item.Header = t
lab_with_item t (item.Set key value) = record t { config = set_key t.config key value }
lab_with_item t (item.File path size) = record t { files = t.files ++ (path, size) ∷ [] }
lab_with_item t item.Go = t
lab_with_item t (item.Event e) = record t { events = t.events ++ e ∷ [] }

-- the lines behind others, one after another, as long as each stands for something in its place
abbrev pub lab_read_from : Reader → Trace → List (List ℕ) → Trace
lab_read_from r t [] = t
lab_read_from r t (line ∷ lines) = elim (lab_item_of r line) [ None ↦ t | Some x ↦ lab_read_from (lab_reader_after r x) (lab_with_item t x) lines ]

abbrev pub trace_of : List (List ℕ) → Trace
trace_of lines = lab_read_from reader.reader_start no_trace lines

-- ---- what is written

-- Of lines that passed: nothing before `go`; behind it the heading, and the lines of the requests so far, none of which was refused.
abbrev pub IsSoFar : Policy → Stage → Trace → List ℕ → Type 0
IsSoFar policy Running t told =
    (config_check t.config ≡ Ok tt) × PassAll (lab_with policy t.config t.files) t.events × (told ≡ lab_heading_line policy t.config ++ told_all (lab_with policy t.config t.files) t.events)
IsSoFar policy Start t told = told ≡ []
IsSoFar policy Settings t told = told ≡ []
IsSoFar policy Files t told = told ≡ []

-- The text is lines, each with its line feed, and this is the report of the trace that they are.
pub record IsReport (policy : Policy) (text report : List ℕ) : Type 0 where
  pub lines : List (List ℕ)
  pub are : lines_of text ≡ lines ++ [] ∷ []
  pub is : report ≡ lab_report policy (trace_of lines).config (trace_of lines).files (trace_of lines).events

-- ---- the whole of a lab

-- All that the command says: what was read, the text of it that the lab tells of, how the lab ended over it, why, and what was written.
pub record LabRan (policy : Policy) (end : LabEnd) (left left_now old new : Option (List ℕ)) : Type 0 where
  -- the bytes that were read, at most 2^26 + 1
  pub read : List ℕ
  pub consumed : Consumes left left_now read
  pub bounded : length read ≤ MAX_INPUT_BYTES + 1
  -- All of them are the text; or, where a write failed or memory ran out, the lines that were taken by then. Of what it gives a front was
  -- written, and which one the end says.
  pub text : List ℕ
  pub told : IsLabTold end read text
  pub wrote : WrotePrefix old new (lab_whole policy text).1
  pub ended : LabEnded policy end text left_now old new
  -- the lab ends over the text so exactly where a line, or the text's end, gives its cause
  pub causes : (other : LabEnd) → ((lab_whole policy text).0 ≡ other) ↔ EndsLab policy (lines_of text) other
  -- what is written of lines that pass
  pub so_far : (lines : List (List ℕ)) (written : List ℕ) (s : LabProgress) → LeadsInLab (lab_begin policy) lines written s → IsSoFar policy s.reader.stage (trace_of lines) written
  -- where the lab is done, it is the whole report of the trace
  pub report : (lab_whole policy text).0 ≡ Done → IsReport policy text (lab_whole policy text).1
