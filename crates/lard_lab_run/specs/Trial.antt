-- What a trace stands for, line by line: how far a lab comes, and what it writes.
use Rattle.std.specs.Prelude.{◌≡◌, ℕ, ◌+◌, ◌*◌, ◌^◌, ◌≤◌, Bool, List, [], ◌∷◌, ◌++◌, length, Option, Some, None, Result, Ok, Err, nat_lt, if◌then◌else◌}
use Rattle.std.specs.Io.KnownBytes.{Appends}
use Rattle.lard_base.specs.Causes.{Rose}
use Rattle.lard_base.specs.Config.{config_check, range_check, set_key, standard}
use Rattle.lard_base.specs.Outside.{WrotePrefix}
use Rattle.lard_base.specs.declared.config.Config.{Config}
use Rattle.lard_base.specs.declared.config.ConfigFault.{ConfigFault}
use Rattle.lard_base.specs.declared.config.Key.{Key}
use Rattle.lard_base.specs.declared.limits.TheConstants.{MAX_INPUT_BYTES}
use Rattle.lard_files.specs.declared.fault.FileFault.{FileFault}
use Rattle.lard_files.specs.declared.fault.FileFault.TheVariants as file_fault
use Rattle.lard_lab.specs.declared.event.LabEvent.{LabEvent}
use Rattle.lard_lab.specs.declared.event.LabFault.{LabFault}
use Rattle.lard_lab.specs.declared.event.LabFault.TheVariants as lab_fault
use Rattle.lard_lab.specs.declared.policy.Policy.{Policy}
use Rattle.lard_lab.specs.declared.targets.Target.{Target}
use Rattle.lard_lab.specs.Lab as lab
use Rattle.lard_lab.specs.Lab.{State, fault_of, lab_opened, opened_with, lab_told, totals_text}
use Rattle.lard_lab.specs.Laws.{line_in}
use Rattle.lard_lab.specs.Targets.{AreFresh, target_check, fresh_target}
use Rattle.lard_lab.specs.Text.{lab_heading_line}
use Rattle.lard_lines.specs.Lines.{lines_of}
use Rattle.lard_schedule.specs.declared.reader.Reader.{Reader}
use Rattle.lard_schedule.specs.declared.reader.Stage.{Stage}
use Rattle.lard_schedule.specs.declared.reader.Stage.TheVariants.{Start, Settings, Files, Running}
use Rattle.lard_schedule.specs.Reader as reader
use Rattle.lard_lab_run.specs.Items.{lab_reader_after, lab_item_of}
use Rattle.lard_lab_run.specs.declared.end.LabEnd.{LabEnd}
use Rattle.lard_lab_run.specs.declared.end.LabEnd.TheVariants.{Done, Refused, ReadFault, WriteFault, NoMemory, Limit}
use Rattle.lard_lab_run.specs.declared.end.LabLimit.TheVariants as limit
use Rattle.lard_lab_run.specs.declared.end.LabWhy.{LabWhy}
use Rattle.lard_lab_run.specs.declared.end.LabWhy.TheVariants as why
use Rattle.lard_lab_run.specs.declared.item.Item.{Item}
use Rattle.lard_lab_run.specs.declared.item.Item.TheVariants as item

-- What was read of a trace so far, and what it led to.
pub record LabProgress : Type 0 where
  pub policy : Policy
  pub reader : Reader  -- what may follow
  pub config : Config  -- the numbers that the lines have set so far
  pub targets : List (List ℕ × Target)  -- the files that the lines have added, until `go` hands them over
  pub lines : ℕ  -- how many lines were lab_passed
  pub read : ℕ  -- how many bytes these lines have, with their line feeds
  pub lab : State  -- it begins when `go` has lab_passed; before, it is one that nobody sees

-- before the first line
abbrev pub lab_begin : Policy → LabProgress
lab_begin policy = record { policy = policy; reader = reader.reader_start; config = standard; targets = []; lines = 0; read = 0; lab = lab_opened policy standard }

-- ---- what an item does, on the line that was counted last

-- a number of the configuration is kept, if it is in its key's range
abbrev pub lab_config_set : LabProgress → Key → ℕ → Result (Unit {0}) ConfigFault → Result LabProgress LabEnd
lab_config_set s key value (Ok _) = Ok (record s { config = set_key s.config key value })
lab_config_set s key value (Err fault) = Err (Refused s.lines (why.Config fault))

-- how a fault of a file ends the lab at a line
abbrev pub lab_file_ends : ℕ → FileFault → LabEnd
lab_file_ends line file_fault.Repeated = Refused line (why.File file_fault.Repeated)
lab_file_ends line (file_fault.TooLong n) = Refused line (why.File (file_fault.TooLong n))
lab_file_ends line (file_fault.TooMany n) = Refused line (why.File (file_fault.TooMany n))
lab_file_ends line (file_fault.TooMuch n) = Refused line (why.File (file_fault.TooMuch n))
lab_file_ends line file_fault.NoMemory = NoMemory

-- a file is added, if it may be
abbrev pub trace_filed : LabProgress → List ℕ → ℕ → Result (Unit {0}) FileFault → Result LabProgress LabEnd
trace_filed s path size (Ok _) = Ok (record s { targets = s.targets ++ (path, fresh_target size) ∷ [] })
trace_filed s path size (Err fault) = Err (lab_file_ends s.lines fault)

-- the lab begins with the files, if the configuration can be used
abbrev pub lab_begun : LabProgress → Result (Unit {0}) ConfigFault → Result LabProgress LabEnd
lab_begun s (Ok _) = Ok (record s { targets = []; lab = opened_with s.policy s.config s.targets })
lab_begun s (Err fault) = Err (Refused s.lines (why.Config fault))

-- how a fault of an event ends the lab at a line
abbrev pub lab_ended_by : ℕ → LabFault → LabEnd
lab_ended_by line lab_fault.NoFile = Refused line why.NoFile
lab_ended_by line (lab_fault.NotOpen i) = Refused line (why.NotOpen i)
lab_ended_by line lab_fault.Limit = Limit line limit.Requests
lab_ended_by line lab_fault.NoMemory = NoMemory

-- an event happens, if nothing speaks against it
abbrev pub lab_moved : LabProgress → LabEvent → Option LabFault → Result LabProgress LabEnd
lab_moved s e None = Ok (record s { lab = lab.lab_after s.lab e })
lab_moved s e (Some fault) = Err (lab_ended_by s.lines fault)

abbrev pub lab_taken : LabProgress → Item → Result LabProgress LabEnd
lab_taken s item.Header = Ok s
lab_taken s (item.Set key value) = lab_config_set s key value (range_check key value)
lab_taken s (item.File path size) = trace_filed s path size (target_check s.targets path size)
lab_taken s item.Go = lab_begun s (config_check s.config)
lab_taken s (item.Event e) = lab_moved s e (fault_of s.lab e)

-- ---- what is written by an item

abbrev pub heading_gain : LabProgress → Result (Unit {0}) ConfigFault → List ℕ
heading_gain s (Ok _) = lab_heading_line s.policy s.config
heading_gain s (Err fault) = []

-- the line of a request that is not refused
abbrev pub lab_event_gain : LabProgress → LabEvent → Option LabFault → List ℕ
lab_event_gain s e None = line_in (lab_told s.lab e)
lab_event_gain s e (Some fault) = []

abbrev pub lab_item_gain : LabProgress → Item → List ℕ
lab_item_gain s item.Header = []
lab_item_gain s (item.Set key value) = []
lab_item_gain s (item.File path size) = []
lab_item_gain s item.Go = heading_gain s (config_check s.config)
lab_item_gain s (item.Event e) = lab_event_gain s e (fault_of s.lab e)

-- ---- what a line does

abbrev pub lab_found : Option Item → Result Item LabWhy
lab_found None = Err why.Syntax
lab_found (Some x) = Ok x

-- what a line stands for in its place
abbrev pub lab_judged : Reader → List ℕ → Result Item LabWhy
lab_judged r line = lab_found (lab_item_of r line)

-- the line and its line feed are read
abbrev pub lab_counted : LabProgress → List ℕ → LabProgress
lab_counted s line = record s { lines = s.lines + 1; read = s.read + length line + 1 }

abbrev pub lab_followed : LabProgress → Item → LabProgress
lab_followed s x = record s { reader = lab_reader_after s.reader x }

abbrev pub lab_item_taken : LabProgress → Result Item LabWhy → Result LabProgress LabEnd
lab_item_taken s (Err why) = Err (Refused s.lines why)
lab_item_taken s (Ok x) = lab_taken (lab_followed s x) x

abbrev pub lab_judged_gain : LabProgress → Result Item LabWhy → List ℕ
lab_judged_gain s (Err why) = []
lab_judged_gain s (Ok x) = lab_item_gain (lab_followed s x) x

-- a line that goes past the limit is not read as anything
abbrev pub lab_is_past : LabProgress → List ℕ → Bool
lab_is_past s line = nat_lt MAX_INPUT_BYTES (s.read + length line + 1)

-- what a line leads to: it is passed, or it ends the lab
unfoldable pub lab_passed : LabProgress → List ℕ → Result LabProgress LabEnd
lab_passed s line =
    if lab_is_past s line then Err (Limit (s.lines + 1) limit.Input)
    else lab_item_taken (lab_counted s line) (lab_judged s.reader line)

-- what is written by it: the heading by `go`, the line of a request by that
unfoldable pub lab_gain : LabProgress → List ℕ → List ℕ
lab_gain s line = if lab_is_past s line then [] else lab_judged_gain (lab_counted s line) (lab_judged s.reader line)

-- ---- how a text ends

-- nothing comes after the last line feed: the trace is whole where `go` has passed
abbrev pub lab_ended_at : ℕ → Stage → LabEnd
lab_ended_at lines Running = Done
lab_ended_at lines Start = Refused (lines + 1) why.Syntax
lab_ended_at lines Settings = Refused (lines + 1) why.Syntax
lab_ended_at lines Files = Refused (lines + 1) why.Syntax

-- what comes after the last line feed: nothing, or a line without its end
abbrev pub lab_ending : LabProgress → List ℕ → LabEnd
lab_ending s [] = lab_ended_at s.lines s.reader.stage
lab_ending s (b ∷ bs) = if nat_lt MAX_INPUT_BYTES (s.read + length (b ∷ bs)) then Limit (s.lines + 1) limit.Input else Refused (s.lines + 1) why.Syntax

-- the totals are written where the lab is done
abbrev pub totals_at : Stage → State → List ℕ
totals_at Running l = totals_text l
totals_at Start l = []
totals_at Settings l = []
totals_at Files l = []

abbrev pub end_gain : LabProgress → List ℕ → List ℕ
end_gain s [] = totals_at s.reader.stage s.lab
end_gain s (b ∷ bs) = []

-- ---- the whole text

-- text stands before what is written
abbrev pub written_behind : List ℕ → LabEnd × List ℕ → LabEnd × List ℕ
written_behind text p = (p.0, text ++ p.1)

-- how a lab ends over lines from a state on, and what it writes
abbrev pub run_from : LabProgress → List (List ℕ) → LabEnd × List ℕ
run_from s [] = (Done, [])
run_from s (last ∷ []) = (lab_ending s last, end_gain s last)
run_from s (line ∷ next ∷ more) = elim (lab_passed s line) [ Err end ↦ (end, []) | Ok t ↦ written_behind (lab_gain s line) (run_from t (next ∷ more)) ]

-- how a lab ends over a whole text, and what it writes of it
unfoldable pub lab_whole : Policy → List ℕ → LabEnd × List ℕ
lab_whole policy text = run_from (lab_begin policy) (lines_of text)

-- the lines pass, one after another, and lead from one state to another, and this is written by them
abbrev pub LeadsInLab : LabProgress → List (List ℕ) → List ℕ → LabProgress → Type 0
LeadsInLab s [] text t = (s ≡ t) × (text ≡ [])
LeadsInLab s (line ∷ lines) text t = (u : LabProgress) × (rest : List ℕ) × (lab_passed s line ≡ Ok u) × (text ≡ lab_gain s line ++ rest) × LeadsInLab u lines rest t

-- ---- what a line's call relies on, and does

-- There are no more lines than bytes, and no more bytes than an input may have; no request was for a file before `go`; and the time is what
-- so many lines can make it.
pub record IsLabSound (s : LabProgress) : Type 0 where
  pub lines : s.lines ≤ s.read
  pub read : s.read ≤ MAX_INPUT_BYTES
  pub fresh : AreFresh s.targets
  pub time : s.lab.desk.time.0 ≤ 2 ^ 32 * s.lines

-- a text is written, or a front of it
abbrev pub WritesInLab : List ℕ → Option (List ℕ) → Option (List ℕ) → Result (Unit {0}) LabEnd → Type 0
WritesInLab text old new (Ok _) = Appends old new text
WritesInLab text old new (Err WriteFault) = WrotePrefix old new text
WritesInLab text old new (Err _) = ⊥

-- a sink's count of faults once a lab has ended: it rose where that was a write fault, and is as before else
abbrev pub EndsLabCount : ℕ → ℕ → LabEnd → Type 0
EndsLabCount before now WriteFault = Rose before now
EndsLabCount before now _ = now ≡ before

-- the same after a call that writes
abbrev pub CountsLabFault : ℕ → ℕ → Result (Unit {0}) LabEnd → Type 0
CountsLabFault before now (Ok _) = now ≡ before
CountsLabFault before now (Err end) = EndsLabCount before now end

-- What a call did that passed a line: the state and the text are those that the rules give, or the line ended the lab, and nothing was
-- written of it; a write that failed and running out of memory leave a front of the text.
abbrev pub PassesInLab : Result LabProgress LabEnd → List ℕ → Option (List ℕ) → Option (List ℕ) → LabProgress → Result (Unit {0}) LabEnd → Type 0
PassesInLab given text old new t (Ok _) = (given ≡ Ok t) × Appends old new text
PassesInLab given text old new t (Err WriteFault) = WrotePrefix old new text
PassesInLab given text old new t (Err NoMemory) = WrotePrefix old new text
PassesInLab given text old new t (Err (Refused line why)) = (given ≡ Err (Refused line why)) × Appends old new text
PassesInLab given text old new t (Err (Limit line what)) = (given ≡ Err (Limit line what)) × Appends old new text
PassesInLab given text old new t (Err Done) = ⊥
PassesInLab given text old new t (Err ReadFault) = ⊥

-- a call that writes nothing did what the rules give
abbrev pub SetsInLab : Result LabProgress LabEnd → LabProgress → Result (Unit {0}) LabEnd → Type 0
SetsInLab given t (Ok _) = given ≡ Ok t
SetsInLab given t (Err end) = given ≡ Err end

-- a call that keeps something did what the rules give, or memory ran out
abbrev pub AddsInLab : Result LabProgress LabEnd → LabProgress → Result (Unit {0}) LabEnd → Type 0
AddsInLab given t (Ok _) = given ≡ Ok t
AddsInLab given t (Err NoMemory) = Unit {0}
AddsInLab given t (Err (Refused line why)) = given ≡ Err (Refused line why)
AddsInLab given t (Err _) = ⊥

-- What a call did at the text's end: the lab ended as the rules give, and what they give was written; or it was done, and a front of the totals
-- was.
abbrev pub Finishes : LabEnd → List ℕ → Option (List ℕ) → Option (List ℕ) → LabEnd → Type 0
Finishes given text old new WriteFault = (given ≡ Done) × WrotePrefix old new text
Finishes given text old new NoMemory = (given ≡ Done) × WrotePrefix old new text
Finishes given text old new end = (given ≡ end) × Appends old new text

-- a call found how a text ends: the lab is done, with the totals to be written, or it ended otherwise, with nothing more
abbrev pub IsJudged : LabProgress → List ℕ → Result (Unit {0}) LabEnd → Type 0
IsJudged s rest (Ok _) = (lab_ending s rest ≡ Done) × (end_gain s rest ≡ totals_text s.lab)
IsJudged s rest (Err (Refused line why)) = (lab_ending s rest ≡ Refused line why) × (end_gain s rest ≡ [])
IsJudged s rest (Err (Limit line what)) = (lab_ending s rest ≡ Limit line what) × (end_gain s rest ≡ [])
IsJudged s rest (Err _) = ⊥
