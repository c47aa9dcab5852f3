-- What a schedule stands for, line by line: how far a replay comes, and what its report gains.
use Rattle.std.specs.Prelude.{◌≡◌, ℕ, ◌+◌, ◌≤◌, Bool, List, [], ◌∷◌, ◌++◌, length, map, drop, Option, Some, None, Result, Ok, Err, nat_lt, if◌then◌else◌}
use Rattle.std.specs.List.{flat_map}
use Rattle.std.specs.Io.KnownBytes.{Appends}
use Rattle.lard_law_view.specs.Prelude.{Config, ConfigFault, Event, FileFault, Key, MAX_INPUT_BYTES, Machine, Rec, Rose, StepFault, WrotePrefix, add_check, config_check, file_text, heading_line, range_check, rec_line, report, set_key, standard}
use Rattle.lard_rules.specs.Machine as machine
use Rattle.lard_rules.specs.declared.fault.StepFault.TheVariants as fault
use Rattle.lard_files.specs.declared.fault.FileFault.TheVariants as file_fault
use Rattle.lard_lines.specs.Lines.{lines_of}
use Rattle.lard_rules.specs.declared.fault.What.TheVariants.{Input}
use Rattle.lard_schedule.specs.declared.item.Item.{Item}
use Rattle.lard_schedule.specs.declared.item.Item.TheVariants as item
use Rattle.lard_schedule.specs.declared.reader.Reader.{Reader}
use Rattle.lard_schedule.specs.declared.reader.Stage.{Stage}
use Rattle.lard_schedule.specs.declared.reader.Stage.TheVariants.{Start, Settings, Files, Running}
use Rattle.lard_schedule.specs.Reader.{reader_after, item_of}
use Rattle.lard_schedule.specs.Reader as reader
use Rattle.lard_settling.specs.Events.{event_step}
use Rattle.lard_settling.specs.Settling.{Stop}
use Rattle.lard_app.specs.declared.status.Status.{Status}
use Rattle.lard_app.specs.declared.status.Status.TheVariants.{Done, Usage, Refused, ReadFault, WriteFault, NoMemory, Limit}
use Rattle.lard_app.specs.declared.status.Why.{Why}
use Rattle.lard_app.specs.declared.status.Why.TheVariants as why

-- What was read of a schedule so far, and what it led to.
pub record Progress : Type 0 where
  pub reader : Reader  -- what may follow
  pub config : Config  -- the numbers that the lines have set so far
  pub files : List (List ℕ × List ℕ)  -- the files that the lines have added, each a path and its bytes, until `go` hands them over
  pub listed : List ℕ  -- their lines in the report
  pub lines : ℕ  -- how many lines were passed
  pub read : ℕ  -- how many bytes these lines have, with their line feeds
  pub machine : Machine  -- it begins when `go` has passed; before, it is one that nobody sees

-- before the first line
abbrev pub begin : Progress
begin = record { reader = reader.reader_start; config = standard; files = []; listed = []; lines = 0; read = 0; machine = machine.machine_start standard [] }

-- ---- what an item does, on the line that was counted last

-- a number of the configuration is kept, if it is in its key's range
abbrev pub config_set : Progress → Key → ℕ → Result (Unit {0}) ConfigFault → Result Progress Status
config_set s key value (Ok _) = Ok (record s { config = set_key s.config key value })
config_set s key value (Err fault) = Err (Refused s.lines (why.Config fault))

-- how a fault of a file ends the run at a line
abbrev pub file_ends : ℕ → FileFault → Status
file_ends line file_fault.Repeated = Refused line (why.File file_fault.Repeated)
file_ends line (file_fault.TooLong n) = Refused line (why.File (file_fault.TooLong n))
file_ends line (file_fault.TooMany n) = Refused line (why.File (file_fault.TooMany n))
file_ends line (file_fault.TooMuch n) = Refused line (why.File (file_fault.TooMuch n))
file_ends line file_fault.NoMemory = NoMemory

-- a file is added, if it may be
abbrev pub filed : Progress → List ℕ → List ℕ → Result (Unit {0}) FileFault → Result Progress Status
filed s path bytes (Ok _) = Ok (record s { files = s.files ++ (path, bytes) ∷ []; listed = s.listed ++ file_text (path, length bytes) })
filed s path bytes (Err fault) = Err (file_ends s.lines fault)

-- the machine begins with the files, if the configuration can be used
abbrev pub replay_begun : Progress → Result (Unit {0}) ConfigFault → Result Progress Status
replay_begun s (Ok _) = Ok (record s { files = []; listed = []; machine = machine.machine_start s.config s.files })
replay_begun s (Err fault) = Err (Refused s.lines (why.Config fault))

-- how a fault of a step ends the run at a line
abbrev pub ended_by : ℕ → StepFault → Status
ended_by line (fault.Refused reason) = Refused line (why.Untimely reason)
ended_by line (fault.Limit what) = Limit line what
ended_by line fault.NoMemory = NoMemory

-- a step or a settle is done, or it ends the run
abbrev pub replay_moved : Progress → Result Machine Stop → Result Progress Status
replay_moved s (Ok m) = Ok (record s { machine = m })
replay_moved s (Err stop) = Err (ended_by s.lines stop.1)

abbrev pub taken_item : Progress → Item → Result Progress Status
taken_item s item.Header = Ok s
taken_item s (item.Set key value) = config_set s key value (range_check key value)
taken_item s (item.File path bytes) = filed s path bytes (add_check s.files path (length bytes))
taken_item s item.Go = replay_begun s (config_check s.config)
taken_item s (item.Event e) = replay_moved s (event_step s.machine e)

-- ---- what a line does

abbrev pub item_found : Option Item → Result Item Why
item_found None = Err why.Syntax
item_found (Some x) = Ok x

-- what a line stands for in its place
abbrev pub judged : Reader → List ℕ → Result Item Why
judged r line = item_found (item_of r line)

-- the line and its line feed are read
abbrev pub line_counted : Progress → List ℕ → Progress
line_counted s line = record s { lines = s.lines + 1; read = s.read + length line + 1 }

abbrev pub followed : Progress → Item → Progress
followed s x = record s { reader = reader_after s.reader x }

abbrev pub item_taken : Progress → Result Item Why → Result Progress Status
item_taken s (Err why) = Err (Refused s.lines why)
item_taken s (Ok x) = taken_item (followed s x) x

-- a line that goes past the limit is not read as anything
abbrev pub is_past : Progress → List ℕ → Bool
is_past s line = nat_lt MAX_INPUT_BYTES (s.read + length line + 1)

-- what a line leads to: it is passed, or it ends the run
unfoldable pub line_passed : Progress → List ℕ → Result Progress Status
line_passed s line =
    if is_past s line then Err (Limit (s.lines + 1) Input)
    else item_taken (line_counted s line) (judged s.reader line)

-- ---- how far a line comes that ends the run

-- how far an event came: to its end, or to the step that was not done
abbrev pub came_to : Result Machine Stop → Machine
came_to (Ok m) = m
came_to (Err stop) = stop.0

-- the machine behind what a line stands for, where that is an event
abbrev pub machine_behind : Machine → Result Item Why → Machine
machine_behind m (Err why) = m
machine_behind m (Ok item.Header) = m
machine_behind m (Ok (item.Set key value)) = m
machine_behind m (Ok (item.File path bytes)) = m
machine_behind m (Ok item.Go) = m
machine_behind m (Ok (item.Event e)) = came_to (event_step m e)

-- A line that ends the run leaves the state before it, but for the machine: in a settle that had begun it has come further.
unfoldable pub halted : Progress → List ℕ → Progress
halted s line = if is_past s line then s else record s { machine = machine_behind s.machine (judged s.reader line) }

-- ---- how a text ends

-- nothing comes after the last line feed: the schedule is whole where `go` has passed
abbrev pub ended_behind : ℕ → Stage → Status
ended_behind lines Running = Done
ended_behind lines Start = Refused (lines + 1) why.Syntax
ended_behind lines Settings = Refused (lines + 1) why.Syntax
ended_behind lines Files = Refused (lines + 1) why.Syntax

-- what comes after the last line feed: nothing, or a line without its end
abbrev pub ending : Progress → List ℕ → Status
ending s [] = ended_behind s.lines s.reader.stage
ending s (b ∷ bs) = if nat_lt MAX_INPUT_BYTES (s.read + length (b ∷ bs)) then Limit (s.lines + 1) Input else Refused (s.lines + 1) why.Syntax

-- ---- the whole text

-- how far a replay comes from a state on, and its status
abbrev pub replayed : Progress → List (List ℕ) → Progress × Status
replayed s [] = (s, Done)
replayed s (last ∷ []) = (s, ending s last)
replayed s (line ∷ next ∷ more) = elim (line_passed s line) [ Err status ↦ (halted s line, status) | Ok t ↦ replayed t (next ∷ more) ]

-- the event of a line, where it stands for one
abbrev pub event_listed : Result Item Why → List Event
event_listed (Err why) = []
event_listed (Ok item.Header) = []
event_listed (Ok (item.Set key value)) = []
event_listed (Ok (item.File path bytes)) = []
event_listed (Ok item.Go) = []
event_listed (Ok (item.Event e)) = e ∷ []

-- the event of a line that ends the run, where it is a settle that had begun: some of its records were written
abbrev pub begun_by : Progress → List ℕ → List Event
begun_by s line = if nat_lt (length s.machine.journal) (length (halted s line).machine.journal) then event_listed (judged s.reader line) else []

-- the events of the lines that are passed from a state on, and of a settle in which the run ends
abbrev pub events_from : Progress → List (List ℕ) → List Event
events_from s [] = []
events_from s (last ∷ []) = []
events_from s (line ∷ next ∷ more) = elim (line_passed s line) [ Err status ↦ begun_by s line | Ok t ↦ event_listed (judged s.reader line) ++ events_from t (next ∷ more) ]

-- the events that happened by a text
unfoldable pub events_of : List ℕ → List Event
events_of text = events_from begin (lines_of text)

-- a whole text
unfoldable pub whole : List ℕ → Progress × Status
whole text = replayed begin (lines_of text)

-- the machine that a text leads to, its configuration, which is the standard one until `go` has passed, its files, which
-- are none until then, and its journal
abbrev pub machine_of : List ℕ → Machine
machine_of text = (whole text).0.machine

abbrev pub config_of : List ℕ → Config
config_of text = (machine_of text).config

abbrev pub files_of : List ℕ → List (List ℕ × List ℕ)
files_of text = (machine_of text).files

abbrev pub journal_of : List ℕ → List Rec
journal_of text = (machine_of text).journal

-- ---- the report

-- each file with its length
abbrev pub file_sizes : List (List ℕ × List ℕ) → List (List ℕ × ℕ)
file_sizes files = map (λ f. (f.0, length f.1)) files

abbrev pub report_at : Stage → Machine → List ℕ
report_at Start m = []
report_at Settings m = []
report_at Files m = []
report_at Running m = report m.config (file_sizes m.files) m.journal

-- what is written of a replay: nothing before `go` has passed, then the report of the machine's journal
abbrev pub report_of : Progress → List ℕ
report_of s = report_at s.reader.stage s.machine

-- the lines of the records that an event added, done or not
abbrev pub event_gain : Machine → Machine → List ℕ
event_gain m n = flat_map rec_line (drop (length m.journal) n.journal)

abbrev pub go_gain : Progress → Result (Unit {0}) ConfigFault → List ℕ
go_gain s (Ok _) = heading_line s.config ++ s.listed
go_gain s (Err fault) = []

abbrev pub item_gain : Progress → Item → List ℕ
item_gain s item.Header = []
item_gain s (item.Set key value) = []
item_gain s (item.File path bytes) = []
item_gain s item.Go = go_gain s (config_check s.config)
item_gain s (item.Event e) = event_gain s.machine (came_to (event_step s.machine e))

abbrev pub judged_gain : Progress → Result Item Why → List ℕ
judged_gain s (Err why) = []
judged_gain s (Ok x) = item_gain (followed s x) x

-- what the report gains by a line
unfoldable pub gain : Progress → List ℕ → List ℕ
gain s line = if is_past s line then [] else judged_gain (line_counted s line) (judged s.reader line)

-- ---- what a line's call relies on, and does

-- there are no more lines than bytes, and no more bytes than an input may have
pub record IsProgressSound (s : Progress) : Type 0 where
  pub lines : s.lines ≤ s.read
  pub read : s.read ≤ MAX_INPUT_BYTES

-- a text is written, or a prefix of it
abbrev pub Writes : List ℕ → Option (List ℕ) → Option (List ℕ) → Result (Unit {0}) Status → Type 0
Writes text old new (Ok _) = Appends old new text
Writes text old new (Err WriteFault) = WrotePrefix old new text
Writes text old new (Err NoMemory) = WrotePrefix old new text
Writes text old new (Err _) = ⊥

-- a sink's count of faults once a run has ended: it rose where that was a write fault, and is as before else
abbrev pub EndsCount : ℕ → ℕ → Status → Type 0
EndsCount before now WriteFault = Rose before now
EndsCount before now _ = now ≡ before

-- the same after a call that writes
abbrev pub CountsFault : ℕ → ℕ → Result (Unit {0}) Status → Type 0
CountsFault before now (Ok _) = now ≡ before
CountsFault before now (Err status) = EndsCount before now status

-- What a call did that passed a line: the state and the text are those that the rules give, or the line ended the
-- run, and all that it gave was written; a write that failed and running out of memory leave a prefix of the text.
abbrev pub PassesLine : Result Progress Status → List ℕ → Option (List ℕ) → Option (List ℕ) → Progress → Result (Unit {0}) Status → Type 0
PassesLine given text old new t (Ok _) = (given ≡ Ok t) × Appends old new text
PassesLine given text old new t (Err WriteFault) = WrotePrefix old new text
PassesLine given text old new t (Err NoMemory) = WrotePrefix old new text
PassesLine given text old new t (Err (Refused line why)) = (given ≡ Err (Refused line why)) × Appends old new text
PassesLine given text old new t (Err (Limit line what)) = (given ≡ Err (Limit line what)) × Appends old new text
PassesLine given text old new t (Err Done) = ⊥
PassesLine given text old new t (Err Usage) = ⊥
PassesLine given text old new t (Err ReadFault) = ⊥

-- Where a line ended the run, and all that it gave was written, the machine came as far as it was to.
abbrev pub HaltsAt : Machine → Machine → Result (Unit {0}) Status → Type 0
HaltsAt given m (Err (Refused line why)) = m ≡ given
HaltsAt given m (Err (Limit line what)) = m ≡ given
HaltsAt given m _ = Unit {0}
