-- Why a lab ends as it does, in words of the trace's lines, and of the requests before the line that ends it.
-- The numbers of all limits and ranges are written out here, apart from the rules that use them.
use Rattle.std.specs.Prelude.{◌≡◌, ◌≢◌, ◌⊎◌, ℕ, ◌+◌, ◌-◌, ◌*◌, ◌^◌, ◌<◌, ◌≤◌, false, List, [], ◌∷◌, ◌++◌, length, Option, None, IsSome, codes, decimal}
use Rattle.lard_base.specs.Spelling.{key_word, sentence}
use Rattle.lard_base.specs.declared.config.Config.{Config}
use Rattle.lard_base.specs.declared.config.ConfigFault.{ConfigFault}
use Rattle.lard_base.specs.declared.config.ConfigFault.TheVariants.{Range, LowHigh, NoRoom}
use Rattle.lard_base.specs.declared.config.Key.{Key}
use Rattle.lard_base.specs.declared.config.Key.TheVariants as key
use Rattle.lard_files.specs.declared.fault.FileFault.{FileFault}
use Rattle.lard_files.specs.declared.fault.FileFault.TheVariants as file_fault
use Rattle.lard_lab.specs.declared.event.LabEvent.{LabEvent}
use Rattle.lard_lab.specs.declared.event.LabEvent.TheVariants as event
use Rattle.lard_lab.specs.declared.policy.Policy.{Policy}
use Rattle.lard_lab.specs.declared.targets.Target.{Target}
use Rattle.lard_lab.specs.Desk.{is_request_open}
use Rattle.lard_lab.specs.Targets.{target_at, targets_total}
use Rattle.lard_schedule.specs.declared.reader.Reader.{Reader}
use Rattle.lard_schedule.specs.declared.reader.Stage.TheVariants.{Start, Settings, Running}
use Rattle.lard_schedule.specs.Laws.{IsBefore}
use Rattle.lard_schedule.specs.Reader.{has_key}
use Rattle.lard_lab_run.specs.declared.end.LabEnd.{LabEnd}
use Rattle.lard_lab_run.specs.declared.end.LabEnd.TheVariants.{Done, Refused, Limit}
use Rattle.lard_lab_run.specs.declared.end.LabLimit.TheVariants as limit
use Rattle.lard_lab_run.specs.declared.end.LabWhy.{LabWhy}
use Rattle.lard_lab_run.specs.declared.end.LabWhy.TheVariants as why
use Rattle.lard_lab_run.specs.declared.item.Item.{Item}
use Rattle.lard_lab_run.specs.declared.item.Item.TheVariants as item
use Rattle.lard_lab_run.specs.Items.{HasLabRange}
use Rattle.lard_lab_run.specs.Trial.{LeadsInLab, LabProgress, lab_begin}

-- ---- lines

-- the words of an event's line
abbrev pub lab_event_words : LabEvent → List (List ℕ)
lab_event_words (event.Req path) = codes "req" ∷ path ∷ []
lab_event_words (event.Done i) = codes "done" ∷ decimal i ∷ []
lab_event_words (event.Clock ms) = codes "clock" ∷ decimal ms ∷ []

-- the words of a line
abbrev pub item_words : Item → List (List ℕ)
item_words item.Header = codes "lab" ∷ codes "1" ∷ []
item_words (item.Set key value) = key_word key ∷ decimal value ∷ []
item_words (item.File path size) = codes "file" ∷ path ∷ decimal size ∷ []
item_words item.Go = codes "go" ∷ []
item_words (item.Event e) = lab_event_words e

-- a trace may set the key
abbrev pub IsKey : Key → Type 0
IsKey key.Nodes = Unit {0}
IsKey key.Low = Unit {0}
IsKey key.High = Unit {0}
IsKey key.Age = Unit {0}
IsKey key.Idle = ⊥
IsKey key.Over = ⊥
IsKey key.Miss = ⊥
IsKey key.Cache = Unit {0}
IsKey key.Stream = ⊥

-- a line may stand here: `lab 1` first; then each key once; then files; then `go`; then events
abbrev pub MayStandInLab : Reader → Item → Type 0
MayStandInLab reader item.Header = reader.stage ≡ Start
MayStandInLab reader (item.Set key value) = (reader.stage ≡ Settings) × (has_key reader.keys key ≡ false) × IsKey key
MayStandInLab reader (item.File path size) = IsBefore reader.stage
MayStandInLab reader item.Go = IsBefore reader.stage
MayStandInLab reader (item.Event e) = reader.stage ≡ Running

-- The line is the item's words with single spaces between them, the item may stand behind the lines before, and it is in range.
abbrev pub StandsInLab : Reader → List ℕ → Item → Type 0
StandsInLab reader line x = (line ≡ sentence (item_words x)) × MayStandInLab reader x × HasLabRange x

-- the bytes of lines, with their line feeds
abbrev pub lab_bytes_in : List (List ℕ) → ℕ
lab_bytes_in [] = 0
lab_bytes_in (line ∷ lines) = (length line + 1) + lab_bytes_in lines

-- ---- why an item is refused

-- the range of each number of the configuration that a trace may set
abbrev pub IsLabFit : Key → ℕ → Type 0
IsLabFit key.Nodes n = (1 ≤ n) × (n ≤ 64)
IsLabFit key.Low n = (1 ≤ n) × (n ≤ 1000)
IsLabFit key.High n = (1 ≤ n) × (n ≤ 1000)
IsLabFit key.Age n = n < 2 ^ 32
IsLabFit key.Cache n = (1 ≤ n) × (n ≤ 2 ^ 30)
IsLabFit _ n = ⊥

-- why the numbers that were kept do not go together: low is above high, or not even one request would be open
abbrev pub DisagreesInLab : Config → ConfigFault → Type 0
DisagreesInLab config (Range key value) = ⊥
DisagreesInLab config (LowHigh low high) = (low ≡ config.low) × (high ≡ config.high) × (high < low)
DisagreesInLab config NoRoom = (config.low ≤ config.high) × ((config.nodes - 1) * config.high + config.low ≤ 1)

-- a number out of its range, or `go` behind numbers that do not go together
abbrev pub IsLabUnfit : Config → Item → ConfigFault → Type 0
IsLabUnfit config item.Header fault = ⊥
IsLabUnfit config (item.Set key value) fault = (fault ≡ Range key value) × ¬ (IsLabFit key value)
IsLabUnfit config (item.File path size) fault = ⊥
IsLabUnfit config item.Go fault = DisagreesInLab config fault
IsLabUnfit config (item.Event e) fault = ⊥

-- Why a file of so many bytes may not be added to others, of which there are so many, with so many bytes in all, and what is kept of its path is
-- given: the first of these that applies. A line has none that is too long by itself.
abbrev pub MayNotAddInLab : Option Target → ℕ → ℕ → ℕ → FileFault → Type 0
MayNotAddInLab there count sum size file_fault.Repeated = IsSome there
MayNotAddInLab there count sum size (file_fault.TooLong n) = ⊥
MayNotAddInLab there count sum size (file_fault.TooMany n) = (there ≡ None) × (n ≡ count + 1) × (65536 < count + 1)
MayNotAddInLab there count sum size (file_fault.TooMuch n) = (there ≡ None) × (count + 1 ≤ 65536) × (n ≡ sum + size) × (2 ^ 26 < sum + size)
MayNotAddInLab there count sum size file_fault.NoMemory = ⊥

-- it is a file that may not be added to those before, for this reason
abbrev pub AddsNoneInLab : LabProgress → List ℕ → FileFault → Type 0
AddsNoneInLab s line fault = (path : List ℕ) × (size : ℕ) × StandsInLab s.reader line (item.File path size) × MayNotAddInLab (target_at s.targets path) (length s.targets) (targets_total s.targets) size fault

-- ---- causes

-- why a line is refused in its place
abbrev pub RefusesInLab : LabProgress → List ℕ → LabWhy → Type 0
RefusesInLab s line why.Syntax = (x : Item) → ¬ (StandsInLab s.reader line x)
RefusesInLab s line (why.Config fault) = (x : Item) × StandsInLab s.reader line x × IsLabUnfit s.config x fault
RefusesInLab s line (why.File fault) = AddsNoneInLab s line fault
-- it requests a path that no file has
RefusesInLab s line why.NoFile = (path : List ℕ) × StandsInLab s.reader line (item.Event (event.Req path)) × (target_at s.lab.desk.targets path ≡ None)
-- it says that a request is done which is not assigned, or done
RefusesInLab s line (why.NotOpen i) = StandsInLab s.reader line (item.Event (event.Done i)) × (is_request_open s.lab.desk i ≡ false)

-- it requests the path of a file behind 16,384 requests
abbrev pub RequestsMore : LabProgress → List ℕ → Type 0
RequestsMore s line = (path : List ℕ) × StandsInLab s.reader line (item.Event (event.Req path)) × IsSome (target_at s.lab.desk.targets path) × (16384 ≤ s.lab.desk.made)

-- how a line ends the lab, after n lines of so many bytes: it holds the byte after the limit, or it is refused, or it makes a request too many
abbrev pub EndsLabLine : LabProgress → ℕ → ℕ → List ℕ → LabEnd → Type 0
EndsLabLine s n bytes line (Limit number limit.Input) = (number ≡ n + 1) × (2 ^ 26 < bytes + (length line + 1))
EndsLabLine s n bytes line (Limit number limit.Requests) = (number ≡ n + 1) × (bytes + (length line + 1) ≤ 2 ^ 26) × RequestsMore s line
EndsLabLine s n bytes line (Refused number cause) = (number ≡ n + 1) × (bytes + (length line + 1) ≤ 2 ^ 26) × RefusesInLab s line cause
EndsLabLine s n bytes line _ = ⊥

-- how the text behind the line feed of the last line ends it: it is to be empty, and `go` is to have passed
abbrev pub EndsLabText : LabProgress → ℕ → ℕ → List ℕ → LabEnd → Type 0
EndsLabText s n bytes last Done = (last ≡ []) × (s.reader.stage ≡ Running)
EndsLabText s n bytes last (Refused line why.Syntax) = (line ≡ n + 1) × (bytes + length last ≤ 2 ^ 26) × ((last ≢ []) ⊎ (s.reader.stage ≢ Running))
EndsLabText s n bytes last (Limit line limit.Input) = (line ≡ n + 1) × (2 ^ 26 < bytes + length last)
EndsLabText s n bytes last _ = ⊥

-- what is left behind the lines that passed ends the lab
abbrev pub EndsLabRest : LabProgress → ℕ → ℕ → List (List ℕ) → LabEnd → Type 0
EndsLabRest s n bytes [] end = ⊥
EndsLabRest s n bytes (last ∷ []) end = EndsLabText s n bytes last end
EndsLabRest s n bytes (line ∷ next ∷ more) end = EndsLabLine s n bytes line end

-- Some lines pass, and the next ends the lab.
pub record EndsLab (policy : Policy) (lines : List (List ℕ)) (end : LabEnd) : Type 0 where
  pub before : List (List ℕ)
  pub rest : List (List ℕ)
  pub are : lines ≡ before ++ rest
  pub state : LabProgress
  pub told : List ℕ
  pub leads : LeadsInLab (lab_begin policy) before told state
  pub ends : EndsLabRest state (length before) (lab_bytes_in before) rest end
