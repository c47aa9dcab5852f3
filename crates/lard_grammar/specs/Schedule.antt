-- The grammar of a whole schedule, apart from the reader: which texts are schedules, and what they stand for.
use Rattle.std.specs.Prelude.{◌≡◌, ◌≢◌, ℕ, ◌<◌, ◌^◌, true, List, [], ◌∷◌, ◌++◌, Option, Some, None}
use Rattle.std.specs.List.{position}
use Rattle.lard_base.specs.Config.{set_key, standard}
use Rattle.lard_base.specs.declared.config.Config.{Config}
use Rattle.lard_base.specs.declared.config.Key.{Key}
use Rattle.lard_base.specs.declared.event.Event.{Event}
use Rattle.lard_lines.specs.Lines.{is_feed, lines_of}
use Rattle.lard_schedule.specs.declared.item.Item.{Item}
use Rattle.lard_schedule.specs.declared.item.Item.TheVariants as item
use Rattle.lard_schedule.specs.declared.reader.Reader.{Reader}
use Rattle.lard_schedule.specs.declared.reader.Stage.{Stage}
use Rattle.lard_schedule.specs.declared.reader.Stage.TheVariants.{Running}
use Rattle.lard_schedule.specs.Events.{IsInLineRange}
use Rattle.lard_schedule.specs.Files.{is_file_path}
use Rattle.lard_schedule.specs.Laws.{IsLineOf}
use Rattle.lard_schedule.specs.Reader.{reader_after, item_of, reader_start}

-- ---- lines

-- lines, each ended by one line feed
abbrev pub text_of : List (List ℕ) → List ℕ
text_of [] = []
text_of (line ∷ lines) = line ++ 10 ∷ text_of lines

-- no line feed stands in a line
abbrev pub AreLines : List (List ℕ) → Type 0
AreLines [] = Unit {0}
AreLines (line ∷ lines) = (position is_feed line ≡ None) × AreLines lines

-- ---- the parts of a schedule

-- the key is none of these
abbrev pub IsNew : Key → List Key → Type 0
IsNew key [] = Unit {0}
IsNew key (other ∷ keys) = (key ≢ other) × IsNew key keys

-- configuration lines, one after another: a key that was not set before, and its number
abbrev pub AreSettings : List Key → List (List ℕ) → List (Key × ℕ) → Type 0
AreSettings keys [] [] = Unit {0}
AreSettings keys [] (set ∷ sets) = ⊥
AreSettings keys (line ∷ lines) [] = ⊥
AreSettings keys (line ∷ lines) (set ∷ sets) = IsLineOf line (item.Set set.0 set.1) × (set.1 < 2 ^ 64) × IsNew set.0 keys × AreSettings (set.0 ∷ keys) lines sets

-- file lines, one after another: a path and its bytes
abbrev pub AreFiles : List (List ℕ) → List (List ℕ × List ℕ) → Type 0
AreFiles [] [] = Unit {0}
AreFiles [] (file ∷ files) = ⊥
AreFiles (line ∷ lines) [] = ⊥
AreFiles (line ∷ lines) (file ∷ files) = IsLineOf line (item.File file.0 file.1) × (is_file_path file.0 ≡ true) × AreFiles lines files

-- the lines of events, one after another
abbrev pub AreEvents : List (List ℕ) → List Event → Type 0
AreEvents [] [] = Unit {0}
AreEvents [] (event ∷ events) = ⊥
AreEvents (line ∷ lines) [] = ⊥
AreEvents (line ∷ lines) (event ∷ events) = IsLineOf line (item.Event event) × IsInLineRange event × AreEvents lines events

-- the configuration that settings make of another
abbrev pub configured : Config → List (Key × ℕ) → Config
configured config [] = config
configured config (set ∷ sets) = configured (set_key config set.0 set.1) sets

-- ---- a schedule

-- Behind the line `lard 1` come configuration lines, file lines, the line `go`, and events.
pub record IsSchedule (text : List ℕ) (config : Config) (files : List (List ℕ × List ℕ)) (events : List Event) : Type 0 where
  pub first : List ℕ
  pub settings : List (List ℕ)
  pub named : List (List ℕ)
  pub go : List ℕ
  pub steps : List (List ℕ)
  pub is : text ≡ text_of (first ∷ settings ++ named ++ go ∷ steps)
  pub lines : AreLines (first ∷ settings ++ named ++ go ∷ steps)
  pub heads : IsLineOf first item.Header
  pub sets : List (Key × ℕ)
  pub sets_are : AreSettings [] settings sets
  pub config_is : config ≡ configured standard sets
  pub files_are : AreFiles named files
  pub goes : IsLineOf go item.Go
  pub events_are : AreEvents steps events

-- ---- what the reader finds

-- what was found in the lines so far
pub record Found : Type 0 where
  pub config : Config
  pub files : List (List ℕ × List ℕ)
  pub events : List Event

abbrev pub nothing_found : Found
nothing_found = record { config = standard; files = []; events = [] }

abbrev pub with_item : Found → Item → Found
with_item f item.Header = f
with_item f (item.Set key value) = record f { config = set_key f.config key value }
with_item f (item.File path bytes) = record f { files = f.files ++ (path, bytes) ∷ [] }
with_item f item.Go = f
with_item f (item.Event e) = record f { events = f.events ++ e ∷ [] }

-- behind the last line feed nothing may stand, and `go` is to have been read
abbrev pub at_end : Stage → List ℕ → Found → Option Found
at_end Running [] f = Some f
at_end _ _ f = None

-- what a reader finds in lines, of which the last part is what comes after the last line feed: nothing where a line is
-- none of the schedule in its place
abbrev pub read_from : Reader → Found → List (List ℕ) → Option Found
read_from r f [] = None
read_from r f (last ∷ []) = at_end r.stage last f
read_from r f (line ∷ next ∷ more) = elim (item_of r line) [ None ↦ None | Some x ↦ read_from (reader_after r x) (with_item f x) (next ∷ more) ]

-- what the reader finds in a whole text
unfoldable pub schedule_of : List ℕ → Option Found
schedule_of text = read_from reader_start nothing_found (lines_of text)
