-- What a line of a trace stands for in its place, and the reader after it.
use Rattle.std.specs.Prelude.{◌≡◌, ℕ, ◌<◌, ◌≤◌, ◌-◌, ◌^◌, true, List, [], ◌∷◌, Option, Some, None, codes, bytes_eq, if◌then◌else◌}
use Rattle.std.specs.Borrow.{Bor}
use Rattle.lard_base.specs.declared.config.Key.{Key}
use Rattle.lard_base.specs.declared.config.Key.TheVariants.{Nodes, Low, High, Age, Cache}
use Rattle.lard_base.specs.declared.limits.TheConstants.{MAX_FILE_BYTES}
use Rattle.lard_lab.specs.declared.event.LabEvent.{LabEvent}
use Rattle.lard_lab.specs.declared.event.LabEvent.TheVariants.{Req, Done, Clock}
use Rattle.lard_schedule.specs.declared.keys.Keys.{Keys}
use Rattle.lard_schedule.specs.declared.reader.Reader.{Reader}
use Rattle.lard_schedule.specs.declared.reader.Stage.{Stage}
use Rattle.lard_schedule.specs.declared.reader.Stage.TheVariants.{Start, Settings, Files, Running}
use Rattle.lard_schedule.specs.Events.{is_path, number_alone}
use Rattle.lard_schedule.specs.Files.{is_file_path, path_then}
use Rattle.lard_schedule.specs.Reader.{has_key, key_among, with_key}
use Rattle.lard_schedule.specs.Words.{◌>>=◌, ended, number_then, word_then, words_of}
use Rattle.lard_lab_run.specs.declared.item.Item.{Item}
use Rattle.lard_lab_run.specs.declared.item.Item.TheVariants.{Header, Set, File, Go, Event}

-- ---- before the events

-- the keys that a trace may set
abbrev pub keys : List Key
keys = Nodes ∷ Low ∷ High ∷ Age ∷ Cache ∷ []

abbrev pub lab_key_of : List ℕ → Option Key
lab_key_of word = key_among keys word

-- what comes after a key that was not set: a number below 2^64
unfoldable pub lab_value_of : Key → List (List ℕ) → Option Item
lab_value_of key words = do
  value ← number_then (2 ^ 64 - 1) words
  ended value.1 (Set key value.0)

-- a key that was set is not set again
abbrev pub lab_set_of : Keys → Key → List (List ℕ) → Option Item
lab_set_of set key words = if has_key set key then None else lab_value_of key words

-- what comes after the word `file`: a path, and how many bytes the file has, to 2^20
unfoldable pub lab_file_of : List (List ℕ) → Option Item
lab_file_of words = do
  path ← path_then words
  size ← number_then MAX_FILE_BYTES path.1
  ended size.1 (File path.0 size.0)

-- a file, or the end of the files
unfoldable pub lab_file_item : List (List ℕ) → Option Item
lab_file_item [] = None
lab_file_item (word ∷ words) =
    if bytes_eq word (codes "file") then lab_file_of words
    else (if bytes_eq word (codes "go") then ended words Go else None)

-- before the first file: a number of the configuration, else what may stand behind a file
abbrev pub lab_setting_or : Keys → Option Key → List (List ℕ) → List (List ℕ) → Option Item
lab_setting_or set (Some key) rest words = lab_set_of set key rest
lab_setting_or set None rest words = lab_file_item words

unfoldable pub lab_setting_of : Keys → List (List ℕ) → Option Item
lab_setting_of set [] = None
lab_setting_of set (word ∷ words) = lab_setting_or set (lab_key_of word) words (word ∷ words)

abbrev pub lab_header_of : List ℕ → Option Item
lab_header_of line = if bytes_eq line (codes "lab 1") then Some Header else None

-- ---- events

-- a word, and nothing more
unfoldable pub word_alone : List (List ℕ) → Option (List ℕ)
word_alone words = do
  word ← word_then words
  ended word.1 word.0

-- what a call shows of a word that it found
abbrev pub seen_text : Bor (List ℕ) → List ℕ
seen_text text = text.now

-- what comes after the word `req`
unfoldable pub req_of : List (List ℕ) → Option LabEvent
req_of words = do
  path ← word_alone words
  if is_path path then Some (Req path) else None

-- a request, a request that is done, or milliseconds that pass
unfoldable pub lab_event_of : List (List ℕ) → Option LabEvent
lab_event_of [] = None
lab_event_of (word ∷ words) =
    if bytes_eq word (codes "req") then req_of words
    else (if bytes_eq word (codes "done") then number_alone words >>= (λ i. Some (Done i))
    else (if bytes_eq word (codes "clock") then number_alone words >>= (λ ms. Some (Clock ms)) else None))

abbrev pub event_item : List (List ℕ) → Option Item
event_item words = lab_event_of words >>= λ e. Some (Event e)

-- ---- lines

abbrev pub lab_item_at : Stage → Keys → List ℕ → Option Item
lab_item_at Start set line = lab_header_of line
lab_item_at Settings set line = lab_setting_of set (words_of line)
lab_item_at Files set line = lab_file_item (words_of line)
lab_item_at Running set line = event_item (words_of line)

-- what a line stands for in its place: `lab 1` first; then each key once; then files; then `go`; then events
abbrev pub lab_item_of : Reader → List ℕ → Option Item
lab_item_of reader line = lab_item_at reader.stage reader.keys line

-- the reader after a line that stood for an item
abbrev pub lab_reader_after : Reader → Item → Reader
lab_reader_after reader Header = record reader { stage = Settings }
lab_reader_after reader (Set key value) = record reader { keys = with_key reader.keys key }
lab_reader_after reader (File path size) = record reader { stage = Files }
lab_reader_after reader Go = record reader { stage = Running }
lab_reader_after reader (Event e) = reader

-- ---- ranges

-- what an event of a line can have
abbrev pub IsLabEventInRange : LabEvent → Type 0
IsLabEventInRange (Req path) = is_path path ≡ true
IsLabEventInRange (Done i) = i < 2 ^ 32
IsLabEventInRange (Clock ms) = ms < 2 ^ 32

-- what a line can have: of a number, of a file, and of an event
abbrev pub HasLabRange : Item → Type 0
HasLabRange Header = Unit {0}
HasLabRange (Set key value) = value < 2 ^ 64
HasLabRange (File path size) = (is_file_path path ≡ true) × (size ≤ 2 ^ 20)
HasLabRange Go = Unit {0}
HasLabRange (Event e) = IsLabEventInRange e
