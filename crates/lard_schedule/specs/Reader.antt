-- Where a line may stand, what it stands for there, and the reader after it.
use Rattle.std.specs.Prelude.{◌≡◌, ℕ, ◌<◌, ◌-◌, ◌^◌, Bool, true, false, List, [], ◌∷◌, Option, Some, None, codes, bytes_eq, if◌then◌else◌}
use Rattle.std.specs.List.{find}
use Rattle.lard_base.specs.declared.config.Key.{Key}
use Rattle.lard_base.specs.declared.config.Key.TheVariants.{Nodes, Low, High, Age, Idle, Over, Miss, Cache, Stream}
use Rattle.lard_base.specs.Config.{all_keys}
use Rattle.lard_base.specs.Spelling.{key_word}
use Rattle.lard_schedule.specs.declared.keys.Keys.{Keys}
use Rattle.lard_schedule.specs.declared.reader.Reader.{Reader}
use Rattle.lard_schedule.specs.declared.reader.Stage.{Stage}
use Rattle.lard_schedule.specs.declared.reader.Stage.TheVariants.{Start, Settings, Files, Running}
use Rattle.lard_schedule.specs.declared.item.Item.{Item}
use Rattle.lard_schedule.specs.declared.item.Item.TheVariants.{Header, Set, File, Go, Event}
use Rattle.lard_schedule.specs.Words.{◌>>=◌, words_of, number_then, ended}
use Rattle.lard_schedule.specs.Events.{event_of, IsInLineRange}
use Rattle.lard_schedule.specs.Files.{file_item, is_file_path}

-- ---- keys

abbrev pub no_keys : Keys
no_keys =
    record { nodes = false; low = false; high = false; age = false; idle = false; over = false; miss = false; cache = false; stream = false }

abbrev pub has_key : Keys → Key → Bool
has_key keys Nodes = keys.nodes
has_key keys Low = keys.low
has_key keys High = keys.high
has_key keys Age = keys.age
has_key keys Idle = keys.idle
has_key keys Over = keys.over
has_key keys Miss = keys.miss
has_key keys Cache = keys.cache
has_key keys Stream = keys.stream

abbrev pub with_key : Keys → Key → Keys
with_key keys Nodes = record keys { nodes = true }
with_key keys Low = record keys { low = true }
with_key keys High = record keys { high = true }
with_key keys Age = record keys { age = true }
with_key keys Idle = record keys { idle = true }
with_key keys Over = record keys { over = true }
with_key keys Miss = record keys { miss = true }
with_key keys Cache = record keys { cache = true }
with_key keys Stream = record keys { stream = true }

-- the first of the keys that has this word
abbrev pub key_among : List Key → List ℕ → Option Key
key_among keys word = find (λ k. bytes_eq word (key_word k)) keys

abbrev pub key_of : List ℕ → Option Key
key_of word = key_among all_keys word

-- ---- lines

-- what comes after a key that was not set: a number below 2^64
unfoldable pub value_item : Key → List (List ℕ) → Option Item
value_item key words = do
  value ← number_then (2 ^ 64 - 1) words
  ended value.1 (Set key value.0)

-- a key that was set is not set again
abbrev pub set_once : Keys → Key → List (List ℕ) → Option Item
set_once keys key words = if has_key keys key then None else value_item key words

-- before the first file: a number of the configuration, else what may stand behind a file
abbrev pub setting_or : Keys → Option Key → List (List ℕ) → List (List ℕ) → Option Item
setting_or keys (Some key) rest words = set_once keys key rest
setting_or keys None rest words = file_item words

unfoldable pub setting_item : Keys → List (List ℕ) → Option Item
setting_item keys [] = None
setting_item keys (word ∷ words) = setting_or keys (key_of word) words (word ∷ words)

abbrev pub header_of : List ℕ → Option Item
header_of line = if bytes_eq line (codes "lard 1") then Some Header else None

abbrev pub item_at : Stage → Keys → List ℕ → Option Item
item_at Start keys line = header_of line
item_at Settings keys line = setting_item keys (words_of line)
item_at Files keys line = file_item (words_of line)
item_at Running keys line = event_of (words_of line) >>= λ e. Some (Event e)

-- what a line stands for in its place
abbrev pub item_of : Reader → List ℕ → Option Item
item_of reader line = item_at reader.stage reader.keys line

-- ---- readers

abbrev pub reader_start : Reader
reader_start = record { stage = Start; keys = no_keys }

-- the reader after a line that stood for an item
abbrev pub reader_after : Reader → Item → Reader
reader_after reader Header = record reader { stage = Settings }
reader_after reader (Set key value) = record reader { keys = with_key reader.keys key }
reader_after reader (File path bytes) = record reader { stage = Files }
reader_after reader Go = record reader { stage = Running }
reader_after reader (Event e) = reader

-- what a line can have: of a file's path and of an event
abbrev pub HasRange : Item → Type 0
HasRange Header = Unit {0}
HasRange (Set key value) = value < 2 ^ 64
HasRange (File path bytes) = is_file_path path ≡ true
HasRange Go = Unit {0}
HasRange (Event e) = IsInLineRange e
