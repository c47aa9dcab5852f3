-- What spells an event or a line, and where a line may stand.
use Rattle.std.specs.Prelude.{◌≡◌, ◌⊎◌, ℕ, ◌≤◌, false, List, [], ◌∷◌, length, Ok, codes, decimal, replicate}
use Rattle.hex.specs.Hex.{IsBytes, decode_of}
use Rattle.lard_base.specs.declared.limits.TheConstants.{MAX_ALL_FILES_BYTES}
use Rattle.lard_base.specs.declared.event.Event.{Event}
use Rattle.lard_base.specs.declared.event.Event.TheVariants.{Write, Inject}
use Rattle.lard_base.specs.Spelling.{event_words, key_word, sentence}
use Rattle.lard_schedule.specs.declared.item.Item.{Item}
use Rattle.lard_schedule.specs.declared.item.Item.TheVariants as item
use Rattle.lard_schedule.specs.declared.reader.Reader.{Reader}
use Rattle.lard_schedule.specs.declared.reader.Stage.{Stage}
use Rattle.lard_schedule.specs.declared.reader.Stage.TheVariants.{Start, Settings, Files, Running}
use Rattle.lard_schedule.specs.Reader.{has_key}
use Rattle.lard_schedule.specs.Words.{is_space}

-- the words are a verb, a client, and bytes in hexadecimal digits of both cases
abbrev pub SpellsBytes : List ℕ → List (List ℕ) → ℕ → List ℕ → Type 0
SpellsBytes verb words c bytes = (digits : List ℕ) × (words ≡ verb ∷ decimal c ∷ digits ∷ []) × (decode_of digits ≡ Ok bytes)

-- the words of an event's line
abbrev pub Spells : List (List ℕ) → Event → Type 0
Spells words (Write c bytes) = SpellsBytes (codes "write") words c bytes
Spells words (Inject c bytes) = SpellsBytes (codes "inject") words c bytes
Spells words event = words ≡ event_words event

-- a file with bytes in hexadecimal digits, at least one byte
abbrev pub SpellsContent : List (List ℕ) → List ℕ → List ℕ → Type 0
SpellsContent words path bytes = (digits : List ℕ) × (words ≡ codes "file" ∷ path ∷ digits ∷ []) × (decode_of digits ≡ Ok bytes) × (1 ≤ length bytes)

-- a file without bytes
abbrev pub SpellsEmpty : List (List ℕ) → List ℕ → List ℕ → Type 0
SpellsEmpty words path bytes = (words ≡ codes "file" ∷ path ∷ codes "-" ∷ []) × (bytes ≡ [])

-- a file that repeats a byte, to 2^26 times
abbrev pub SpellsRun : List (List ℕ) → List ℕ → List ℕ → Type 0
SpellsRun words path bytes =
    (n : ℕ) × (byte : ℕ) × (digits : List ℕ) × (words ≡ codes "fill" ∷ path ∷ decimal n ∷ digits ∷ []) × (n ≤ MAX_ALL_FILES_BYTES) × (decode_of digits ≡ Ok (byte ∷ []))
    × (bytes ≡ replicate n byte)

abbrev pub SpellsFile : List (List ℕ) → List ℕ → List ℕ → Type 0
SpellsFile words path bytes = SpellsContent words path bytes ⊎ (SpellsEmpty words path bytes ⊎ SpellsRun words path bytes)

-- the words of a line
abbrev pub SpellsItem : List (List ℕ) → Item → Type 0
SpellsItem words item.Header = words ≡ codes "lard" ∷ codes "1" ∷ []
SpellsItem words (item.Set key value) = words ≡ key_word key ∷ decimal value ∷ []
SpellsItem words (item.File path bytes) = SpellsFile words path bytes
SpellsItem words item.Go = words ≡ codes "go" ∷ []
SpellsItem words (item.Event event) = Spells words event

-- after `lard 1` and before `go`
abbrev pub IsBefore : Stage → Type 0
IsBefore Start = ⊥
IsBefore Settings = Unit {0}
IsBefore Files = Unit {0}
IsBefore Running = ⊥

-- a line may stand here: `lard 1` first; then each key once; then files; then `go`; then events
abbrev pub MayStand : Reader → Item → Type 0
MayStand reader item.Header = reader.stage ≡ Start
MayStand reader (item.Set key value) = (reader.stage ≡ Settings) × (has_key reader.keys key ≡ false)
MayStand reader (item.File path bytes) = IsBefore reader.stage
MayStand reader item.Go = IsBefore reader.stage
MayStand reader (item.Event event) = reader.stage ≡ Running

-- the line is a sentence of words that spell the item
abbrev pub IsLineOf : List ℕ → Item → Type 0
IsLineOf line what = (words : List (List ℕ)) × (line ≡ sentence words) × SpellsItem words what

-- ---- words and their line

abbrev pub HasNoSpace : List ℕ → Type 0
HasNoSpace [] = Unit {0}
HasNoSpace (b ∷ bs) = (is_space b ≡ false) × HasNoSpace bs

abbrev pub HaveNoSpace : List (List ℕ) → Type 0
HaveNoSpace [] = Unit {0}
HaveNoSpace (word ∷ words) = HasNoSpace word × HaveNoSpace words

-- the words of a line: at least one, and no space in them
abbrev pub AreWords : List (List ℕ) → Type 0
AreWords [] = ⊥
AreWords (word ∷ words) = HasNoSpace word × HaveNoSpace words

-- ---- what a line of a report spells is read again

-- what stands for bytes is bytes
abbrev pub HasBytes : Event → Type 0
HasBytes (Write c bytes) = IsBytes bytes
HasBytes (Inject c bytes) = IsBytes bytes
HasBytes _ = Unit {0}
