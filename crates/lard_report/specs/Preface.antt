-- What the first lines of a report stand for: the numbers of its heading, and the path and the length of a file.
use Rattle.std.specs.Prelude.{ℕ, ◌-◌, ◌<◌, ◌^◌, List, Option, Some, None, codes, bytes_eq, if◌then◌else◌}
use Rattle.lard_base.specs.declared.config.Config.{Config}
use Rattle.lard_base.specs.declared.config.Key.TheVariants.{Nodes, Low, High, Age, Idle, Over, Miss, Cache, Stream}
use Rattle.lard_base.specs.Spelling.{key_word}
use Rattle.lard_schedule.specs.Words.{◌>>=◌, words_of, word_then, number_then, ended}
use Rattle.lard_schedule.specs.Files.{path_then}
use Rattle.lard_report.specs.declared.preface.Heading.{Heading}

-- a word that has to stand here; what is found are the words behind it
unfoldable pub behind_word : List ℕ → List (List ℕ) → Option (List (List ℕ))
behind_word text words = do
  word ← word_then words
  if bytes_eq word.0 text then Some word.1 else None

-- the word of a key, and a number below 2^64
unfoldable pub setting_then : List ℕ → List (List ℕ) → Option (ℕ × List (List ℕ))
setting_then key words = do
  rest ← behind_word key words
  number_then (2 ^ 64 - 1) rest

-- the number of nodes, and the thresholds of the policy
unfoldable pub policy_then : List (List ℕ) → Option ((ℕ × ℕ × ℕ × ℕ) × List (List ℕ))
policy_then words = do
  nodes ← setting_then (key_word Nodes) words
  low ← setting_then (key_word Low) nodes.1
  high ← setting_then (key_word High) low.1
  age ← setting_then (key_word Age) high.1
  Some ((nodes.0, low.0, high.0, age.0), age.1)

-- the costs of a later request
unfoldable pub costs_then : List (List ℕ) → Option ((ℕ × ℕ × ℕ) × List (List ℕ))
costs_then words = do
  idle ← setting_then (key_word Idle) words
  over ← setting_then (key_word Over) idle.1
  miss ← setting_then (key_word Miss) over.1
  Some ((idle.0, over.0, miss.0), miss.1)

-- the room of a cache, and the stream limit
unfoldable pub limits_then : List (List ℕ) → Option ((ℕ × ℕ) × List (List ℕ))
limits_then words = do
  cache ← setting_then (key_word Cache) words
  stream ← setting_then (key_word Stream) cache.1
  Some ((cache.0, stream.0), stream.1)

-- the heading with these numbers
abbrev pub heading_with : ℕ × ℕ × ℕ × ℕ → ℕ × ℕ × ℕ → ℕ × ℕ → Heading
heading_with policy costs limits =
    record { nodes = policy.0; low = policy.1; high = policy.2; age = policy.3; idle = costs.0; over = costs.1; miss = costs.2; cache = limits.0; stream = limits.1 }

-- the numbers of a heading, before any range is asked
unfoldable pub heading_of : List ℕ → Option Heading
heading_of line = do
  report ← behind_word (codes "report") (words_of line)
  version ← behind_word (codes "1") report
  policy ← policy_then version
  costs ← costs_then policy.1
  limits ← limits_then costs.1
  ended limits.1 (heading_with policy.0 costs.0 limits.0)

-- the path of a file and its length below 2^64, before any limit of files is asked
unfoldable pub file_line_of : List ℕ → Option (List ℕ × ℕ)
file_line_of line = do
  rest ← behind_word (codes "file") (words_of line)
  path ← path_then rest
  size ← number_then (2 ^ 64 - 1) path.1
  ended size.1 (path.0, size.0)

-- the configuration with the numbers of a heading
abbrev pub heading_config : Heading → Config
heading_config h =
    record { nodes = h.nodes; low = h.low; high = h.high; age = h.age; idle = h.idle; over = h.over; miss = h.miss; cache = h.cache; stream = h.stream }

-- each number is below 2^64
abbrev pub IsHeadingWide : Heading → Type 0
IsHeadingWide h =
    (h.nodes < 2 ^ 64) × (h.low < 2 ^ 64) × (h.high < 2 ^ 64) × (h.age < 2 ^ 64) × (h.idle < 2 ^ 64) × (h.over < 2 ^ 64) × (h.miss < 2 ^ 64)
    × (h.cache < 2 ^ 64) × (h.stream < 2 ^ 64)
