-- The one spelling of places, keys and events: words, with single spaces between them.
use Rattle.std.specs.Prelude.{ℕ, List, [], ◌∷◌, ◌++◌, codes, decimal}
use Rattle.std.specs.List.{fold}
use Rattle.hex.specs.Hex.{encode_lower}
use Rattle.lard_base.specs.declared.config.Key.{Key}
use Rattle.lard_base.specs.declared.config.Key.TheVariants.{Nodes, Low, High, Age, Idle, Over, Miss, Cache, Stream}
use Rattle.lard_base.specs.declared.place.Place.{Place}
use Rattle.lard_base.specs.declared.place.Place.TheVariants.{Front, Node, Client}
use Rattle.lard_base.specs.declared.event.Event.{Event}
use Rattle.lard_base.specs.declared.event.Event.TheVariants.{Open, Get, Write, Shut, Abort, Hold, Take, Deliver, Lose, Timer, Disk, Drain, Clock, Settle, Inject}

-- a text that goes on with one more word
abbrev pub spaced : List ℕ → List ℕ → List ℕ
spaced text word = text ++ 32 ∷ word

-- words with single spaces between them
abbrev pub sentence : List (List ℕ) → List ℕ
sentence [] = []
sentence (word ∷ words) = fold spaced word words

-- a sentence as a line, with its line feed
abbrev pub line_of : List (List ℕ) → List ℕ
line_of words = sentence words ++ 10 ∷ []

abbrev pub key_word : Key → List ℕ
key_word Nodes = codes "nodes"
key_word Low = codes "low"
key_word High = codes "high"
key_word Age = codes "age"
key_word Idle = codes "idle"
key_word Over = codes "over"
key_word Miss = codes "miss"
key_word Cache = codes "cache"
key_word Stream = codes "stream"

-- front, n7, c12
abbrev pub place_word : Place → List ℕ
place_word Front = codes "front"
place_word (Node n) = 110 ∷ decimal n
place_word (Client c) = 99 ∷ decimal c

-- the words of an event's line
abbrev pub event_words : Event → List (List ℕ)
event_words (Open c isn iss wnd mss) = codes "open" ∷ decimal c ∷ decimal isn ∷ decimal iss ∷ decimal wnd ∷ decimal mss ∷ []
event_words (Get c path) = codes "get" ∷ decimal c ∷ path ∷ []
event_words (Write c bytes) = codes "write" ∷ decimal c ∷ encode_lower bytes ∷ []
event_words (Shut c) = codes "shut" ∷ decimal c ∷ []
event_words (Abort c) = codes "abort" ∷ decimal c ∷ []
event_words (Hold c) = codes "hold" ∷ decimal c ∷ []
event_words (Take c) = codes "take" ∷ decimal c ∷ []
event_words (Deliver k) = codes "deliver" ∷ decimal k ∷ []
event_words (Lose k) = codes "lose" ∷ decimal k ∷ []
event_words (Timer place c) = codes "timer" ∷ place_word place ∷ decimal c ∷ []
event_words (Disk n j) = codes "disk" ∷ decimal n ∷ decimal j ∷ []
event_words (Drain n) = codes "drain" ∷ decimal n ∷ []
event_words (Clock ms) = codes "clock" ∷ decimal ms ∷ []
event_words (Settle rounds) = codes "settle" ∷ decimal rounds ∷ []
event_words (Inject c bytes) = codes "inject" ∷ decimal c ∷ encode_lower bytes ∷ []
