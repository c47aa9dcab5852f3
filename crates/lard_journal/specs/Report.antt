-- The text of a report: the heading, a line for each file, and a line for each record.
use Rattle.std.specs.Prelude.{ℕ, List, [], ◌∷◌, ◌++◌, Option, Some, None, codes, decimal}
use Rattle.std.specs.List.{flat_map}
use Rattle.hex.specs.Hex.{encode_lower}
use Rattle.lard_base.specs.declared.config.Config.{Config}
use Rattle.lard_base.specs.declared.config.Key.TheVariants.{Nodes, Low, High, Age, Idle, Over, Miss, Cache, Stream}
use Rattle.lard_base.specs.declared.place.TimerKind.{TimerKind}
use Rattle.lard_base.specs.declared.place.TimerKind.TheVariants.{Tcp, Offer, Ask, Fetch, Ended, Give}
use Rattle.lard_base.specs.declared.place.Via.{Via}
use Rattle.lard_base.specs.declared.place.Via.TheVariants as via
use Rattle.lard_base.specs.Spelling.{line_of, key_word, place_word, event_words}
use Rattle.lard_journal.specs.declared.rec.Rec.{Rec}
use Rattle.lard_journal.specs.declared.rec.Rec.TheVariants as rec

-- a node as a place: n7
abbrev pub node_word : ℕ → List ℕ
node_word n = 110 ∷ decimal n

-- the number of a node, or - where there is none
abbrev pub choice_word : Option ℕ → List ℕ
choice_word None = codes "-"
choice_word (Some n) = decimal n

-- own, cache, disk, node7
abbrev pub via_word : Via → List ℕ
via_word via.Own = codes "own"
via_word via.Cache = codes "cache"
via_word via.Disk = codes "disk"
via_word (via.Node m) = codes "node" ++ decimal m

-- tcp, offer, ask, fetch, ended
abbrev pub kind_word : TimerKind → List ℕ
kind_word Tcp = codes "tcp"
kind_word Offer = codes "offer"
kind_word Ask = codes "ask"
kind_word Fetch = codes "fetch"
kind_word Ended = codes "ended"
kind_word Give = codes "give"

-- the words of a record's line: in an assignment nodes are plain numbers, in hit, queued, read and closed they are places
abbrev pub rec_words : Rec → List (List ℕ)
rec_words (rec.Event i event) = codes "event" ∷ decimal i ∷ event_words event
rec_words (rec.Inner event) = codes "inner" ∷ event_words event
rec_words (rec.Opened c isn iss wnd mss) = codes "opened" ∷ decimal c ∷ decimal isn ∷ decimal iss ∷ decimal wnd ∷ decimal mss ∷ []
rec_words (rec.Wrote c bytes) = codes "wrote" ∷ decimal c ∷ encode_lower bytes ∷ []
rec_words (rec.Sent k from to bytes) = codes "sent" ∷ decimal k ∷ place_word from ∷ place_word to ∷ encode_lower bytes ∷ []
rec_words (rec.Got k) = codes "got" ∷ decimal k ∷ []
rec_words (rec.Lost k) = codes "lost" ∷ decimal k ∷ []
rec_words (rec.Accepted c bytes) = codes "accepted" ∷ decimal c ∷ encode_lower bytes ∷ []
rec_words (rec.Eof c) = codes "eof" ∷ decimal c ∷ []
rec_words (rec.Took place c epoch) = codes "took" ∷ place_word place ∷ decimal c ∷ decimal epoch.0 ∷ []
rec_words (rec.Gave place c epoch) = codes "gave" ∷ place_word place ∷ decimal c ∷ decimal epoch.0 ∷ []
rec_words (rec.Waits c) = codes "waits" ∷ decimal c ∷ []
rec_words (rec.Admitted c) = codes "admitted" ∷ decimal c ∷ []
rec_words (rec.Released c) = codes "released" ∷ decimal c ∷ []
rec_words (rec.AssignedFirst c r path n add remove) = codes "assigned" ∷ decimal c ∷ decimal r ∷ codes "first" ∷ path ∷ decimal n ∷ choice_word add ∷ choice_word remove ∷ []
rec_words (rec.AssignedLater c r path n add size queue) = codes "assigned" ∷ decimal c ∷ decimal r ∷ codes "later" ∷ path ∷ decimal n ∷ choice_word add ∷ decimal size ∷ decimal queue ∷ []
rec_words (rec.BatchOver c) = codes "batchover" ∷ decimal c ∷ []
rec_words (rec.Served place c r code length via) = codes "served" ∷ place_word place ∷ decimal c ∷ decimal r ∷ decimal code ∷ decimal length ∷ via_word via ∷ []
rec_words (rec.Hit n path) = codes "hit" ∷ node_word n ∷ path ∷ []
rec_words (rec.Queued n m c r path) = codes "queued" ∷ node_word n ∷ node_word m ∷ decimal c ∷ decimal r ∷ path ∷ []
rec_words (rec.Read n m c r path) = codes "read" ∷ node_word n ∷ node_word m ∷ decimal c ∷ decimal r ∷ path ∷ []
rec_words (rec.Closed n) = codes "closed" ∷ node_word n ∷ []
rec_words (rec.Armed place c kind) = codes "armed" ∷ place_word place ∷ decimal c ∷ kind_word kind ∷ []
rec_words (rec.Cleared place c kind) = codes "cleared" ∷ place_word place ∷ decimal c ∷ kind_word kind ∷ []
rec_words (rec.Reset place c count) = codes "reset" ∷ place_word place ∷ decimal c ∷ decimal count ∷ []
rec_words (rec.Aborted c) = codes "aborted" ∷ decimal c ∷ []
rec_words (rec.Injected c) = codes "injected" ∷ decimal c ∷ []
rec_words (rec.Clock time) = codes "clock" ∷ decimal time.0 ∷ []
rec_words (rec.Settled rounds) = codes "settled" ∷ decimal rounds ∷ []
rec_words (rec.Unsettled rounds left) = codes "unsettled" ∷ decimal rounds ∷ decimal left ∷ []

-- a record's line, with its line feed
abbrev pub rec_line : Rec → List ℕ
rec_line r = line_of (rec_words r)

-- the heading's words: the version of the format, then each key with its number
abbrev pub heading_words : Config → List (List ℕ)
heading_words c = codes "report" ∷ codes "1" ∷ key_word Nodes ∷ decimal c.nodes ∷ key_word Low ∷ decimal c.low ∷ key_word High ∷ decimal c.high ∷ key_word Age ∷ decimal c.age ∷ key_word Idle ∷ decimal c.idle ∷ key_word Over ∷ decimal c.over ∷ key_word Miss ∷ decimal c.miss ∷ key_word Cache ∷ decimal c.cache ∷ key_word Stream ∷ decimal c.stream ∷ []

-- the heading, with its line feed
unfoldable pub heading_line : Config → List ℕ
heading_line config = line_of (heading_words config)

-- a file's words, of its path and its length in bytes
abbrev pub file_words : List ℕ × ℕ → List (List ℕ)
file_words (path, length) = codes "file" ∷ path ∷ decimal length ∷ []

-- a file's line, with its line feed
abbrev pub file_text : List ℕ × ℕ → List ℕ
file_text file = line_of (file_words file)

-- the report of a run: its configuration, its files in the order given, its records in order
abbrev pub report : Config → List (List ℕ × ℕ) → List Rec → List ℕ
report config files recs = heading_line config ++ flat_map file_text files ++ flat_map rec_line recs
