-- What the words of a record name: places, nodes, choices, where a content came from, timers, and what stands together.
use Rattle.std.specs.Prelude.{ℕ, ◌-◌, ◌^◌, List, ◌∷◌, Option, Some, None, codes, bytes_eq, if◌then◌else◌}
use Rattle.lard_base.specs.declared.place.Place.{Place}
use Rattle.lard_base.specs.declared.place.Place.TheVariants.{Front, Node, Client}
use Rattle.lard_base.specs.declared.place.TimerKind.{TimerKind}
use Rattle.lard_base.specs.declared.place.TimerKind.TheVariants as timer
use Rattle.lard_base.specs.declared.place.Via.{Via}
use Rattle.lard_base.specs.declared.place.Via.TheVariants as via
use Rattle.lard_schedule.specs.Words.{◌>>=◌, word_then, number_then, count_up_to, client_then, ended}
use Rattle.lard_schedule.specs.Events.{client_and_word, is_path, place_of, some_bytes_of}
use Rattle.lard_report.specs.declared.parts.DiskJob.{DiskJob}

-- ---- words by themselves

abbrev pub report_node_at : Place → Option ℕ
report_node_at Front = None
report_node_at (Node n) = Some n
report_node_at (Client c) = None

-- a node, written as a place
abbrev pub node_place_of : List ℕ → Option ℕ
node_place_of word = place_of word >>= report_node_at

-- the number of a node, or a dash where there is none
abbrev pub choice_of : List ℕ → Option (Option ℕ)
choice_of word = if bytes_eq word (codes "-") then Some None else count_up_to 64 word >>= λ n. Some (Some n)

-- the number of a node behind four letters, which are `node`
abbrev pub far_via_of : List ℕ → Option Via
far_via_of (n ∷ o ∷ d ∷ e ∷ digits) = count_up_to 64 digits >>= λ m. Some (via.Node m)
far_via_of _ = None

-- own, cache, disk, node7
unfoldable pub via_of : List ℕ → Option Via
via_of word =
    if bytes_eq word (codes "own") then Some via.Own
    else (if bytes_eq word (codes "cache") then Some via.Cache
    else (if bytes_eq word (codes "disk") then Some via.Disk else far_via_of word))

-- tcp, offer, ask, fetch, ended, give
unfoldable pub timer_kind_of : List ℕ → Option TimerKind
timer_kind_of word =
    if bytes_eq word (codes "tcp") then Some timer.Tcp
    else (if bytes_eq word (codes "offer") then Some timer.Offer
    else (if bytes_eq word (codes "ask") then Some timer.Ask
    else (if bytes_eq word (codes "fetch") then Some timer.Fetch
    else (if bytes_eq word (codes "ended") then Some timer.Ended
    else (if bytes_eq word (codes "give") then Some timer.Give else None)))))

-- ---- the next word

-- a place
unfoldable pub place_then : List (List ℕ) → Option (Place × List (List ℕ))
place_then words = do
  word ← word_then words
  place ← place_of word.0
  Some (place, word.1)

-- a node, written as a place
unfoldable pub node_then : List (List ℕ) → Option (ℕ × List (List ℕ))
node_then words = do
  word ← word_then words
  n ← node_place_of word.0
  Some (n, word.1)

-- a path of a request
unfoldable pub request_path_then : List (List ℕ) → Option (List ℕ × List (List ℕ))
request_path_then words = do
  path ← word_then words
  if is_path path.0 then Some path else None

-- a node or none
unfoldable pub choice_then : List (List ℕ) → Option (Option ℕ × List (List ℕ))
choice_then words = do
  word ← word_then words
  choice ← choice_of word.0
  Some (choice, word.1)

-- ---- several words, and nothing more

-- a client, and bytes
unfoldable pub client_and_bytes : List (List ℕ) → Option (ℕ × List ℕ)
client_and_bytes words = do
  found ← client_and_word words
  bytes ← some_bytes_of found.1
  Some (found.0, bytes)

-- a place, a client, and a number to `most`
unfoldable pub place_client_number : ℕ → List (List ℕ) → Option (Place × ℕ × ℕ)
place_client_number most words = do
  place ← place_then words
  c ← client_then place.1
  n ← number_then most c.1
  ended n.1 (place.0, c.0, n.0)

-- a place, a client, and the kind of a timer
unfoldable pub place_client_timer : List (List ℕ) → Option (Place × ℕ × TimerKind)
place_client_timer words = do
  place ← place_then words
  c ← client_then place.1
  word ← word_then c.1
  kind ← timer_kind_of word.0
  ended word.1 (place.0, c.0, kind)

-- the places that a packet goes from and to, and its bytes
unfoldable pub packet_words : List (List ℕ) → Option (Place × Place × List ℕ)
packet_words words = do
  from ← place_then words
  to ← place_then from.1
  word ← word_then to.1
  bytes ← some_bytes_of word.0
  ended word.1 (from.0, to.0, bytes)

-- a connection, the number of a request, and its path
unfoldable pub request_words : List (List ℕ) → Option (ℕ × ℕ × List ℕ)
request_words words = do
  c ← client_then words
  r ← number_then (2 ^ 32 - 1) c.1
  path ← request_path_then r.1
  ended path.1 (c.0, r.0, path.0)

-- a job of a disk: its node, the node that asks, and the request that it is for
unfoldable pub job_of : List (List ℕ) → Option DiskJob
job_of words = do
  n ← node_then words
  m ← node_then n.1
  request ← request_words m.1
  Some (record { n = n.0; m = m.0; c = request.0; r = request.1; path = request.2 })

-- a response: its code, its length, and where its content came from
unfoldable pub response_of : List (List ℕ) → Option (ℕ × ℕ × Via)
response_of words = do
  code ← number_then (2 ^ 16 - 1) words
  length ← number_then (2 ^ 32 - 1) code.1
  word ← word_then length.1
  via ← via_of word.0
  ended word.1 (code.0, length.0, via)

-- a choice, and nothing more
unfoldable pub choice_alone : List (List ℕ) → Option (Option ℕ)
choice_alone words = do
  choice ← choice_then words
  ended choice.1 choice.0

-- two numbers, below 2^32 and to `most`, and nothing more
unfoldable pub two_numbers : ℕ → List (List ℕ) → Option (ℕ × ℕ)
two_numbers most words = do
  first ← number_then (2 ^ 32 - 1) words
  second ← number_then most first.1
  ended second.1 (first.0, second.0)
