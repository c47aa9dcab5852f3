-- What the words of an event's line stand for, and the ranges of what they name.
use Rattle.std.specs.Prelude.{◌≡◌, ℕ, ◌-◌, ◌<◌, ◌≤◌, ◌^◌, Bool, true, false, ◌&&◌, nat_eq, nat_le, nat_lt, List, [], ◌∷◌, length, Option, Some, None, codes, bytes_eq, if◌then◌else◌}
use Rattle.std.specs.List.{find, list_all}
use Rattle.std.specs.Result.{result_ok}
use Rattle.hex.specs.Hex.{decode_of}
use Rattle.lard_base.specs.declared.ids.TheConstants.ConnId as conn_id
use Rattle.lard_base.specs.declared.place.Place.{Place}
use Rattle.lard_base.specs.declared.place.Place.TheVariants.{Front, Node, Client}
use Rattle.lard_base.specs.declared.event.Event.{Event}
use Rattle.lard_base.specs.declared.event.Event.TheVariants.{Open, Get, Write, Shut, Abort, Hold, Take, Deliver, Lose, Timer, Disk, Drain, Clock, Settle, Inject}
use Rattle.lard_base.specs.declared.limits.TheConstants.{MAX_PATH_BYTES, MAX_SEGMENT_BYTES, MAX_SEGMENT_DATA}
use Rattle.lard_schedule.specs.declared.verbs.Verb.{Verb}
use Rattle.lard_schedule.specs.declared.verbs.Verb.TheVariants as verb
use Rattle.lard_schedule.specs.Words.{◌>>=◌, word_then, number_then, count_up_to, count_then, client_then, ended}

-- ---- verbs

abbrev pub verb_word : Verb → List ℕ
verb_word verb.Open = codes "open"
verb_word verb.Get = codes "get"
verb_word verb.Write = codes "write"
verb_word verb.Shut = codes "shut"
verb_word verb.Abort = codes "abort"
verb_word verb.Hold = codes "hold"
verb_word verb.Take = codes "take"
verb_word verb.Deliver = codes "deliver"
verb_word verb.Lose = codes "lose"
verb_word verb.Timer = codes "timer"
verb_word verb.Disk = codes "disk"
verb_word verb.Drain = codes "drain"
verb_word verb.Clock = codes "clock"
verb_word verb.Settle = codes "settle"
verb_word verb.Inject = codes "inject"

abbrev pub verbs : List Verb
verbs =
    verb.Open ∷ verb.Get ∷ verb.Write ∷ verb.Shut ∷ verb.Abort ∷ verb.Hold ∷ verb.Take ∷ verb.Deliver ∷ verb.Lose ∷ verb.Timer
    ∷ verb.Disk ∷ verb.Drain ∷ verb.Clock ∷ verb.Settle ∷ verb.Inject ∷ []

-- the first of the verbs that has this word
abbrev pub verb_among : List Verb → List ℕ → Option Verb
verb_among of_them word = find (λ v. bytes_eq word (verb_word v)) of_them

abbrev pub verb_of : List ℕ → Option Verb
verb_of word = verb_among verbs word

-- ---- words by themselves

-- a visible byte: from ! to ~
abbrev pub is_visible : ℕ → Bool
is_visible b = nat_le 33 b && nat_le b 126

-- a path: a slash and visible bytes, at most 1,024 bytes in all
abbrev pub is_path : List ℕ → Bool
is_path [] = false
is_path (b ∷ bs) = nat_eq b 47 && nat_lt (length bs) MAX_PATH_BYTES && list_all is_visible bs

-- the bytes of hexadecimal digits, in both cases: two digits a byte
abbrev pub hex_bytes_of : List ℕ → Option (List ℕ)
hex_bytes_of word = result_ok (decode_of word)

-- at least one byte
unfoldable pub some_bytes_of : List ℕ → Option (List ℕ)
some_bytes_of word = do
  bytes ← hex_bytes_of word
  if nat_le 1 (length bytes) then Some bytes else None

-- the letter of a node is n, that of a client c
abbrev pub numbered_place : ℕ → List ℕ → Option Place
numbered_place b word =
    if nat_eq b 110 then count_up_to 64 word >>= (λ n. Some (Node n))
    else (if nat_eq b 99 then count_up_to conn_id.MAX word >>= (λ c. Some (Client c)) else None)

-- a place: front, n1 to n64, c1 to c16384
unfoldable pub place_of : List ℕ → Option Place
place_of [] = None
place_of (b ∷ bs) = if bytes_eq (b ∷ bs) (codes "front") then Some Front else numbered_place b bs

-- a client keeps timers for its own connection alone
abbrev pub may_keep : Place → ℕ → Bool
may_keep Front c = true
may_keep (Node n) c = true
may_keep (Client n) c = nat_eq n c

-- ---- what comes after a verb

-- a client, and nothing more
unfoldable pub client_alone : List (List ℕ) → Option ℕ
client_alone words = do
  c ← client_then words
  ended c.1 c.0

-- a number below 2^32, and nothing more
unfoldable pub number_alone : List (List ℕ) → Option ℕ
number_alone words = do
  n ← number_then (2 ^ 32 - 1) words
  ended n.1 n.0

-- a client and one word
unfoldable pub client_and_word : List (List ℕ) → Option (ℕ × List ℕ)
client_and_word words = do
  c ← client_then words
  word ← word_then c.1
  ended word.1 (c.0, word.0)

unfoldable pub open_of : List (List ℕ) → Option Event
open_of words = do
  c ← client_then words
  isn ← number_then (2 ^ 32 - 1) c.1
  iss ← number_then (2 ^ 32 - 1) isn.1
  wnd ← count_then 65535 iss.1
  mss ← count_then MAX_SEGMENT_DATA wnd.1
  ended mss.1 (Open c.0 isn.0 iss.0 wnd.0 mss.0)

unfoldable pub get_of : List (List ℕ) → Option Event
get_of words = do
  asked ← client_and_word words
  if is_path asked.1 then Some (Get asked.0 asked.1) else None

unfoldable pub write_of : List (List ℕ) → Option Event
write_of words = do
  sent ← client_and_word words
  bytes ← some_bytes_of sent.1
  Some (Write sent.0 bytes)

unfoldable pub timer_of : List (List ℕ) → Option Event
timer_of words = do
  word ← word_then words
  place ← place_of word.0
  c ← client_alone word.1
  if may_keep place c then Some (Timer place c) else None

unfoldable pub disk_of : List (List ℕ) → Option Event
disk_of words = do
  n ← number_then (2 ^ 32 - 1) words
  j ← number_alone n.1
  Some (Disk n.0 j)

unfoldable pub settle_of : List (List ℕ) → Option Event
settle_of words = do
  rounds ← count_then (2 ^ 32 - 1) words
  ended rounds.1 (Settle rounds.0)

unfoldable pub inject_of : List (List ℕ) → Option Event
inject_of words = do
  sent ← client_and_word words
  bytes ← some_bytes_of sent.1
  if nat_le (length bytes) MAX_SEGMENT_BYTES then Some (Inject sent.0 bytes) else None

-- ---- events

abbrev pub event_after : Verb → List (List ℕ) → Option Event
event_after verb.Open words = open_of words
event_after verb.Get words = get_of words
event_after verb.Write words = write_of words
event_after verb.Shut words = client_alone words >>= λ c. Some (Shut c)
event_after verb.Abort words = client_alone words >>= λ c. Some (Abort c)
event_after verb.Hold words = client_alone words >>= λ c. Some (Hold c)
event_after verb.Take words = client_alone words >>= λ c. Some (Take c)
event_after verb.Deliver words = number_alone words >>= λ k. Some (Deliver k)
event_after verb.Lose words = number_alone words >>= λ k. Some (Lose k)
event_after verb.Timer words = timer_of words
event_after verb.Disk words = disk_of words
event_after verb.Drain words = number_alone words >>= λ n. Some (Drain n)
event_after verb.Clock words = number_alone words >>= λ ms. Some (Clock ms)
event_after verb.Settle words = settle_of words
event_after verb.Inject words = inject_of words

-- an event, from its words
unfoldable pub event_of : List (List ℕ) → Option Event
event_of words = do
  first ← word_then words
  verb ← verb_of first.0
  event_after verb first.1

-- ---- ranges

-- from 1 to a greatest number
abbrev pub IsUpTo : ℕ → ℕ → Type 0
IsUpTo most n = (1 ≤ n) × (n ≤ most)

abbrev pub IsPlace : Place → Type 0
IsPlace Front = Unit {0}
IsPlace (Node n) = IsUpTo 64 n
IsPlace (Client c) = IsUpTo conn_id.MAX c

-- the numbers, the path, the place and the bytes of an event are ones that a line can have
abbrev pub IsInLineRange : Event → Type 0
IsInLineRange (Open c isn iss wnd mss) = IsUpTo conn_id.MAX c × (isn < 2 ^ 32) × (iss < 2 ^ 32) × IsUpTo 65535 wnd × IsUpTo MAX_SEGMENT_DATA mss
IsInLineRange (Get c path) = IsUpTo conn_id.MAX c × (is_path path ≡ true)
IsInLineRange (Write c bytes) = IsUpTo conn_id.MAX c × (1 ≤ length bytes)
IsInLineRange (Shut c) = IsUpTo conn_id.MAX c
IsInLineRange (Abort c) = IsUpTo conn_id.MAX c
IsInLineRange (Hold c) = IsUpTo conn_id.MAX c
IsInLineRange (Take c) = IsUpTo conn_id.MAX c
IsInLineRange (Deliver k) = k < 2 ^ 32
IsInLineRange (Lose k) = k < 2 ^ 32
IsInLineRange (Timer place c) = IsPlace place × IsUpTo conn_id.MAX c × (may_keep place c ≡ true)
IsInLineRange (Disk n j) = (n < 2 ^ 32) × (j < 2 ^ 32)
IsInLineRange (Drain n) = n < 2 ^ 32
IsInLineRange (Clock ms) = ms < 2 ^ 32
IsInLineRange (Settle rounds) = (1 ≤ rounds) × (rounds < 2 ^ 32)
IsInLineRange (Inject c bytes) = IsUpTo conn_id.MAX c × IsUpTo MAX_SEGMENT_BYTES (length bytes)
