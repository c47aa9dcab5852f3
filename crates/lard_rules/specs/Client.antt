-- The rules of a client's place, each over one client: the client after it, and its turn. After its rule it sends what it
-- may, until none.
use Rattle.std.specs.Prelude.{ℕ, nat_lt, List, [], ◌∷◌, ◌++◌, take, drop, if◌then◌else◌, Option, Some, None, Result, Ok, Err}
use Rattle.lard_base.specs.declared.place.Place.{Place}
use Rattle.lard_base.specs.declared.place.Place.TheVariants.{Front}
use Rattle.lard_client.specs.declared.heard.Heard.{Heard}
use Rattle.lard_client.specs.Control.{ClientBlock, client_opened, client_written, is_writing, shut_down, held_on, client_taken, aborted}
use Rattle.lard_client.specs.Arriving.{client_arrived}
use Rattle.lard_client.specs.Leaving.{client_timed, client_after_timer, abort_ready}
use Rattle.lard_history.specs.Journal.{request}
use Rattle.lard_journal.specs.declared.rec.Rec.{Rec}
use Rattle.lard_journal.specs.declared.rec.Rec.TheVariants as rec
use Rattle.lard_rules.specs.declared.places.Turn.{Turn}
use Rattle.lard_rules.specs.Speaking.{to_front, client_speaks}
use Rattle.lard_segment.specs.declared.fault.SegFault.{SegFault}
use Rattle.lard_segment.specs.declared.segment.Dir.TheVariants.{ToClient}
use Rattle.lard_segment.specs.declared.segment.Ready.{Ready}
use Rattle.lard_segment.specs.Segment.{Said, decoded}

-- a turn in which nothing is noted or sent
abbrev pub silent : Turn
silent = record { notes = []; segments = []; answered = 0 }

-- what a client sends in its turn: these segments, and then what it may
abbrev pub speaking : List Rec → List (Place × List ℕ) → ClientBlock → ClientBlock × Turn
speaking notes segments x = ((client_speaks x).1, record { notes = notes; segments = segments ++ (client_speaks x).0; answered = 0 })

-- the segment that is ready, where there is one
abbrev pub station_ready_of : ClientBlock → Option Ready → List (Place × List ℕ)
station_ready_of x None = []
station_ready_of x (Some r) = to_front x r ∷ []

-- It opens (RFC 9293, 3.10.1): its SYN goes out.
abbrev pub client_opens : ℕ → ℕ → ℕ → ℕ → ClientBlock × Turn
client_opens c isn wnd mss = speaking [] [] (client_opened c isn wnd mss)

-- It writes (RFC 9293, 3.10.2), unless it writes no longer.
abbrev pub client_writes : ClientBlock → List ℕ → ClientBlock × Turn
client_writes x bytes = if is_writing x then speaking (rec.Wrote x.c bytes ∷ []) [] (client_written x bytes) else (x, silent)

-- It closes its side (RFC 9293, 3.10.4).
abbrev pub client_shuts : ClientBlock → ClientBlock × Turn
client_shuts x = speaking [] [] (shut_down x)

-- It leaves accepted bytes in its window from now on.
abbrev pub client_holds : ClientBlock → ClientBlock × Turn
client_holds x = speaking [] [] (held_on x)

-- It reads all that lies in its window (RFC 9293, 3.10.3).
abbrev pub client_takes : ClientBlock → ClientBlock × Turn
client_takes x = speaking [] [] (client_taken x)

-- It resets its connection (RFC 9293, 3.10.5), by a RST where there is one to send.
abbrev pub client_aborts : ClientBlock → ClientBlock × Turn
client_aborts x = (aborted x, record { notes = rec.Aborted x.c ∷ []; segments = station_ready_of (aborted x) (abort_ready x); answered = 0 })

-- Its timer fires (RFC 9293, 3.10.8).
abbrev pub client_timer : ClientBlock → ClientBlock × Turn
client_timer x = speaking [] (station_ready_of (client_after_timer x) (client_timed x)) (client_after_timer x)

-- the records of what it accepted of a segment's data, and of the end of its stream
abbrev pub accepted_note : ℕ → Heard → List ℕ → List Rec
accepted_note c h payload = if nat_lt 0 h.len then rec.Accepted c (take h.len (drop h.from payload)) ∷ [] else []

abbrev pub eof_note : ℕ → Heard → List Rec
eof_note c h = if h.eof then rec.Eof c ∷ [] else []

-- It heard this of a segment, and is as it is after that.
abbrev pub client_heard : List ℕ → Heard × ClientBlock → ClientBlock × Turn
client_heard payload heard = speaking (accepted_note heard.1.c heard.0 payload ++ eof_note heard.1.c heard.0) (station_ready_of heard.1 heard.0.reply) heard.1

-- A segment comes (RFC 9293, 3.10.7). What does not decode is dropped.
abbrev pub client_gets : ClientBlock → Result Said SegFault → ClientBlock × Turn
client_gets x (Err fault) = (x, silent)
client_gets x (Ok s) = client_heard s.payload (client_arrived x s)

-- The schedule puts a packet with these bytes on the way from it; the client itself does nothing.
abbrev pub client_injects : ClientBlock → List ℕ → ClientBlock × Turn
client_injects x bytes = (x, record { notes = []; segments = (Front, bytes) ∷ []; answered = 0 })

-- ---- the rules as data

-- What comes to a client that opened: a command of the schedule, its timer, or a packet.
pub data ClientGets : Type 0 where
  ToGet : List ℕ → ClientGets  -- this path
  ToWrite : List ℕ → ClientGets
  ToShut : ClientGets
  ToAbort : ClientGets
  ToHold : ClientGets
  ToTake : ClientGets
  ClientFires : ClientGets
  ClientReceives : Place → List ℕ → ClientGets  -- from this place, these bytes

-- the client of connection c
abbrev pub client_rule : ℕ → ClientBlock → ClientGets → ClientBlock × Turn
client_rule c x (ToGet path) = client_writes x (request path)
client_rule c x (ToWrite bytes) = client_writes x bytes
client_rule c x ToShut = client_shuts x
client_rule c x ToAbort = client_aborts x
client_rule c x ToHold = client_holds x
client_rule c x ToTake = client_takes x
client_rule c x ClientFires = client_timer x
client_rule c x (ClientReceives from bytes) = client_gets x (decoded bytes c ToClient)
