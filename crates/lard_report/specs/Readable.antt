-- The records that a line can stand for.
use Rattle.std.specs.Prelude.{◌≡◌, ℕ, ◌<◌, ◌≤◌, ◌^◌, true, List, length, Option, Some, None}
use Rattle.hex.specs.Hex.{IsBytes}
use Rattle.lard_base.specs.declared.event.Event.{Event}
use Rattle.lard_base.specs.declared.ids.TheConstants.ConnId as conn_id
use Rattle.lard_base.specs.declared.place.Via.{Via}
use Rattle.lard_base.specs.declared.place.Via.TheVariants as via
use Rattle.lard_journal.specs.declared.rec.Rec.{Rec}
use Rattle.lard_journal.specs.declared.rec.Rec.TheVariants as rec
use Rattle.lard_schedule.specs.Events.{IsInLineRange, IsPlace, IsUpTo, is_path}
use Rattle.lard_schedule.specs.Laws.{HasBytes}

-- the number of a connection, 1 to 16,384, and of a node, 1 to 64
abbrev pub IsConn : ℕ → Type 0
IsConn c = IsUpTo conn_id.MAX c

abbrev pub IsReadableNode : ℕ → Type 0
IsReadableNode n = IsUpTo 64 n

abbrev pub IsReadablePath : List ℕ → Type 0
IsReadablePath path = is_path path ≡ true

-- at least one byte
abbrev pub IsSomeBytes : List ℕ → Type 0
IsSomeBytes bytes = IsBytes bytes × (1 ≤ length bytes)

-- a node or none
abbrev pub IsChoice : Option ℕ → Type 0
IsChoice None = Unit {0}
IsChoice (Some n) = IsReadableNode n

abbrev pub IsVia : Via → Type 0
IsVia via.Own = Unit {0}
IsVia via.Cache = Unit {0}
IsVia via.Disk = Unit {0}
IsVia (via.Node m) = IsReadableNode m

-- an event that a line of a schedule can stand for
abbrev pub IsEvent : Event → Type 0
IsEvent event = IsInLineRange event × HasBytes event

-- Numbers have the width of their field, connections and nodes their range; an event is one of a schedule, a path is one of a
-- request, and bytes are at least one.
abbrev pub IsReadable : Rec → Type 0
IsReadable (rec.Event i event) = (i < 2 ^ 64) × IsEvent event
IsReadable (rec.Inner event) = IsEvent event
IsReadable (rec.Opened c isn iss wnd mss) = IsConn c × (isn < 2 ^ 32) × (iss < 2 ^ 32) × (wnd < 2 ^ 32) × (mss < 2 ^ 32)
IsReadable (rec.Wrote c bytes) = IsConn c × IsSomeBytes bytes
IsReadable (rec.Sent k from to bytes) = (k < 2 ^ 32) × IsPlace from × IsPlace to × IsSomeBytes bytes
IsReadable (rec.Got k) = k < 2 ^ 32
IsReadable (rec.Lost k) = k < 2 ^ 32
IsReadable (rec.Accepted c bytes) = IsConn c × IsSomeBytes bytes
IsReadable (rec.Eof c) = IsConn c
IsReadable (rec.Took place c epoch) = IsPlace place × IsConn c × (epoch.0 < 2 ^ 16)
IsReadable (rec.Gave place c epoch) = IsPlace place × IsConn c × (epoch.0 < 2 ^ 16)
IsReadable (rec.Waits c) = IsConn c
IsReadable (rec.Admitted c) = IsConn c
IsReadable (rec.Released c) = IsConn c
IsReadable (rec.AssignedFirst c r path n add remove) = IsConn c × (r < 2 ^ 32) × IsReadablePath path × IsReadableNode n × IsChoice add × IsChoice remove
IsReadable (rec.AssignedLater c r path n add size queue) = IsConn c × (r < 2 ^ 32) × IsReadablePath path × IsReadableNode n × IsChoice add × (size < 2 ^ 32) × (queue < 2 ^ 32)
IsReadable (rec.BatchOver c) = IsConn c
IsReadable (rec.Served place c r code length via) = IsPlace place × IsConn c × (r < 2 ^ 32) × (code < 2 ^ 16) × (length < 2 ^ 32) × IsVia via
IsReadable (rec.Hit n path) = IsReadableNode n × IsReadablePath path
IsReadable (rec.Queued n m c r path) = IsReadableNode n × IsReadableNode m × IsConn c × (r < 2 ^ 32) × IsReadablePath path
IsReadable (rec.Read n m c r path) = IsReadableNode n × IsReadableNode m × IsConn c × (r < 2 ^ 32) × IsReadablePath path
IsReadable (rec.Closed n) = IsReadableNode n
IsReadable (rec.Armed place c kind) = IsPlace place × IsConn c
IsReadable (rec.Cleared place c kind) = IsPlace place × IsConn c
IsReadable (rec.Reset place c count) = IsPlace place × IsConn c × (count < 2 ^ 32)
IsReadable (rec.Aborted c) = IsConn c
IsReadable (rec.Injected c) = IsConn c
IsReadable (rec.Clock time) = time.0 < 2 ^ 64
IsReadable (rec.Settled rounds) = rounds < 2 ^ 32
IsReadable (rec.Unsettled rounds left) = (rounds < 2 ^ 32) × (left < 2 ^ 64)
