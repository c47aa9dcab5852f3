-- What the types of a record's fields leave open, so that a line can stand for it.
use Rattle.std.specs.Prelude.{◌≡◌, ◌<◌, ◌≤◌, ◌^◌, true, List, length}
use Rattle.std.specs.List.{AllByRecursion}
use Rattle.lard_base.specs.declared.event.Event.{Event}
use Rattle.lard_base.specs.declared.event.Event.TheVariants as event
use Rattle.lard_base.specs.declared.limits.TheConstants.{MAX_SEGMENT_BYTES, MAX_SEGMENT_DATA}
use Rattle.lard_journal.specs.declared.rec.Rec.{Rec}
use Rattle.lard_journal.specs.declared.rec.Rec.TheVariants as rec
use Rattle.lard_schedule.specs.Events.{IsUpTo, is_path, may_keep}
use Rattle.lard_report.specs.Readable.{IsReadable}

-- A window and a segment size are offered, a path is one of a request, bytes are at least one, a client's timer is its own, the clock
-- moves by fewer than 2^32 milliseconds, and a settle has a round.
abbrev pub IsEventFormed : Event → Type 0
IsEventFormed (event.Open c isn iss wnd mss) = IsUpTo 65535 wnd × IsUpTo MAX_SEGMENT_DATA mss
IsEventFormed (event.Get c path) = is_path path ≡ true
IsEventFormed (event.Write c bytes) = 1 ≤ length bytes
IsEventFormed (event.Timer place c) = may_keep place c ≡ true
IsEventFormed (event.Clock ms) = ms < 2 ^ 32
IsEventFormed (event.Settle rounds) = 1 ≤ rounds
IsEventFormed (event.Inject c bytes) = IsUpTo MAX_SEGMENT_BYTES (length bytes)
IsEventFormed _ = Unit {0}

-- an event is so, a path is one of a request, and bytes are at least one
abbrev pub IsFormed : Rec → Type 0
IsFormed (rec.Event i event) = IsEventFormed event
IsFormed (rec.Inner event) = IsEventFormed event
IsFormed (rec.Wrote c bytes) = 1 ≤ length bytes
IsFormed (rec.Sent k from to bytes) = 1 ≤ length bytes
IsFormed (rec.Accepted c bytes) = 1 ≤ length bytes
IsFormed (rec.AssignedFirst c r path n add remove) = is_path path ≡ true
IsFormed (rec.AssignedLater c r path n add size queue) = is_path path ≡ true
IsFormed (rec.Hit n path) = is_path path ≡ true
IsFormed (rec.Queued n m c r path) = is_path path ≡ true
IsFormed (rec.Read n m c r path) = is_path path ≡ true
IsFormed _ = Unit {0}

-- where a record is so, a line can stand for it
abbrev pub HasWidths : Rec → Type 0
HasWidths r = IsFormed r → IsReadable r

abbrev pub HaveWidths : List Rec → Type 0
HaveWidths recs = AllByRecursion HasWidths recs
