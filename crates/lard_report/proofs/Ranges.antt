-- The records that a line can stand for are of those that their lines tell apart.
use Rattle.std.proofs.Common.{◌≡◌, ℕ, ◌<◌, List, [], ◌∷◌, length, true, false, ◌&&◌, Option, Some, None, arith}
use Rattle.std.specs.Prelude.{nat_eq, nat_lt}
use Rattle.std.specs.List.{list_all}
use Rattle.std.proofs.lemmas.Bool.{and_parts}
use Rattle.std.proofs.lemmas.Bool.Decides.{nat_tests}
use Rattle.std.proofs.lemmas.List.Elements.{All-cons, All-nil}
use Rattle.lard_base.specs.declared.event.Event.{Event}
use Rattle.lard_base.specs.declared.event.Event.TheVariants as event
use Rattle.lard_base.specs.declared.place.Place.{Place}
use Rattle.lard_base.specs.declared.place.Place.TheVariants.{Front, Node, Client}
use Rattle.lard_base.specs.declared.place.Via.{Via}
use Rattle.lard_base.specs.declared.place.Via.TheVariants as via
use Rattle.lard_journal.specs.declared.rec.Rec.{Rec}
use Rattle.lard_journal.specs.declared.rec.Rec.TheVariants as rec
use Rattle.lard_journal.specs.Range.{IsChoiceInRange, IsEventInRange, IsRecordInRange, IsNumber, IsPlaceInRange, IsUnspaced, IsViaInRange}
use Rattle.lard_schedule.specs.Events.{IsPlace, is_visible}
use Rattle.lard_report.specs.Readable.{IsChoice, IsConn, IsEvent, IsReadableNode, IsReadablePath, IsReadable, IsVia}

conn_wide : (c : ℕ) → IsConn c → IsNumber c
conn_wide c h = omega (arith, h.1)

node_wide : (n : ℕ) → IsReadableNode n → IsNumber n
node_wide n h = omega (arith, h.1)

place_wide : (place : Place) → IsPlace place → IsPlaceInRange place
place_wide Front h = tt
place_wide (Node n) h = node_wide n h
place_wide (Client c) h = conn_wide c h

choice_wide : (choice : Option ℕ) → IsChoice choice → IsChoiceInRange choice
choice_wide None h = tt
choice_wide (Some n) h = node_wide n h

via_wide : (v : Via) → IsVia v → IsViaInRange v
via_wide via.Own h = tt
via_wide via.Cache h = tt
via_wide via.Disk h = tt
via_wide (via.Node m) h = node_wide m h

-- a path has visible bytes alone, so no space
abbrev IsAboveSpace : ℕ → Type 0
IsAboveSpace b = 32 < b

visible_unspaced : (bs : List ℕ) → list_all is_visible bs ≡ true → IsUnspaced bs
visible_unspaced [] e = All-nil IsAboveSpace
visible_unspaced (b ∷ bs) e =
    let parts = and_parts (is_visible b) (list_all is_visible bs) e in
    let first : 32 < b = let visible = parts.0 in grind (arith, nat_tests, visible) in
    All-cons IsAboveSpace b bs first (visible_unspaced bs parts.1)

pub path_unspaced : (path : List ℕ) → IsReadablePath path → IsUnspaced path
path_unspaced [] e = let none : false ≡ true = e in cc
path_unspaced (b ∷ bs) e =
    let parts = and_parts (nat_eq b 47 && nat_lt (length bs) 1024) (list_all is_visible bs) e in
    let slash = and_parts (nat_eq b 47) (nat_lt (length bs) 1024) parts.0 in
    let first : 32 < b = let e = slash.0 in grind (arith, nat_tests, e) in
    All-cons IsAboveSpace b bs first (visible_unspaced bs parts.1)

event_in_range : (e : Event) → IsEvent e → IsEventInRange e
event_in_range (event.Open c isn iss wnd mss) h =
    (conn_wide c h.0.0, omega (arith, h.0.1), omega (arith, h.0.2), omega (arith, h.0.3.1), omega (arith, h.0.4.1))
event_in_range (event.Get c path) h = (conn_wide c h.0.0, path_unspaced path h.0.1)
event_in_range (event.Write c bytes) h = (conn_wide c h.0.0, h.1)
event_in_range (event.Shut c) h = conn_wide c h.0
event_in_range (event.Abort c) h = conn_wide c h.0
event_in_range (event.Hold c) h = conn_wide c h.0
event_in_range (event.Take c) h = conn_wide c h.0
event_in_range (event.Deliver k) h = omega (arith, h.0)
event_in_range (event.Lose k) h = omega (arith, h.0)
event_in_range (event.Timer place c) h = (place_wide place h.0.0, conn_wide c h.0.1)
event_in_range (event.Disk n j) h = (omega (arith, h.0.0), omega (arith, h.0.1))
event_in_range (event.Drain n) h = omega (arith, h.0)
event_in_range (event.Clock ms) h = omega (arith, h.0)
event_in_range (event.Settle rounds) h = omega (arith, h.0.1)
event_in_range (event.Inject c bytes) h = (conn_wide c h.0.0, h.1)

pub readable_in_range : (r : Rec) → IsReadable r → IsRecordInRange r
readable_in_range (rec.Event i event) h = (h.0, event_in_range event h.1)
readable_in_range (rec.Inner event) h = event_in_range event h
readable_in_range (rec.Opened c isn iss wnd mss) h = (conn_wide c h.0, omega (arith, h.1), omega (arith, h.2), omega (arith, h.3), omega (arith, h.4))
readable_in_range (rec.Wrote c bytes) h = (conn_wide c h.0, h.1.0)
readable_in_range (rec.Sent k from to bytes) h = (omega (arith, h.0), place_wide from h.1, place_wide to h.2, h.3.0)
readable_in_range (rec.Got k) h = omega (arith, h)
readable_in_range (rec.Lost k) h = omega (arith, h)
readable_in_range (rec.Accepted c bytes) h = (conn_wide c h.0, h.1.0)
readable_in_range (rec.Eof c) h = conn_wide c h
readable_in_range (rec.Took place c epoch) h = (place_wide place h.0, conn_wide c h.1, omega (arith, h.2))
readable_in_range (rec.Gave place c epoch) h = (place_wide place h.0, conn_wide c h.1, omega (arith, h.2))
readable_in_range (rec.Waits c) h = conn_wide c h
readable_in_range (rec.Admitted c) h = conn_wide c h
readable_in_range (rec.Released c) h = conn_wide c h
readable_in_range (rec.AssignedFirst c r path n add remove) h =
    (conn_wide c h.0, omega (arith, h.1), path_unspaced path h.2, node_wide n h.3, choice_wide add h.4, choice_wide remove h.5)
readable_in_range (rec.AssignedLater c r path n add size queue) h =
    (conn_wide c h.0, omega (arith, h.1), path_unspaced path h.2, node_wide n h.3, choice_wide add h.4, omega (arith, h.5), omega (arith, h.6))
readable_in_range (rec.BatchOver c) h = conn_wide c h
readable_in_range (rec.Served place c r code length via) h =
    (place_wide place h.0, conn_wide c h.1, omega (arith, h.2), omega (arith, h.3), omega (arith, h.4), via_wide via h.5)
readable_in_range (rec.Hit n path) h = (node_wide n h.0, path_unspaced path h.1)
readable_in_range (rec.Queued n m c r path) h = (node_wide n h.0, node_wide m h.1, conn_wide c h.2, omega (arith, h.3), path_unspaced path h.4)
readable_in_range (rec.Read n m c r path) h = (node_wide n h.0, node_wide m h.1, conn_wide c h.2, omega (arith, h.3), path_unspaced path h.4)
readable_in_range (rec.Closed n) h = node_wide n h
readable_in_range (rec.Armed place c kind) h = (place_wide place h.0, conn_wide c h.1)
readable_in_range (rec.Cleared place c kind) h = (place_wide place h.0, conn_wide c h.1)
readable_in_range (rec.Reset place c count) h = (place_wide place h.0, conn_wide c h.1, omega (arith, h.2))
readable_in_range (rec.Aborted c) h = conn_wide c h
readable_in_range (rec.Injected c) h = conn_wide c h
readable_in_range (rec.Clock time) h = h
readable_in_range (rec.Settled rounds) h = omega (arith, h)
readable_in_range (rec.Unsettled rounds left) h = (omega (arith, h.0), h.1)
