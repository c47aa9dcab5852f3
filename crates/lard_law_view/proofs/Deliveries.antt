-- What is seen first in a step: its event, and the packet that the event delivers.
use Rattle.std.proofs.Common.{◌≡◌, ℕ, List, Some}
use Rattle.lard_law_view.specs.Prelude.{Came, Event, Packet, Row, Seen, letter_of, packet_at}
use Rattle.lard_base.specs.declared.event.Event.TheVariants as event
use Rattle.lard_journal.specs.declared.rec.Rec.TheVariants as rec

-- an event that is seen is this one
abbrev pub IsHead : Event → Seen → Type 0
IsHead e (Row (rec.Event i d)) = d ≡ e
IsHead e (Row (rec.Inner d)) = ⊥
IsHead e _ = Unit {0}

-- a packet that is seen to come is the one that the event delivers
abbrev pub IsDelivered : List Packet → Event → Seen → Type 0
IsDelivered net e (Row r) = Unit {0}
IsDelivered net e (Came l) = (k : ℕ) × (p : Packet) × (e ≡ event.Deliver k) × (packet_at net k ≡ Some p) × (letter_of p ≡ l)
