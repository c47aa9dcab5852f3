-- Laws told of one connection: records that are all about it may stand where its tale lets them.
use Rattle.std.proofs.Common.{◌≡◌, ℕ, ◌+◌, ◌<◌, ◌≤◌, List, false, Some, None}
use Rattle.lard_law_view.specs.Prelude.{Client, Event, Front, Node, Place, Rec, Tale, has_closed, owner, served_bytes, was_reset}
use Rattle.lard_base.specs.declared.event.Event.TheVariants as event
use Rattle.lard_journal.specs.declared.rec.Rec.TheVariants as rec
use Rattle.lard_law_view.proofs.RowLists.{TellsBy}

-- ---- in the tale of one connection

abbrev pub ShutsOnly : ℕ → Event → Type 0
ShutsOnly c (event.Shut d) = d ≡ c
ShutsOnly c _ = Unit {0}

abbrev pub SendsOnly : ℕ → Tale → Place → Place → Type 0
SendsOnly c t Front (Client d) = (d ≡ c) × (t.owner ≡ Some Front)
SendsOnly c t (Node n) (Client d) = (d ≡ c) × (t.owner ≡ Some (Node n))
SendsOnly c t _ _ = Unit {0}

-- the record is about connection c alone, and may stand where this is told of it
abbrev pub MayStand : ℕ → ℕ → Tale → Rec → Type 0
MayStand stream c t (rec.Event i e) = ShutsOnly c e
MayStand stream c t (rec.Inner e) = ShutsOnly c e
MayStand stream c t (rec.Opened d isn iss wnd mss) = d ≡ c
MayStand stream c t (rec.Wrote d bytes) = (d ≡ c) × (t.has_closed ≡ false)
MayStand stream c t (rec.Accepted d bytes) = d ≡ c
MayStand stream c t (rec.Eof d) = d ≡ c
MayStand stream c t (rec.Aborted d) = d ≡ c
MayStand stream c t (rec.Took place d epoch) = (d ≡ c) × (t.epoch < epoch.0) × (t.owner ≡ None)
MayStand stream c t (rec.Gave place d epoch) = (d ≡ c) × (t.owner ≡ Some place) × (t.epoch ≡ epoch.0)
MayStand stream c t (rec.Served place d r code size via) = (d ≡ c) × (t.served_bytes + size ≤ stream) × (t.was_reset ≡ false)
MayStand stream c t (rec.Reset place d total) = (d ≡ c) × (stream < total) × (t.was_reset ≡ false)
MayStand stream c t (rec.Sent k from to bytes) = SendsOnly c t from to
MayStand stream c t _ = Unit {0}

-- each of these records may stand where it does
abbrev pub Tells : ℕ → ℕ → Tale → List Rec → Type 0
Tells stream c t rs = TellsBy (MayStand stream c) c t rs
