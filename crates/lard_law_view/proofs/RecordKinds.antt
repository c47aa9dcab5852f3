-- What kind a record is, by who writes it and where it stands in a step. A law that looks at some kinds alone says so of the kind, once.
use Rattle.std.proofs.Common.{◌≡◌, refl}
use Rattle.lard_law_view.specs.Prelude.{Client, Front, IsMachine, Node, Place, Rec}
use Rattle.lard_journal.specs.declared.rec.Rec.TheVariants as rec

pub data Kind : Type 0 where
  Head : Kind  -- the event, and what is its own
  Written : Kind  -- noted by a client
  Serving : Kind  -- noted by whoever serves
  OfFront : Kind  -- noted by the front end alone
  OfNode : Kind  -- noted by a node alone
  Letter : Kind  -- a packet that is sent
  Gift : Kind  -- what is given up
  Timer : Kind  -- armed or cleared
  Mark : Kind  -- of a settle

abbrev pub kind_of : Rec → Kind
kind_of (rec.Wrote c bytes) = Written
kind_of (rec.Accepted c bytes) = Written
kind_of (rec.Eof c) = Written
kind_of (rec.Aborted c) = Written
kind_of (rec.Took place c epoch) = Serving
kind_of (rec.Served place c r code size via) = Serving
kind_of (rec.Reset place c total) = Serving
kind_of (rec.Waits c) = OfFront
kind_of (rec.Admitted c) = OfFront
kind_of (rec.Released c) = OfFront
kind_of (rec.AssignedFirst c r path n add remove) = OfFront
kind_of (rec.AssignedLater c r path n add size queue) = OfFront
kind_of (rec.BatchOver c) = OfFront
kind_of (rec.Closed n) = OfFront
kind_of (rec.Hit n path) = OfNode
kind_of (rec.Queued n m c r path) = OfNode
kind_of (rec.Read n m c r path) = OfNode
kind_of (rec.Sent k from to bytes) = Letter
kind_of (rec.Gave place c epoch) = Gift
kind_of (rec.Armed place c kind) = Timer
kind_of (rec.Cleared place c kind) = Timer
kind_of (rec.Settled rounds) = Mark
kind_of (rec.Unsettled rounds left) = Mark
kind_of _ = Head

-- ---- kinds of notes

-- what a place notes
abbrev pub IsOfPlace : Place → Kind → Type 0
IsOfPlace (Client d) Written = Unit {0}
IsOfPlace Front Serving = Unit {0}
IsOfPlace Front OfFront = Unit {0}
IsOfPlace (Node n) Serving = Unit {0}
IsOfPlace (Node n) OfNode = Unit {0}
IsOfPlace _ _ = ⊥

-- what the front end or a node notes
abbrev pub IsByMachine : Kind → Type 0
IsByMachine OfFront = Unit {0}
IsByMachine Serving = Unit {0}
IsByMachine OfNode = Unit {0}
IsByMachine _ = ⊥

-- what any place notes
abbrev pub IsNoted : Kind → Type 0
IsNoted Written = Unit {0}
IsNoted k = IsByMachine k

-- what another place than the front end notes
abbrev pub IsElsewhere : Kind → Type 0
IsElsewhere Written = Unit {0}
IsElsewhere Serving = Unit {0}
IsElsewhere OfNode = Unit {0}
IsElsewhere _ = ⊥

-- ---- records

abbrev pub IsNote : Rec → Type 0
IsNote r = IsNoted (kind_of r)

-- what stands around the notes: of an event, a packet that is sent, what is given up, or a timer
abbrev pub IsAround : Kind → Type 0
IsAround Head = Unit {0}
IsAround Letter = Unit {0}
IsAround Gift = Unit {0}
IsAround Timer = Unit {0}
IsAround _ = ⊥

abbrev pub IsOuter : Rec → Type 0
IsOuter r = IsAround (kind_of r)

-- it tells of no packet that is sent
abbrev pub IsUnsent : Rec → Type 0
IsUnsent (rec.Sent k from to bytes) = ⊥
IsUnsent _ = Unit {0}

-- ---- what is noted somewhere

pub any-kind : (place : Place) (k : Kind) → IsOfPlace place k → IsNoted k
any-kind (Client d) Written h = tt
any-kind Front Serving h = tt
any-kind Front OfFront h = tt
any-kind (Node n) Serving h = tt
any-kind (Node n) OfNode h = tt
any-kind _ _ h = absurd h

pub machine-kind : (place : Place) (k : Kind) → IsMachine place → IsOfPlace place k → IsByMachine k
machine-kind (Client d) k m h = absurd m
machine-kind Front Serving m h = tt
machine-kind Front OfFront m h = tt
machine-kind (Node n) Serving m h = tt
machine-kind (Node n) OfNode m h = tt
machine-kind _ _ m h = absurd h

pub else-kind : (place : Place) (k : Kind) → (place ≡ Front → ⊥) → IsOfPlace place k → IsElsewhere k
else-kind Front k n h = absurd (n refl)
else-kind (Client d) Written n h = tt
else-kind (Node i) Serving n h = tt
else-kind (Node i) OfNode n h = tt
else-kind _ _ n h = absurd h
