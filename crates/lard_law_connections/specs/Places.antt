-- Where the sending side of a connection is, by what the front end and the nodes keep of it, and what its messages say of that.
use Rattle.std.specs.Prelude.{◌≡◌, ◌≢◌, ◌⊎◌, ℕ, ◌+◌, ◌%◌, ◌<◌, ◌≤◌, List, true, option_map, Option, Some, None, is_some}
use Rattle.lard_law_view.specs.Prelude.{BackConn, BackRow, Conn, Epoch, Front, FrontConn, FrontRow, Kind, Letter, Node, NodePart, Part, Place, Tale, epoch_at, kind_named, number_byte, tale_at, version_at}
use Rattle.lard_handoff_back.specs.declared.row.BackConn.TheVariants.{Here, Out, Ended, Gone}
use Rattle.lard_handoff_front.specs.declared.row.FrontConn.TheVariants.{Held, Waiting, Lent, Offering, Moved, Closed}
use Rattle.lard_message.specs.declared.kind.Kind.TheVariants as kind

-- who owns the sending side of a connection, and the epoch in which it was taken last
pub record Owning : Type 0 where
  pub owner : Option Place
  pub epoch : ℕ

abbrev pub owning : Tale → Owning
owning t = record { owner = t.owner; epoch = t.epoch }

-- ---- epochs

-- The first owner is the front end, in epoch 1, and each that takes the connection behind it does so in the next one: so the front end's
-- epochs are odd, and those of nodes even.
abbrev pub IsOdd : ℕ → Type 0
IsOdd e = e % 2 ≡ 1

abbrev pub IsEven : ℕ → Type 0
IsEven e = (e % 2 ≡ 0) × (0 < e)

-- ---- at a node

-- a stay that is over
abbrev pub IsLeft : BackConn → Type 0
IsLeft (Here b) = ⊥
IsLeft Out = ⊥
IsLeft Ended = Unit {0}
IsLeft Gone = Unit {0}

-- every stay there was of an earlier epoch, and is over
abbrev pub IsPast : ℕ → Option BackRow → Type 0
IsPast e None = Unit {0}
IsPast e (Some row) = (row.epoch.0 < e) × IsLeft row.stage

abbrev pub ArePast : ℕ → (ℕ → NodePart) → Type 0
ArePast e nodes = (n : ℕ) → IsPast e (nodes n).row

-- who owns the connection whose stay at node n is in this stage, until the front end takes it back
abbrev pub Owns : ℕ → BackConn → Option Place → Type 0
Owns n (Here b) owner = owner ≡ Some (Node n)
Owns n Out owner = ⊥
Owns n Ended owner = owner ≡ None
Owns n Gone owner = ⊥

-- the node took it in this epoch, and the front end has not taken it back
abbrev pub IsThere : ℕ → ℕ → Owning → Option BackRow → Type 0
IsThere n e w None = ⊥
IsThere n e w (Some row) = (row.epoch.0 ≡ e) × (w.epoch ≡ e) × Owns n row.stage w.owner

-- its Offer has not come yet, and is of the epoch behind that of who had it last
abbrev pub IsComing : ℕ → Owning → Option BackRow → Type 0
IsComing e w row = (w.owner ≡ None) × (w.epoch + 1 ≡ e) × IsPast e row

abbrev pub OthersArePast : ℕ → ℕ → (ℕ → NodePart) → Type 0
OthersArePast n e nodes = (m : ℕ) → m ≢ n → IsPast e (nodes m).row

-- ---- at the front end

-- the front end owns it, and no node has it
abbrev pub IsHome : ℕ → Owning → (ℕ → NodePart) → Type 0
IsHome e w nodes = (w ≡ record { owner = Some Front; epoch = e }) × ArePast e nodes

-- Where it is, by its stage at the front end: here in an odd epoch, and away in an even one.
abbrev pub StageSits : ℕ → Owning → (ℕ → NodePart) → FrontConn → Type 0
StageSits e w nodes (Held b) = IsOdd e × IsHome e w nodes
StageSits e w nodes (Waiting b) = IsOdd e × IsHome e w nodes
StageSits e w nodes Lent = ⊥
StageSits e w nodes (Offering n d) = IsEven e × (d.0 ≡ e) × OthersArePast n e nodes × (IsComing e w (nodes n).row ⊎ IsThere n e w (nodes n).row)
StageSits e w nodes (Moved n d) = IsEven e × (d.0 ≡ e) × OthersArePast n e nodes × IsThere n e w (nodes n).row
StageSits e w nodes (Closed last) = IsOdd e × IsHome e w nodes

-- each node gives a connection back once at most, so it comes to no late epoch
abbrev pub IsEarlyEpoch : ℕ → Type 0
IsEarlyEpoch e = e < 200

abbrev pub IsRowEarly : Option FrontRow → Type 0
IsRowEarly None = Unit {0}
IsRowEarly (Some row) = IsEarlyEpoch row.epoch.0

-- the stay whose end the front end knows was of an earlier epoch
abbrev pub EndedBefore : ℕ → Option Epoch → Type 0
EndedBefore e None = Unit {0}
EndedBefore e (Some by) = by.0 < e

-- nobody took it yet
abbrev pub unowned : Owning
unowned = record { owner = None; epoch = 0 }

abbrev pub Sits : Owning → (ℕ → NodePart) → Option FrontRow → Type 0
Sits w nodes None = (w ≡ unowned) × ArePast 0 nodes
Sits w nodes (Some row) = StageSits row.epoch.0 w nodes row.stage × EndedBefore row.epoch.0 row.ended_by

-- ---- messages

-- what the head of a message says: its kind, and its epoch
pub record Head : Type 0 where
  pub kind : Kind
  pub epoch : ℕ

abbrev pub message_head : List ℕ → Option Head
message_head bytes = option_map (λ k. record { kind = k; epoch = epoch_at bytes }) (kind_named (version_at bytes) (number_byte bytes))

-- the node has decided about an Offer of this epoch
abbrev pub IsDecided : ℕ → Option BackRow → Type 0
IsDecided e None = ⊥
IsDecided e (Some row) = e ≤ row.epoch.0

-- its stay of this epoch is over
abbrev pub IsOver : ℕ → Option BackRow → Type 0
IsOver e None = ⊥
IsOver e (Some row) = (e ≤ row.epoch.0) × (row.epoch.0 ≡ e → IsLeft row.stage)

-- this epoch, or a later one
abbrev pub IsReachedBy : ℕ → Option Epoch → Type 0
IsReachedBy e None = ⊥
IsReachedBy e (Some d) = e ≤ d.0

-- its stay is of another epoch
abbrev pub IsOfOther : ℕ → Option BackRow → Type 0
IsOfOther e None = Unit {0}
IsOfOther e (Some row) = row.epoch.0 ≢ e

-- the node has a stay of this epoch, or had it last
abbrev pub HasStay : ℕ → Option BackRow → Type 0
HasStay e None = ⊥
HasStay e (Some row) = row.epoch.0 ≡ e

-- the node refused it in this epoch or in a later one, and has no stay of this epoch
abbrev pub IsRefusedBy : ℕ → NodePart → Type 0
IsRefusedBy e p = IsReachedBy e p.beside.refused × IsOfOther e p.row

-- its stay of this epoch is over, and it gave the connection back
abbrev pub IsGivenBack : ℕ → NodePart → Type 0
IsGivenBack e p = IsOver e p.row × (is_some p.beside.returned ≡ true)

-- it is offered to node n in this epoch
abbrev pub Offers : ℕ → ℕ → FrontConn → Type 0
Offers n e (Offering m d) = (m ≡ n) × (d.0 ≡ e)
Offers n e _ = ⊥

abbrev pub IsOffered : ℕ → ℕ → Option FrontRow → Type 0
IsOffered n e None = ⊥
IsOffered n e (Some row) = Offers n e row.stage

-- the front end is past this epoch
abbrev pub HasEnded : ℕ → Option FrontRow → Type 0
HasEnded e None = ⊥
HasEnded e (Some row) = e < row.epoch.0

-- node n refused it in this epoch, and the front end is past that
abbrev pub IsRefusalKnown : Part → ℕ → ℕ → Type 0
IsRefusalKnown p n e = IsRefusedBy e (p.nodes n) × HasEnded e p.front.row

-- or it is offered there still
abbrev pub IsRefusalTold : Part → ℕ → ℕ → Type 0
IsRefusalTold p n e = IsRefusedBy e (p.nodes n) × (HasEnded e p.front.row ⊎ IsOffered n e p.front.row)

-- what holds for ever once the front end sent such a message to node n
abbrev pub FrontSaid : Part → ℕ → ℕ → Kind → Type 0
FrontSaid p n e kind.Offer = IsDecided e (p.nodes n).row ⊎ (IsOffered n e p.front.row ⊎ IsRefusalKnown p n e)
FrontSaid p n e kind.EndedAck = HasEnded e p.front.row
FrontSaid p n e kind.Given = HasEnded e p.front.row
FrontSaid p n e _ = Unit {0}

-- and once a node sent such a message to the front end: none offers a connection
abbrev pub NodeSaid : Part → ℕ → ℕ → Kind → Type 0
NodeSaid p n e kind.Offer = ⊥
NodeSaid p n e kind.Taken = IsDecided e (p.nodes n).row
NodeSaid p n e kind.Ended = IsOver e (p.nodes n).row
NodeSaid p n e kind.Refused = IsRefusalTold p n e
NodeSaid p n e kind.Give = IsGivenBack e (p.nodes n)
NodeSaid p n e _ = Unit {0}

-- and once a node sent it to another one
abbrev pub OtherSaid : Option BackRow → ℕ → Kind → Type 0
OtherSaid row e kind.Fetch = IsDecided e row
OtherSaid row e _ = Unit {0}

abbrev pub MaySay : Part → Place → Place → Option Head → Type 0
MaySay p Front (Node n) (Some h) = FrontSaid p n h.epoch h.kind
MaySay p (Node n) Front (Some h) = NodeSaid p n h.epoch h.kind
MaySay p (Node n) (Node m) (Some h) = OtherSaid (p.nodes n).row h.epoch h.kind
MaySay p _ _ _ = Unit {0}

-- whatever comes of a packet, whenever it comes
abbrev pub LetterMay : Part → Letter → Type 0
LetterMay p l = MaySay p l.from l.to (message_head l.bytes)

-- ---- one connection

abbrev pub SitsAt : Conn → Type 0
SitsAt x = Sits (owning (tale_at x)) x.part.nodes x.part.front.row

abbrev pub HasEarlyEpoch : Conn → Type 0
HasEarlyEpoch x = IsRowEarly x.part.front.row
