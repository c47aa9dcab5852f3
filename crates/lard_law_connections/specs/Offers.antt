-- What an Offer and a Give carry: the endpoint at the moment at which the message is first sent, in words of the journal.
use Rattle.std.specs.Prelude.{◌≡◌, ◌⊎◌, ℕ, ◌+◌, ◌-◌, ◌≤◌, false, List, [], ◌∷◌, length, take, drop, Some, Ok}
use Rattle.lard_law_view.specs.Prelude.{Body, Cuts, EachMay, EndpointParts, FilesAt, Front, Head, Long, Message, Node, Place, Rec, blocks, decoded_message, file_at, is_touched, numbers_of, said_to, served, wrote}
use Rattle.lard_block.specs.Blocks.{Piece}
use Rattle.lard_law_connections.specs.PlacesLaws.{AlwaysUsable}
use Rattle.lard_history.proofs.Each.{Each}
use Rattle.lard_journal.specs.declared.rec.Rec.TheVariants as rec
use Rattle.lard_message.specs.declared.message.Body.TheVariants as body

-- ---- packets that were sent before

-- the record tells that a packet with these bytes was sent from there to there
abbrev pub Sends : Place → Place → List ℕ → Rec → Type 0
Sends from to bytes (rec.Sent k sender goal sent) = (sender ≡ from) × (goal ≡ to) × (sent ≡ bytes)
Sends from to bytes _ = ⊥

abbrev pub WasSentBetween : Place → Place → List ℕ → List Rec → Type 0
WasSentBetween from to bytes [] = ⊥
WasSentBetween from to bytes (r ∷ rs) = Sends from to bytes r ⊎ WasSentBetween from to bytes rs

-- ---- what is carried

-- how many bytes of the client were read
abbrev pub bytes_read_of : EndpointParts → ℕ
bytes_read_of p = p.got - length p.unread

-- the block ends within the first n bytes
abbrev pub EndsBy : ℕ → Piece → Type 0
EndsBy n (Head block after) = after ≤ n
EndsBy n Long = ⊥

-- its first byte is behind these
abbrev pub BeginsFrom : ℕ → Piece → Type 0
BeginsFrom n (Head block after) = n + length block ≤ after
BeginsFrom n Long = Unit {0}

-- The first n bytes are the first `count` blocks, whatever follows: the last of these ends within them, and the next block begins
-- behind them. The empty lines between two blocks may be on either side, or on both (RFC 9112, 2.2).
pub record IsCutAt (n count : ℕ) (bytes : List ℕ) : Type 0 where
  pub there : count ≤ length (blocks bytes)
  pub cuts : Cuts (take n bytes) (take count (blocks bytes))
  pub ends : Each (EndsBy n) (take count (blocks bytes))
  pub begins : Each (BeginsFrom n) (drop count (blocks bytes))

-- The parts are those of connection c now: its first numbers; how many responses were queued, with all their bytes acknowledged,
-- the SYN before them too; and of what the client wrote, the bytes that were received and not read. What was read is cut behind the
-- blocks that were answered.
pub record ArePartsOf (files : FilesAt) (past : List Rec) (c : ℕ) (p : EndpointParts) : Type 0 where
  pub numbers : numbers_of past c ≡ Some (record { isn = p.irs; iss = p.iss })
  pub served_is : p.served ≡ served past c
  pub una_is : p.una ≡ 1 + length (said_to files past c)
  pub within : (length p.unread ≤ p.got) × (p.got ≤ length (wrote past c))
  pub unread_is : p.unread ≡ drop (bytes_read_of p) (take p.got (wrote past c))
  pub cut : IsCutAt (bytes_read_of p) (served past c) (wrote past c)

abbrev pub BodyCarries : FilesAt → List Rec → ℕ → Body → Type 0
BodyCarries files past c (body.Offer parts) = ArePartsOf files past c parts
BodyCarries files past c (body.Give parts) = ArePartsOf files past c parts
BodyCarries files past c _ = Unit {0}

-- Of a message that was not sent there before: so it is of each connection that the schedule did not touch.
abbrev pub FirstCarries : FilesAt → List Rec → Place → Place → List ℕ → Type 0
FirstCarries files past from to bytes =
    (m : Message) → decoded_message bytes ≡ Ok m → is_touched past m.c ≡ false → (WasSentBetween from to bytes past → ⊥) → BodyCarries files past m.c m.body

-- from the front end to a node, and from a node to the front end
abbrev pub OffersTo : FilesAt → List Rec → Place → Place → List ℕ → Type 0
OffersTo files past Front (Node n) bytes = FirstCarries files past Front (Node n) bytes
OffersTo files past (Node n) Front bytes = FirstCarries files past (Node n) Front bytes
OffersTo files past _ _ bytes = Unit {0}

abbrev pub MayOffer : FilesAt → List Rec → Rec → Type 0
MayOffer files past (rec.Sent k from to bytes) = OffersTo files past from to bytes
MayOffer files past _ = Unit {0}

-- each Offer and each Give carries the endpoint, where it is sent first
abbrev pub CarryTheEndpoint : FilesAt → List Rec → Type 0
CarryTheEndpoint files J = EachMay (MayOffer files) [] J

-- in every run of the cluster
abbrev pub OffersCarryTheEndpoint : Type 0
OffersCarryTheEndpoint = AlwaysUsable (λ files m. CarryTheEndpoint (file_at files) m.journal)
