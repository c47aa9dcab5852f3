-- What the two ends of a connection of the cluster, and all its packets, acknowledge: never more than was taken.
use Rattle.std.specs.Prelude.{◌≡◌, ◌⊎◌, ℕ, ◌+◌, ◌≤◌, Bool, true, false, List, Option, Some, None, Ok}
use Rattle.lard_law_view.specs.Prelude.{BackConn, BackRow, Body, Client, Conn, Ending, EndpointParts, Front, FrontConn, FrontRow, Letter, Message, Node, Part, Place, Said, Station, ToClient, ToCluster, decoded, decoded_message, is_client_open, one_if}
use Rattle.lard_law_connections.specs.Places.{HasEnded, IsDecided}
use Rattle.lard_handoff_back.specs.declared.row.BackConn.TheVariants as back
use Rattle.lard_handoff_front.specs.declared.row.FrontConn.TheVariants as stage
use Rattle.lard_history.proofs.Each.{Each}
use Rattle.lard_law_view.proofs.Acked.{ClientHolds, EndHolds, ReplyMay, WordMay, heard_at, taken_by}
use Rattle.lard_law_view.proofs.Story.{Story, story_seen, unheard}
use Rattle.lard_message.specs.declared.message.Body.TheVariants as body
use Rattle.lard_rules.specs.declared.places.Ending.TheVariants as ending

-- What bounds all acknowledgements of a connection: the first number of its client and of the cluster, how many symbols of the
-- client's the cluster took and how many of the cluster's the client took; and whether the client aborted.
pub record Bounds : Type 0 where
  pub isn : ℕ
  pub iss : ℕ
  pub heard : ℕ
  pub taken : ℕ
  pub aborted : Bool

-- ---- the places of the cluster

-- Where the endpoint is, or its last numbers are, so many symbols of the client's were taken; no more of the cluster's are
-- acknowledged than the client took, and only a client that aborted resets.
abbrev pub EndActs : Bounds → Ending → Type 0
EndActs b e = (b.heard ≡ heard_at b.isn e) × EndHolds b.iss b.taken b.aborted e

abbrev pub FrontStageActs : Bounds → FrontConn → Type 0
FrontStageActs b (stage.Held block) = EndActs b (ending.Here block 0)
FrontStageActs b (stage.Waiting block) = EndActs b (ending.Here block 0)
FrontStageActs b stage.Lent = Unit {0}
FrontStageActs b (stage.Offering n e) = Unit {0}
FrontStageActs b (stage.Moved n e) = Unit {0}
FrontStageActs b (stage.Closed last) = EndActs b (ending.Over last)

-- before the front end knows a connection, nothing of its client's was taken
abbrev pub FrontActs : Bounds → Option FrontRow → Type 0
FrontActs b None = b.heard ≡ 0
FrontActs b (Some row) = FrontStageActs b row.stage

abbrev pub BackStageActs : Bounds → BackConn → Type 0
BackStageActs b (back.Here block) = EndActs b (ending.Here block 0)
BackStageActs b _ = Unit {0}

abbrev pub BackActs : Bounds → Option BackRow → Type 0
BackActs b None = Unit {0}
BackActs b (Some row) = BackStageActs b row.stage

-- ---- packets

-- an endpoint that is on its way to a node took all that was taken
pub record PartsAct (b : Bounds) (parts : EndpointParts) : Type 0 where
  pub heard : b.heard ≡ 1 + parts.got + one_if parts.fin
  pub acknowledged : parts.una ≤ b.taken

-- a segment of the client acknowledges what the client took, and resets only where it aborted
abbrev pub WordActs : ℕ → Bounds → List ℕ → Type 0
WordActs c b bytes = (s : Said) → decoded bytes c ToCluster ≡ Ok s → WordMay b.iss b.taken b.aborted s

-- a segment of the cluster acknowledges what the cluster took
abbrev pub ReplyActs : ℕ → Bounds → List ℕ → Type 0
ReplyActs c b bytes = (s : Said) → decoded bytes c ToClient ≡ Ok s → ReplyMay b.isn b.heard s

-- A message of the front end: an Offer that its node has not decided, and of whose epoch the front end is, has all that was taken; and what is
-- forwarded is a segment of the client.
abbrev pub FrontBodyActs : ℕ → Bounds → Part → ℕ → ℕ → Body → Type 0
FrontBodyActs c b p n e (body.Offer parts) = IsDecided e (p.nodes n).row ⊎ (HasEnded e p.front.row ⊎ PartsAct b parts)
FrontBodyActs c b p n e (body.Forward segment) = WordActs c b segment
FrontBodyActs c b p n e _ = Unit {0}

-- A message of a node: the end of a stay that the front end does not know has the last numbers.
abbrev pub NodeBodyActs : Bounds → ℕ → Option FrontRow → Body → Type 0
NodeBodyActs b e row (body.Ended why snd rcv count) = HasEnded e row ⊎ EndActs b (ending.Over (record { reason = why; snd = record { 0 = snd }; rcv = record { 0 = rcv } }))
NodeBodyActs b e row _ = Unit {0}

abbrev pub LetterActsOn : ℕ → Bounds → Part → Place → Place → List ℕ → Type 0
LetterActsOn c b p (Client d) Front bytes = WordActs c b bytes
LetterActsOn c b p Front (Client d) bytes = ReplyActs c b bytes
LetterActsOn c b p (Node n) (Client d) bytes = ReplyActs c b bytes
LetterActsOn c b p Front (Node n) bytes = (m : Message) → decoded_message bytes ≡ Ok m → FrontBodyActs c b p n m.epoch.0 m.body
LetterActsOn c b p (Node n) Front bytes = (m : Message) → decoded_message bytes ≡ Ok m → NodeBodyActs b m.epoch.0 p.front.row m.body
LetterActsOn c b p _ _ bytes = Unit {0}

abbrev pub LetterActs : ℕ → Bounds → Part → Letter → Type 0
LetterActs c b p l = LetterActsOn c b p l.from l.to l.bytes

-- whatever has the connection, and every packet of it that was ever sent
pub record ActsWithin (x : Conn) (b : Bounds) : Type 0 where
  pub front : FrontActs b x.part.front.row
  pub nodes : (n : ℕ) → BackActs b (x.part.nodes n).row
  pub packets : Each (LetterActs x.c b x.part) x.letters

-- ---- one connection

-- what became of its client, by what the connection sees
abbrev pub story_at : Conn → Story
story_at x = story_seen x.c unheard x.seen

-- what bounds it, where the cluster took so many symbols of its client
abbrev pub bounds_of : Conn → Station → ℕ → Bounds
bounds_of x s heard = record { isn = s.client.send.iss; iss = s.iss; heard = heard; taken = taken_by s.client; aborted = (story_at x).aborted }

-- The cluster took so many symbols of the client: the client and all else keep to that; and what became of the client is told.
pub record OpenActs (x : Conn) (s : Station) : Type 0 where
  pub heard : ℕ
  pub client : ClientHolds heard (story_at x).aborted (story_at x).reset s.client
  pub within : ActsWithin x (bounds_of x s heard)
  pub ended : s.client.eof ≡ true → (story_at x).ended ≡ true
  pub shut : is_client_open s.client ≡ true → (story_at x).shut ≡ true → s.client.send.finished ≡ true

-- of one whose client has not opened the schedule closed no side
abbrev pub StationActs : Conn → Option Station → Type 0
StationActs x None = (story_at x).shut ≡ false
StationActs x (Some s) = OpenActs x s

-- Nothing is acknowledged that was not taken, at the client, wherever the connection is, and in every packet.
abbrev pub AcksWhatWasTaken : Conn → Type 0
AcksWhatWasTaken x = StationActs x x.part.station
