-- What the rules of a place keep of the agreement of its connection: those of a node, those of the front end, and what a client does.
use Rattle.std.specs.Prelude.{Bool, List, None, Ok, Option, Some, [], false, true, ℕ, ◌∷◌, ◌++◌, ◌<◌, ◌^◌, ◌||◌, ◌≡◌, ◌≢◌, ◌≤◌, ◌⊎◌}
use Rattle.std.specs.List.{list_any}
use Rattle.lard_law_view.specs.Prelude.{AreReplies, BackRow, Body, ControlBlock, EndpointParts, FilesAt, Final, FirstChoice, Front, FrontConn, FrontEnv, FrontPart, FrontRow, FrontTurn, GoesOn, IsConnNumber, IsStream, IsWord, Kind, MAX_STREAM_BYTES, Message, Node, NodeDeed, NodeEnv, NodePart, NodeTurn, Part, Place, Reason, Said, SaysAnswers, Stream, Verdict, again_sent, decoded_message, front_admitted, front_ended, front_gets, front_rest, front_timer, is_reset_record, kind_of, may_freeze, node_content, node_forwarded, node_goes_back, node_offered, node_read, node_tagged, node_timer, offer_decision, parts_of}
use Rattle.lard_law_connections.specs.BytesAgreement.{EndedWithNumbers, FrontHolds, FrontWaits, IsKept, IsOffering, NodeAgrees, SeatAgrees, StayComesOn}
use Rattle.lard_law_connections.specs.BytesTurning.{CountsResponses}
use Rattle.lard_law_connections.specs.Places.{IsDecided, IsLeft}
use Rattle.lard_rules.specs.Front.{message}
use Rattle.lard_rules.specs.Front as front
use Rattle.lard_handoff_front.specs.declared.row.FrontConn.TheVariants as stage
use Rattle.lard_history.proofs.Each.{Each}
use Rattle.lard_message.specs.declared.kind.Kind.TheVariants as kind
use Rattle.lard_message.specs.declared.message.Body.TheVariants as body
use Rattle.lard_rules.specs.Node.{Does, Drops, Says}
use Rattle.lard_handoff_back.specs.declared.table.Adopt.TheVariants.{Refuse}

-- the last stay is over
abbrev pub HasLeft : Option BackRow → Type 0
HasLeft None = ⊥
HasLeft (Some row) = IsLeft row.stage

-- What a node says: an Ended or a Give is the one that it keeps, once its stay is over, and it offers nothing.
abbrev pub EndsOfKind : NodePart → List ℕ → Kind → Type 0
EndsOfKind p bytes kind.Ended = IsKept p.kept bytes
EndsOfKind p bytes kind.Give = IsKept p.kept bytes × HasLeft p.row
EndsOfKind p bytes kind.Offer = ⊥
EndsOfKind p bytes _ = Unit {0}

abbrev pub NodeSays : ℕ → NodePart → Place × List ℕ → Type 0
NodeSays c p s = ((m : ℕ) × (s.0 ≡ Node m)) ⊎ ((e : ℕ) × (b : Body) × (s ≡ (Front, message c e b)) × EndsOfKind p s.1 (kind_of b))

-- A turn of a node that has a connection: the cluster's stream goes on by the answers to more verdicts, as its notes count, all that
-- was sent to the client is true of it, and what the node keeps of the connection agrees with it again: it holds the endpoint, and
-- its batch is what was read and is not answered, each request to be answered as it may be, or it tells the front end how it ended, or
-- the endpoint that goes back.
pub record NodeTurned (files : FilesAt) (c e : ℕ) (before : NodePart) (w out : Stream) (vs : List Verdict) (was_reset : Bool) (given : NodePart × NodeTurn) : Type 0 where
  pub out_after : Stream
  pub vs_after : List Verdict
  pub pend_after : List Verdict
  pub longer : GoesOn out out_after
  pub says : SaysAnswers files w out_after vs_after
  pub agrees : NodeAgrees w out_after vs_after pend_after (was_reset || list_any is_reset_record given.1.notes) c given.0
  pub noted : CountsResponses files c w out vs vs_after out_after.bytes given.1.notes
  pub ways : StayComesOn files given.0.stay
  pub sent : AreReplies c w out_after (was_reset || list_any is_reset_record given.1.notes) given.1.segments
  pub decided : IsDecided e given.0.row
  pub again : List (Place × List ℕ)
  pub more : List (Place × List ℕ)
  pub messages : given.1.messages ≡ again ++ more
  pub told : (again ≡ []) ⊎ (again ≡ again_sent before)
  pub said : Each (NodeSays c given.0) more

-- what a rule of a node comes to: what it drops or answers alone changes nothing, and it says what it said before, or that it took it
abbrev pub DeedKeeps : FilesAt → ℕ → ℕ → NodePart → Stream → Stream → List Verdict → Bool → NodeDeed → Type 0
DeedKeeps files c e before w out vs was_reset Drops = Unit {0}
DeedKeeps files c e before w out vs was_reset (Says messages) = (messages ≡ again_sent before) ⊎ (messages ≡ (Front, message c e body.Taken) ∷ [])
DeedKeeps files c e before w out vs was_reset (Does given) = NodeTurned files c e before w out vs was_reset given

-- the streams are those of a connection, and what was said so far answers what was read
pub record IsTalk (env : NodeEnv) (w out : Stream) (vs : List Verdict) : Type 0 where
  pub most : env.serve.stream ≤ MAX_STREAM_BYTES
  pub stream : IsStream w
  pub says : SaysAnswers env.serve.files w out vs

-- A rule keeps the agreement of a connection that the node has.
abbrev pub NodeKeeps : (NodeEnv → NodePart → NodeDeed) → Type 0
NodeKeeps rule = (env : NodeEnv) (w out : Stream) (vs pend : List Verdict) (was_reset : Bool) (p : NodePart) → IsTalk env w out vs → NodeAgrees w out vs pend was_reset env.serve.c p
    → StayComesOn env.serve.files p.stay → DeedKeeps env.serve.files env.serve.c env.epoch p w out vs was_reset (rule env p)

-- a true segment of the client is forwarded to it
abbrev pub NodeHearsTruth : Type 0
NodeHearsTruth = (env : NodeEnv) (w out : Stream) (vs pend : List Verdict) (was_reset : Bool) (p : NodePart) (s : Said) → IsTalk env w out vs → NodeAgrees w out vs pend was_reset env.serve.c p
    → StayComesOn env.serve.files p.stay → IsWord w s → DeedKeeps env.serve.files env.serve.c env.epoch p w out vs was_reset (node_forwarded env p (Ok s))

-- a Tag, a content, a completed job of its disk
abbrev pub TagsKeep : Type 0
TagsKeep = (number : ℕ) (nodes : List ℕ) → NodeKeeps (λ env p. node_tagged env p number nodes)

abbrev pub ContentsKeep : Type 0
ContentsKeep = (from r : ℕ) → NodeKeeps (λ env p. node_content env p from r)

abbrev pub ReadsKeep : Type 0
ReadsKeep = (r : ℕ) → NodeKeeps (λ env p. node_read env p r)

abbrev pub NodeTimerKeeps : Type 0
NodeTimerKeeps = NodeKeeps node_timer

-- the node leaves, and the connection goes back where it is ready
abbrev pub LeavesKeep : Type 0
LeavesKeep = NodeKeeps node_goes_back

-- The parts of an endpoint that the front end froze: a node that does not refuse them goes on where the front end stopped, whatever it kept before.
abbrev pub OffersKeep : Type 0
OffersKeep = (env : NodeEnv) (w out : Stream) (vs pend : List Verdict) (was_reset : Bool) (p : NodePart) (b : ControlBlock) (count : ℕ) → IsTalk env w out vs
    → FrontHolds w out vs pend b count → may_freeze b ≡ true → offer_decision env.leaving env.epoch p.row p.beside ≢ Refuse
    → DeedKeeps env.serve.files env.serve.c env.epoch p w out vs was_reset (node_offered env p (parts_of b count))

-- ---- the front end

-- What the front end keeps of a connection that it has, or that it offers. Of one that a node has nothing is said here.
abbrev pub FrontStageAgrees : Stream → Stream → List Verdict → Bool → ℕ → ℕ → FrontPart → FrontConn → Type 0
FrontStageAgrees w out vs was_reset c e p (stage.Held b) = FrontHolds w out vs [] b (front_rest p.rest).count
FrontStageAgrees w out vs was_reset c e p (stage.Waiting b) = FrontWaits w out vs [] b (front_rest p.rest).count
FrontStageAgrees w out vs was_reset c e p stage.Lent = ⊥
FrontStageAgrees w out vs was_reset c e p (stage.Offering n d) = IsOffering w out vs [] c n e p.kept
FrontStageAgrees w out vs was_reset c e p (stage.Moved n d) = ⊥
FrontStageAgrees w out vs was_reset c e p (stage.Closed last) = EndedWithNumbers w was_reset last

abbrev pub FrontRowAgrees : Stream → Stream → List Verdict → Bool → ℕ → FrontPart → Option FrontRow → Type 0
FrontRowAgrees w out vs was_reset c p None = (vs ≡ []) × (out.ended ≡ false)
FrontRowAgrees w out vs was_reset c p (Some row) = FrontStageAgrees w out vs was_reset c row.epoch.0 p row.stage

abbrev pub FrontPartAgrees : Stream → Stream → List Verdict → Bool → ℕ → FrontPart → Type 0
FrontPartAgrees w out vs was_reset c p = FrontRowAgrees w out vs was_reset c p p.row

-- What it says to a node: an Offer is the one that it keeps, and it forwards nothing.
abbrev pub SaysOfKind : FrontPart → List ℕ → Kind → Type 0
SaysOfKind p bytes kind.Offer = IsKept p.kept bytes
SaysOfKind p bytes kind.Forward = ⊥
SaysOfKind p bytes _ = Unit {0}

abbrev pub FrontSays : ℕ → FrontPart → Place × List ℕ → Type 0
FrontSays c p s = (n e : ℕ) × (b : Body) × (s ≡ (Node n, message c e b)) × SaysOfKind p s.1 (kind_of b)

-- A turn of the front end: the cluster's stream goes on by the answers to more verdicts, as its notes count, all that was sent to
-- the client is true of it, and what the front end keeps agrees with it again.
pub record FrontTurned (files : FilesAt) (c : ℕ) (w out : Stream) (vs : List Verdict) (was_reset : Bool) (part : FrontPart) (turn : FrontTurn) : Type 0 where
  pub out_after : Stream
  pub vs_after : List Verdict
  pub longer : GoesOn out out_after
  pub says : SaysAnswers files w out_after vs_after
  pub agrees : FrontPartAgrees w out_after vs_after (was_reset || list_any is_reset_record turn.notes) c part
  pub noted : CountsResponses files c w out vs vs_after out_after.bytes turn.notes
  pub sent : AreReplies c w out_after (was_reset || list_any is_reset_record turn.notes) turn.segments
  pub said : Each (FrontSays c part) turn.messages

-- what a rule of the front end comes to; where it keeps what it kept, it notes nothing, and says what is true
abbrev pub FrontDeedKeeps : FilesAt → ℕ → Stream → Stream → List Verdict → Bool → front.FrontDeed → Type 0
FrontDeedKeeps files c w out vs was_reset front.Drops = Unit {0}
FrontDeedKeeps files c w out vs was_reset (front.Says turn) = (turn.notes ≡ []) × AreReplies c w out was_reset turn.segments
FrontDeedKeeps files c w out vs was_reset (front.Does did) = FrontTurned files c w out vs was_reset did.part did.turn

pub record IsFrontTalk (env : FrontEnv) (w out : Stream) (vs : List Verdict) : Type 0 where
  pub most : env.serve.stream ≤ MAX_STREAM_BYTES
  pub begins : env.iss ≡ out.first
  pub stream : IsStream w
  pub says : SaysAnswers env.serve.files w out vs

-- a true segment of the client comes
abbrev pub FrontHearsTruth : Type 0
FrontHearsTruth = (env : FrontEnv) (w out : Stream) (vs : List Verdict) (was_reset : Bool) (p : FrontPart) (bytes : List ℕ) (s : Said) → IsFrontTalk env w out vs
    → FrontPartAgrees w out vs was_reset env.serve.c p → IsWord w s → FrontDeedKeeps env.serve.files env.serve.c w out vs was_reset (front_gets env p bytes (Ok s))

abbrev pub FrontTimerKeeps : Type 0
FrontTimerKeeps = (env : FrontEnv) (w out : Stream) (vs : List Verdict) (was_reset : Bool) (p : FrontPart) → IsFrontTalk env w out vs
    → FrontPartAgrees w out vs was_reset env.serve.c p → FrontDeedKeeps env.serve.files env.serve.c w out vs was_reset (front_timer env p)

-- a node tells how the connection ended there
abbrev pub EndsKeep : Type 0
EndsKeep = (env : FrontEnv) (w out : Stream) (vs : List Verdict) (was_reset : Bool) (p : FrontPart) (from epoch : ℕ) (last : Final) → IsFrontTalk env w out vs
    → EndedWithNumbers w was_reset last → FrontDeedKeeps env.serve.files env.serve.c w out vs was_reset (front_ended env p from epoch last)

-- the head of the line is admitted, where there is one
abbrev pub AdmittedKeeps : FilesAt → ℕ → Stream → Stream → List Verdict → Bool → Option (FrontPart × FrontTurn) → Type 0
AdmittedKeeps files c w out vs was_reset None = Unit {0}
AdmittedKeeps files c w out vs was_reset (Some given) = FrontTurned files c w out vs was_reset given.0 given.1

abbrev pub AdmissionsKeep : Type 0
AdmissionsKeep = (env : FrontEnv) (w out : Stream) (vs : List Verdict) (was_reset : Bool) (p : FrontPart) (choice : FirstChoice) → IsFrontTalk env w out vs
    → FrontPartAgrees w out vs was_reset env.serve.c p → AdmittedKeeps env.serve.files env.serve.c w out vs was_reset (front_admitted env p choice)

-- ---- the client

-- Where the client writes on, or closes, what is kept of the connection agrees with it still, wherever the connection is.
abbrev pub SeatStays : Type 0
SeatStays = (w w_after out : Stream) (vs pend : List Verdict) (was_reset : Bool) (c : ℕ) (p : Part) → GoesOn w w_after
    → SeatAgrees w out vs pend was_reset c p p.front.row → SeatAgrees w_after out vs pend was_reset c p p.front.row

-- and what was said so far answers what it wrote
abbrev pub SaidStays : Type 0
SaidStays = (files : FilesAt) (w w_after out : Stream) (vs : List Verdict) → GoesOn w w_after → SaysAnswers files w out vs → SaysAnswers files w_after out vs

-- ---- messages between places

-- What a place reads of an Offer is the parts of the endpoint that was frozen.
abbrev pub OffersAreRead : Type 0
OffersAreRead = (c e : ℕ) (w out : Stream) (vs pend : List Verdict) (b : ControlBlock) (count : ℕ) → IsConnNumber c → e < 2 ^ 16 → IsStream w → FrontHolds w out vs pend b count → may_freeze b ≡ true
    → (m : Message) (parts : EndpointParts) → decoded_message (message c e (body.Offer (parts_of b count))) ≡ Ok m → m.body ≡ body.Offer parts → parts ≡ parts_of b count

-- So it is of a Give.
abbrev pub GivesAreRead : Type 0
GivesAreRead = (c e : ℕ) (w out : Stream) (vs pend : List Verdict) (b : ControlBlock) (count : ℕ) → IsConnNumber c → e < 2 ^ 16 → IsStream w → FrontHolds w out vs pend b count → may_freeze b ≡ true
    → (m : Message) (parts : EndpointParts) → decoded_message (message c e (body.Give (parts_of b count))) ≡ Ok m → m.body ≡ body.Give parts → parts ≡ parts_of b count

-- What it reads of a Forward is the segment as it came.
abbrev pub ForwardsAreRead : Type 0
ForwardsAreRead = (c e : ℕ) (bytes segment : List ℕ) (m : Message) → decoded_message (message c e (body.Forward bytes)) ≡ Ok m → m.body ≡ body.Forward segment → segment ≡ bytes

-- What it reads of an Ended is why and with which numbers the connection ended.
abbrev pub EndsAreRead : Type 0
EndsAreRead = (c e : ℕ) (w : Stream) (was_reset : Bool) (last : Final) (count : ℕ) → EndedWithNumbers w was_reset last → (m : Message) (why : Reason) (snd rcv n : ℕ)
    → decoded_message (message c e (body.Ended last.reason last.snd.0 last.rcv.0 count)) ≡ Ok m → m.body ≡ body.Ended why snd rcv n → EndedWithNumbers w was_reset (record { reason = why; snd = record { 0 = snd }; rcv = record { 0 = rcv } })
