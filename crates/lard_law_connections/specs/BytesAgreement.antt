-- What holds of one connection of the cluster between any two steps, as far as bytes go: what its client and the place that has its
-- endpoint keep, what the journal says of it, and what every packet that was ever sent says, agree.
use Rattle.std.specs.Prelude.{◌≡◌, ◌≢◌, ◌⊎◌, ℕ, ◌+◌, ◌-◌, ◌^◌, ◌<◌, ◌≤◌, Bool, true, false, List, [], ◌∷◌, ◌++◌, map, length, take, Option, Some, None, Ok}
use Rattle.lard_law_view.specs.Prelude.{BackConn, BackRow, Body, Client, ClientAgrees, Conn, ControlBlock, Ending, Entry, FilesAt, Final, Front, FrontConn, FrontRow, Hears, IsControlBlock, IsPrefix, IsReply, IsWord, Kept, Letter, Message, Node, NodePart, Part, Place, Progress, Said, SaysAnswers, Serves, Speaks, Station, Stay, Stream, Tale, Talk, ToClient, ToCluster, Verdict, blocks, closes_any, decoded_message, ended_kept, front_rest, good_path, may_freeze, parts_of, seq_add, spelled, stream_of, tale_at, verdicts, verdicts_on}
use Rattle.lard_base.specs.declared.place.Reason.TheVariants as reason
use Rattle.lard_base.specs.declared.place.TimerKind.TheVariants as kind
use Rattle.lard_law_connections.specs.BytesRecords.{IsWay}
use Rattle.lard_law_connections.specs.Places.{HasEnded, IsDecided, IsPast}
use Rattle.lard_rules.specs.Front.{message}
use Rattle.lard_handoff_back.specs.declared.row.BackConn.TheVariants as back
use Rattle.lard_handoff_front.specs.declared.row.FrontConn.TheVariants as stage
use Rattle.lard_history.proofs.Each.{Each}
use Rattle.lard_message.specs.declared.message.Body.TheVariants as body
use Rattle.lard_rules.specs.declared.stay.Progress.TheVariants as progress
use Rattle.lard_rules.specs.declared.places.Ending.TheVariants as ending

-- ---- reading

-- The verdicts vs were answered, and pend were read behind them and are not answered yet. While none of them closes, what was read
-- is cut into their pieces, whatever follows; behind an answer that closes nothing more is read.
pub record HasReadPending (w : Stream) (b : ControlBlock) (vs pend : List Verdict) : Type 0 where
  pub cut : b.recv.discarding ≡ false → closes_any pend ≡ false → (z : List ℕ)
      → verdicts_on (blocks (take (b.recv.got - length b.recv.unread) w.bytes ++ z)) ≡ (vs ++ pend) ++ verdicts_on (blocks z)
  pub goes_on : b.recv.discarding ≡ false → closes_any vs ≡ false
  pub stops : b.recv.discarding ≡ true → (b.send.finished ≡ true) × (closes_any vs ≡ true) × (pend ≡ [])
  pub fronts : (z : List ℕ) → IsPrefix (vs ++ pend) (verdicts (w.bytes ++ z))

-- ---- the endpoint

-- what a message has room for of the peer's window
pub record IsWide (b : ControlBlock) : Type 0 where
  pub wnd : b.send.wnd < 2 ^ 16
  pub wl1 : b.send.wl1 < 2 ^ 32
  pub wl2 : b.send.wl2 < 2 ^ 32

-- A place holds the endpoint, which its peer did not reset, and answered these verdicts.
pub record HoldsItPending (w out : Stream) (vs pend : List Verdict) (b : ControlBlock) (count : ℕ) : Type 0 where
  pub counted : count ≡ length vs
  pub not_reset : b.reset ≡ false
  pub sound : IsControlBlock b
  pub speaks : Speaks b.send out.bytes
  pub out_is : out ≡ stream_of b.send out.bytes
  pub hears : Hears w b.recv
  pub wide : IsWide b
  pub has_read : HasReadPending w b vs pend

-- It ended, with these numbers; for the stream limit behind a reset.
pub record EndedWithNumbers (w : Stream) (was_reset : Bool) (last : Final) : Type 0 where
  pub snd_fits : last.snd.0 < 2 ^ 32
  pub rcv_fits : last.rcv.0 < 2 ^ 32
  pub acks : (n : ℕ) × (last.rcv.0 ≡ seq_add w.first n) × (n ≤ 2 + length w.bytes)
  pub limit : last.reason ≡ reason.Limit → was_reset ≡ true

-- at the end of a turn of the place that held it
abbrev pub EndAgreesPending : Stream → Stream → List Verdict → List Verdict → Bool → Ending → Type 0
EndAgreesPending w out vs pend was_reset (ending.Here b count) = HoldsItPending w out vs pend b count
EndAgreesPending w out vs pend was_reset (ending.Over last) = EndedWithNumbers w was_reset last

-- ---- the seat

-- the front end holds it: each response was asked for by one that was read, and nothing more was read
pub record FrontHolds (w out : Stream) (vs pend : List Verdict) (b : ControlBlock) (count : ℕ) : Type 0 where
  pub none : pend ≡ []
  pub serves : Serves count b.recv b.send
  pub holds : HoldsItPending w out vs [] b count

-- and may move, while it waits to be admitted
abbrev pub FrontWaits : Stream → Stream → List Verdict → List Verdict → ControlBlock → ℕ → Type 0
FrontWaits w out vs pend b count = FrontHolds w out vs pend b count × (may_freeze b ≡ true)

-- its Offer is kept, with the parts of an endpoint that was frozen
pub record IsOffering (w out : Stream) (vs pend : List Verdict) (c n e : ℕ) (kept : List Kept) : Type 0 where
  pub block : ControlBlock
  pub count : ℕ
  pub frozen : may_freeze block ≡ true
  pub holds : FrontHolds w out vs pend block count
  pub kept_is : kept ≡ record { kind = kind.Offer; r = 0; to = Node n; bytes = message c e (body.Offer (parts_of block count)) } ∷ []

-- a node that has it: its batch is what was read and is not answered
abbrev pub StayAgrees : Stream → Stream → List Verdict → List Verdict → ControlBlock → Option Stay → Type 0
StayAgrees w out vs pend b None = ⊥
StayAgrees w out vs pend b (Some s) = (pend ≡ map (λ e. e.verdict) s.batch) × HoldsItPending w out vs pend b s.served

-- A request that is ready is answered as it may be; one that awaits its content, or its node, is for a file.
abbrev pub ComesOn : FilesAt → Verdict → Progress → Type 0
ComesOn files v (progress.Ready way) = IsWay files v way
ComesOn files v _ = good_path files v ≢ None

abbrev pub AreOnTheWay : FilesAt → List Entry → Type 0
AreOnTheWay files es = Each (λ e. ComesOn files e.verdict e.progress) es

-- so it is of each request of a batch
abbrev pub StayComesOn : FilesAt → Option Stay → Type 0
StayComesOn files None = Unit {0}
StayComesOn files (Some s) = AreOnTheWay files s.batch

-- it ended there, and the node tells so until that is acknowledged
pub record IsEnding (w : Stream) (was_reset : Bool) (c e : ℕ) (kept : List Kept) : Type 0 where
  pub last : Final
  pub count : ℕ
  pub ended : EndedWithNumbers w was_reset last
  pub kept_is : kept ≡ ended_kept c e last count ∷ []

-- it went back, and the node tells the endpoint that was frozen until that is answered; nothing more was read
pub record IsReturning (w out : Stream) (vs pend : List Verdict) (c e : ℕ) (p : NodePart) : Type 0 where
  pub block : ControlBlock
  pub count : ℕ
  pub frozen : may_freeze block ≡ true
  pub holds : FrontHolds w out vs pend block count
  pub returned : p.beside.returned ≡ Some count
  pub kept_is : p.kept ≡ record { kind = kind.Give; r = 0; to = Front; bytes = message c e (body.Give (parts_of block count)) } ∷ []

abbrev pub BackAgrees : Stream → Stream → List Verdict → List Verdict → Bool → ℕ → ℕ → NodePart → BackConn → Type 0
BackAgrees w out vs pend was_reset c e p (back.Here b) = StayAgrees w out vs pend b p.stay
BackAgrees w out vs pend was_reset c e p back.Out = ⊥
BackAgrees w out vs pend was_reset c e p back.Ended = IsEnding w was_reset c e p.kept ⊎ IsReturning w out vs pend c e p
BackAgrees w out vs pend was_reset c e p back.Gone = ⊥

abbrev pub RowAgrees : Stream → Stream → List Verdict → List Verdict → Bool → ℕ → NodePart → Option BackRow → Type 0
RowAgrees w out vs pend was_reset c p None = ⊥
RowAgrees w out vs pend was_reset c p (Some row) = BackAgrees w out vs pend was_reset c row.epoch.0 p row.stage

abbrev pub NodeAgrees : Stream → Stream → List Verdict → List Verdict → Bool → ℕ → NodePart → Type 0
NodeAgrees w out vs pend was_reset c p = RowAgrees w out vs pend was_reset c p p.row

-- where it is offered: the node has not decided, or it has it
abbrev pub AwayAgrees : Stream → Stream → List Verdict → List Verdict → Bool → ℕ → ℕ → ℕ → Part → Type 0
AwayAgrees w out vs pend was_reset c n e p =
    (IsPast e (p.nodes n).row × IsOffering w out vs pend c n e p.front.kept) ⊎ (IsDecided e (p.nodes n).row × NodeAgrees w out vs pend was_reset c (p.nodes n))

abbrev pub StageAgrees : Stream → Stream → List Verdict → List Verdict → Bool → ℕ → Part → ℕ → FrontConn → Type 0
StageAgrees w out vs pend was_reset c p e (stage.Held b) = FrontHolds w out vs pend b (front_rest p.front.rest).count
StageAgrees w out vs pend was_reset c p e (stage.Waiting b) = FrontWaits w out vs pend b (front_rest p.front.rest).count
StageAgrees w out vs pend was_reset c p e stage.Lent = ⊥
StageAgrees w out vs pend was_reset c p e (stage.Offering n d) = AwayAgrees w out vs pend was_reset c n e p
StageAgrees w out vs pend was_reset c p e (stage.Moved n d) = IsDecided e (p.nodes n).row × NodeAgrees w out vs pend was_reset c (p.nodes n)
StageAgrees w out vs pend was_reset c p e (stage.Closed last) = EndedWithNumbers w was_reset last

abbrev pub SeatAgrees : Stream → Stream → List Verdict → List Verdict → Bool → ℕ → Part → Option FrontRow → Type 0
SeatAgrees w out vs pend was_reset c p None = (vs ≡ []) × (pend ≡ []) × (out.ended ≡ false)
SeatAgrees w out vs pend was_reset c p (Some row) = StageAgrees w out vs pend was_reset c p row.epoch.0 row.stage

-- ---- packets

-- a place keeps these bytes, and nothing else
abbrev pub IsKept : List Kept → List ℕ → Type 0
IsKept kept bytes = (k : Kept) × (kept ≡ k ∷ []) × (k.bytes ≡ bytes)

-- A message of the front end: an Offer that is not decided is the one that is kept, and what it forwards is of the client's stream.
abbrev pub FrontTells : Talk → ℕ → Part → ℕ → ℕ → List ℕ → Body → Type 0
FrontTells k c p n e bytes (body.Offer parts) = IsDecided e (p.nodes n).row ⊎ (HasEnded e p.front.row ⊎ IsKept p.front.kept bytes)
FrontTells k c p n e bytes (body.Forward segment) = (s : Said) × (segment ≡ spelled c ToCluster s) × IsWord k.w s
FrontTells k c p n e bytes _ = Unit {0}

-- A message of a node: the end of a stay, or the Give, that the front end does not know is the one that is kept.
abbrev pub NodeTells : Part → ℕ → ℕ → List ℕ → Body → Type 0
NodeTells p n e bytes (body.Ended reason snd rcv count) = HasEnded e p.front.row ⊎ IsKept (p.nodes n).kept bytes
NodeTells p n e bytes (body.Give parts) = HasEnded e p.front.row ⊎ IsKept (p.nodes n).kept bytes
NodeTells p n e bytes _ = Unit {0}

abbrev pub IsNodePlace : Place → Type 0
IsNodePlace (Node n) = Unit {0}
IsNodePlace _ = ⊥

-- what comes of a packet whenever it comes
abbrev pub IsFairOn : Talk → ℕ → Part → Place → Place → List ℕ → Type 0
IsFairOn k c p (Client d) Front bytes = (s : Said) × (bytes ≡ spelled c ToCluster s) × IsWord k.w s
IsFairOn k c p Front (Client d) bytes = (s : Said) × (bytes ≡ spelled c ToClient s) × IsReply k.w k.out k.was_reset s
IsFairOn k c p (Node n) (Client d) bytes = (s : Said) × (bytes ≡ spelled c ToClient s) × IsReply k.w k.out k.was_reset s
IsFairOn k c p Front (Node n) bytes = (m : Message) → decoded_message bytes ≡ Ok m → FrontTells k c p n m.epoch.0 bytes m.body
IsFairOn k c p (Node n) Front bytes = (m : Message) → decoded_message bytes ≡ Ok m → NodeTells p n m.epoch.0 bytes m.body
IsFairOn k c p _ _ bytes = Unit {0}

abbrev pub IsFair : Talk → ℕ → Part → Letter → Type 0
IsFair k c p l = IsFairOn k c p l.from l.to l.bytes

-- ---- the journal

-- It says what was written, accepted and answered.
pub record TaleAgreesWithTalk (k : Talk) (accepted : ℕ) (t : Tale) : Type 0 where
  pub numbers : t.numbers ≡ Some (record { isn = k.w.first; iss = k.out.first })
  pub wrote : t.wrote ≡ k.w.bytes
  pub accepted_is : t.accepted ≡ take accepted k.out.bytes
  pub served : t.served ≡ length k.vs
  pub served_bytes : t.served_bytes ≡ length k.out.bytes
  pub was_reset : t.was_reset ≡ k.was_reset
  pub fin : t.fin_sent ≡ true → k.out.ended ≡ true

-- ---- one connection

-- its client opened
pub record IsOpen (files : FilesAt) (x : Conn) (k : Talk) (pend : List Verdict) (s : Station) : Type 0 where
  pub client : ClientAgrees x.c k.w k.out s.client
  pub begins : k.out.first ≡ s.iss
  pub says : SaysAnswers files k.w k.out k.vs
  pub seat : SeatAgrees k.w k.out k.vs pend k.was_reset x.c x.part x.part.front.row
  pub ways : (n : ℕ) → StayComesOn files (x.part.nodes n).stay
  pub fair : Each (IsFair k x.c x.part) x.letters
  pub tale : TaleAgreesWithTalk k s.client.accepted (tale_at x)

-- a packet of no client, nor of the front end
abbrev pub IsInner : Letter → Type 0
IsInner l = IsNodePlace l.from × IsNodePlace l.to

-- Before that, the front end knows nothing of it, and nothing was written, accepted or answered.
pub record IsConnUnopened (x : Conn) : Type 0 where
  pub front : x.part.front.row ≡ None
  pub stays : (n : ℕ) → (x.part.nodes n).stay ≡ None
  pub inner : Each IsInner x.letters
  pub wrote : (tale_at x).wrote ≡ []
  pub accepted : (tale_at x).accepted ≡ []
  pub served : (tale_at x).served ≡ 0
  pub served_bytes : (tale_at x).served_bytes ≡ 0
  pub was_reset : (tale_at x).was_reset ≡ false
  pub fin : (tale_at x).fin_sent ≡ false

abbrev pub ConnAgrees : FilesAt → Conn → Talk → List Verdict → Option Station → Type 0
ConnAgrees files x k pend None = IsConnUnopened x
ConnAgrees files x k pend (Some s) = IsOpen files x k pend s

-- What its client, the place that has it, the journal and all its packets say agrees.
pub record IsTruthful (files : FilesAt) (x : Conn) : Type 0 where
  pub talk : Talk
  pub pend : List Verdict
  pub agrees : ConnAgrees files x talk pend x.part.station
