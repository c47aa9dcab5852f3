-- What holds of a connection in a settle, as far as the front end's answers rest on it.
use Rattle.std.proofs.Common.{◌≡◌, ◌⊎◌, ◌<◌, ◌≤◌, ◌+◌, ◌^◌, ℕ, true, false, length, is_some, Option, Some, None, Ok, List, Bool}
use Rattle.std.specs.List.{AllByRecursion, find}
use Rattle.lard_law_view.specs.Prelude.{Client, Conn, ControlBlock, EndpointParts, Epoch, FilesAt, Final, Front, FrontConn, FrontRest, FrontRow, IsControlBlock, IsNodeNumber, Letter, MAX_SEGMENT_BYTES, Node, Said, SpellsMessage, Station, ToCluster, Was, back_body, decoded, is_under, may_end, may_freeze, named_paths, parts_kept, receive_room, seg_len, seq_add, seq_offset, symbols}
use Rattle.lard_base.specs.declared.place.Reason.TheVariants.{Closed}
use Rattle.lard_base.specs.declared.place.TimerKind.TheVariants as kind
use Rattle.lard_bound.specs.Seats.{Gone, Held, Here, Offered, Over, Refused, Returned, SeatNow, Staying, Unborn, Waiting, seat_of, tells_over}
use Rattle.lard_bound.specs.Units.{Whole, symbols_taken}
use Rattle.lard_client.specs.declared.phase.Phase.TheVariants as phase
use Rattle.lard_handoff_front.specs.declared.row.FrontConn.TheVariants as stage
use Rattle.lard_message.specs.declared.message.Body.TheVariants as body
use Rattle.lard_rules.proofs.FrontCases.{IsBack}
use Rattle.lard_law_progress.proofs.Data.{heard}
use Rattle.lard_law_progress.proofs.Given.{IsFrom}
use Rattle.lard_law_progress.proofs.Silence.{IsSilent}

-- ---- endpoints

-- An endpoint that talks to this client: it has nothing to say, its numbers are the client's, and no more is acknowledged than was
-- taken. All that the client says is within its window.
pub record IsTalking (st : Station) (b : ControlBlock) : Type 0 where
  pub silent : IsSilent b
  pub stays : may_end b ≡ false
  pub sound : IsControlBlock b
  pub irs : b.recv.irs ≡ st.client.send.iss
  pub iss : b.send.iss ≡ st.iss
  pub isn_small : st.client.send.iss < 2 ^ 32
  pub iss_small : st.iss < 2 ^ 32
  pub acked : b.send.una ≤ symbols_taken st.client
  pub sent : symbols_taken st.client ≤ b.send.nxt
  pub knows : st.client.send.una ≤ heard b.recv
  pub spoke : heard b.recv ≤ symbols st.client.send
  pub wide : symbols st.client.send < heard b.recv + receive_room b.recv
  pub far : heard b.recv + receive_room b.recv ≤ 2 ^ 31
  pub shut : b.recv.fin ≡ true → symbols st.client.send ≤ heard b.recv
  pub here : st.client.phase ≡ phase.Reset → ⊥

-- The last numbers of a connection: where both sides closed it, the client took all, and all that it has was taken.
pub record HasClosed (st : Station) (last : Final) : Type 0 where
  pub snd_small : last.snd.0 < 2 ^ 32
  pub rcv_small : last.rcv.0 < 2 ^ 32
  pub all : last.reason ≡ Closed → st.client.phase ≡ phase.Open → (seq_offset last.snd.0 st.iss ≡ symbols_taken st.client) × (seq_offset last.rcv.0 st.client.send.iss ≡ symbols st.client.send)

abbrev pub AtSeat : Whole → Station → SeatNow → Type 0
AtSeat w st Unborn = Unit {0}
AtSeat w st (Held b count) = IsTalking st b × (count ≤ w.requests) × (symbols_taken st.client ≤ w.answers + 2)
AtSeat w st (Waiting b count) = IsTalking st b × (may_freeze b ≡ true)
AtSeat w st (Offered n e count) = Unit {0}
AtSeat w st (Refused n e count) = Unit {0}
AtSeat w st (Returned told n e served) = Unit {0}
AtSeat w st (Here told n e b s) = Unit {0}
AtSeat w st (Gone told n e) = Unit {0}
AtSeat w st (Over last) = HasClosed st last

-- ---- a client's segments

-- a number that the front end awaited once, where it has the endpoint
abbrev pub WasAwaited : Station → ℕ → SeatNow → Type 0
WasAwaited st seq (Held b count) = (a : ℕ) × (seq ≡ seq_add st.client.send.iss a) × (a ≤ heard b.recv)
WasAwaited st seq (Waiting b count) = (a : ℕ) × (seq ≡ seq_add st.client.send.iss a) × (a ≤ heard b.recv)
WasAwaited st seq _ = Unit {0}

-- A segment of this client, which the packet carries: it acknowledges what the client took, has symbols that the client has, and a RST
-- only where the client was aborted; one without ACK answers an acknowledgement.
pub record IsWord (st : Station) (z : SeatNow) (bytes : List ℕ) (s : Said) : Type 0 where
  pub seq_small : s.seq < 2 ^ 32
  pub ack_small : s.ack < 2 ^ 32
  pub acks : s.flags.ack ≡ true → seq_offset s.ack st.iss ≤ symbols_taken st.client
  pub within : s.flags.rst ≡ false → 1 ≤ seg_len s → seq_offset s.seq st.client.send.iss + seg_len s ≤ symbols st.client.send
  pub open_ : st.client.phase ≡ phase.Open → s.flags.rst ≡ false
  pub refuses : s.flags.rst ≡ true → s.flags.ack ≡ false → (seg_len s ≡ 0) × WasAwaited st s.seq z
  pub some : 20 ≤ length bytes
  pub short : length bytes ≤ MAX_SEGMENT_BYTES

-- a RST on the way is no longer that of the abort itself, which has ACK
abbrev pub IsOnlyRefusal : Conn → Letter → Type 0
IsOnlyRefusal x l = (s : Said) → decoded l.bytes x.c ToCluster ≡ Ok s → s.flags.rst ≡ true → s.flags.ack ≡ false

-- ---- what the front end keeps

abbrev pub IsStage : FrontConn → Type 0
IsStage stage.Lent = ⊥
IsStage (stage.Offering n e) = e.0 < 2 ^ 16
IsStage (stage.Moved n e) = e.0 < 2 ^ 16
IsStage _ = Unit {0}

-- the Tag of the last Ask that was answered may be sent
pub record HasTag (rest : FrontRest) : Type 0 where
  pub number : rest.asks < 2 ^ 32
  pub some : 1 ≤ length rest.tag
  pub few : length rest.tag ≤ 8
  pub nodes : AllByRecursion IsNodeNumber rest.tag

-- The Ask that a stay has out is the next one, or the last, whose Tag names as many nodes as requests have none.
abbrev pub IsAsked : FilesAt → Staying → Option FrontRest → Type 0
IsAsked files s None = ⊥
IsAsked files s (Some rest) = (s.stay.asks ≡ rest.asks + 1) ⊎ ((s.stay.asks ≡ rest.asks) × (0 < rest.asks) × (length rest.tag ≡ length (named_paths files s.stay.batch)))

-- Of a connection that comes back: where a node refused it, it is offered to that node still, with its parts. It comes back from where it
-- is, in the front end's epoch, and a Give is of an epoch that fits a message.
pub record ComesBackKnown (x : Conn) : Type 0 where
  pub refused : (n e count : ℕ) → seat_of x.part ≡ Refused n e count
      → (row : FrontRow) × (x.part.front.row ≡ Some row) × (row.stage ≡ stage.Offering n (record { 0 = e })) × (parts : EndpointParts)
      × (parts_kept x.part.front.kept ≡ Some parts)
  pub returns : (n e : ℕ) (given : Option EndpointParts) (bytes : List ℕ) → SpellsMessage x.c e (back_body given) bytes → Was x (Node n) Front bytes
      → (row : FrontRow) (parts : EndpointParts) → IsBack x.part.front n e given row parts → (row.epoch.0 ≡ e) × IsFrom given n e parts.served (seat_of x.part)
  pub given : (told : Bool) (n e served : ℕ) → seat_of x.part ≡ Returned told n e served → (row : FrontRow) → x.part.front.row ≡ Some row → row.epoch.0 ≡ e
  -- a node that tells a Give has it still, or the front end is past it
  pub told : (n i : ℕ) → tells_over (x.part.nodes n) ≡ Some (i, true) → (row : FrontRow) × (x.part.front.row ≡ Some row)
      × ((i < row.epoch.0) ⊎ ((told : Bool) × (served : ℕ) × (seat_of x.part ≡ Returned told n i served)))
  pub gives : (n e : ℕ) (parts : EndpointParts) (bytes : List ℕ) → SpellsMessage x.c e (body.Give parts) bytes → Was x (Node n) Front bytes → e < 2 ^ 16

pub record FrontGiven (files : FilesAt) (w : Whole) (x : Conn) : Type 0 where
  pub unopened : x.part.station ≡ None → x.part.front.row ≡ None
  pub stages : (row : FrontRow) → x.part.front.row ≡ Some row → IsStage row.stage
  pub epochs : (row : FrontRow) (e : Epoch) → x.part.front.row ≡ Some row → row.ended_by ≡ Some e → e.0 < 2 ^ 16
  pub ended : (row : FrontRow) (last : Final) (n i : ℕ) → x.part.front.row ≡ Some row → seat_of x.part ≡ Over last → tells_over (x.part.nodes n) ≡ Some (i, false)
      → row.ended_by ≡ Some (record { 0 = i })
  pub tags : (rest : FrontRest) → x.part.front.rest ≡ Some rest → 0 < rest.asks → HasTag rest
  pub asks : (told : Bool) (n e : ℕ) (b : ControlBlock) (s : Staying) → seat_of x.part ≡ Here told n e b s → is_some (find (is_under kind.Ask 0) s.kept) ≡ true → IsAsked files s x.part.front.rest
  pub back : ComesBackKnown x
  pub seats : (st : Station) → x.part.station ≡ Some st → AtSeat w st (seat_of x.part)
  pub words : (st : Station) (bytes : List ℕ) (s : Said) → x.part.station ≡ Some st → Was x (Client x.c) Front bytes → decoded bytes x.c ToCluster ≡ Ok s → IsWord st (seat_of x.part) bytes s
