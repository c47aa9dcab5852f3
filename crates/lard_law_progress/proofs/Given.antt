-- What is known of a connection between two steps of a settle's rounds, so that no unit comes back in the next one.
use Rattle.std.proofs.Common.{◌≡◌, ◌≤◌, ◌+◌, ℕ, Bool, true, false, List, [], Option, Some, None, is_some}
use Rattle.lard_law_view.specs.Prelude.{BackRow, Came, ClientBlock, Conn, ControlBlock, EndpointParts, Epoch, Event, Front, FrontPart, FrontRow, HasRule, HasTimer, MayRestOn, Move, Node, NodePart, Part, Reason, Row, Seen, Setting, SpellsMessage, Station, Was, back_body, front_rest, grown, is_away, offer_answer}
use Rattle.lard_base.specs.declared.event.Event.TheVariants as event
use Rattle.lard_bound.specs.Progress.{IfCame, IsWarm, Lasts, came_in}
use Rattle.lard_bound.specs.Seats.{Gone, Held, Here, Offered, Over, Refused, Returned, SeatNow, Unborn, Waiting, seat_of}
use Rattle.lard_bound.specs.Units.{Whole, symbols_taken}
use Rattle.lard_client.specs.declared.phase.Phase.TheVariants as phase
use Rattle.lard_handoff_back.specs.declared.row.BackConn.TheVariants as back
use Rattle.lard_handoff_back.specs.declared.table.Adopt.TheVariants.{New}
use Rattle.lard_handoff_back.specs.Leaving.{is_new_epoch, is_this_epoch}
use Rattle.lard_handoff_front.specs.declared.row.FrontConn.TheVariants as stage
use Rattle.lard_history.proofs.Each.{Each}
use Rattle.lard_journal.specs.declared.rec.Rec.TheVariants as rec
use Rattle.lard_message.specs.declared.message.Body.TheVariants as body
use Rattle.lard_law_progress.proofs.Away.{IsWith}
use Rattle.lard_law_progress.proofs.Turns.{read_in}
use Rattle.lard_rules.proofs.FrontCases.{IsBack}

-- ---- by where it is

-- What is acknowledged was taken, no more requests were read than there are, and a client that was reset is nobody's any more. Before
-- it begins, a client took nothing; one that waits or is offered has a request.
abbrev pub SeatKnown : Whole → ClientBlock → SeatNow → Type 0
SeatKnown w x Unborn = symbols_taken x ≡ 0
SeatKnown w x (Held b count) = (b.send.una ≤ symbols_taken x) × (count ≤ w.requests) × (x.phase ≡ phase.Reset → ⊥)
SeatKnown w x (Waiting b count) = (b.send.una ≤ symbols_taken x) × (1 ≤ w.requests) × (b.send.finished ≡ false)
SeatKnown w x (Offered n e count) = 1 ≤ w.requests
SeatKnown w x (Refused n e count) = Unit {0}
SeatKnown w x (Returned told n e served) = Unit {0}
SeatKnown w x (Here told n e b s) = (b.send.una ≤ symbols_taken x) × (read_in s ≤ w.requests) × (x.phase ≡ phase.Reset → ⊥)
SeatKnown w x (Gone told n e) = Unit {0}
SeatKnown w x (Over last) = Unit {0}

-- a node took it in no later epoch than this, and refused it in none
abbrev pub IsWithin : ℕ → Option BackRow → Type 0
IsWithin e None = Unit {0}
IsWithin e (Some row) = row.epoch.0 ≤ e

abbrev pub IsRefusedWithin : ℕ → Option Epoch → Type 0
IsRefusedWithin e None = Unit {0}
IsRefusedWithin e (Some d) = d.0 ≤ e

abbrev pub IsDecidedWithin : ℕ → NodePart → Type 0
IsDecidedWithin e q = IsWithin e q.row × IsRefusedWithin e q.beside.refused

abbrev pub IsFresh : (ℕ → NodePart) → Option FrontRow → Type 0
IsFresh nodes None = Unit {0}
IsFresh nodes (Some row) = (n : ℕ) → IsDecidedWithin row.epoch.0 (nodes n)

-- the front end offered it to node n in epoch e, and may know that it was taken
pub record IsAt (f : FrontPart) (n e : ℕ) : Type 0 where
  pub told : Bool
  pub row : FrontRow
  pub front : f.row ≡ Some row
  pub with_ : IsWith told n e row.stage

-- ---- by what comes

-- An Offer that is new to its node: the front end awaits its answer, the node did not refuse it, gave none back and keeps nothing of the
-- connection, and the endpoint is the one that was frozen, to which all was acknowledged that the client took.
pub record IsNewOffer (p : Part) (x : ClientBlock) (n e : ℕ) (parts : EndpointParts) : Type 0 where
  pub row : FrontRow
  pub front : p.front.row ≡ Some row
  pub with_ : row.stage ≡ stage.Offering n (record { 0 = e })
  pub unrefused : is_this_epoch e (p.nodes n).beside.refused ≡ false
  pub unreturned : (p.nodes n).beside.returned ≡ None
  pub kept : (p.nodes n).kept ≡ []
  pub fetches : (p.nodes n).fetches ≡ []
  pub served : parts.served ≡ (front_rest p.front.rest).count
  pub una : symbols_taken x ≤ parts.una

-- An Offer that is new to a node that leaves: the front end awaits its answer, and the node is there and did not decide about the connection.
pub record IsUnseen (nodes : ℕ) (p : Part) (n e : ℕ) : Type 0 where
  pub row : FrontRow
  pub front : p.front.row ≡ Some row
  pub with_ : row.stage ≡ stage.Offering n (record { 0 = e })
  pub none : (p.nodes n).row ≡ None
  pub open_ : (p.nodes n).beside.refused ≡ None
  pub some : 1 ≤ n
  pub within : n ≤ nodes

-- where it is when it comes back from node n, in epoch e, with so many responses
abbrev pub IsFrom : Option EndpointParts → ℕ → ℕ → ℕ → SeatNow → Type 0
IsFrom given n e served (Refused m d count) = (given ≡ None) × (m ≡ n) × (d ≡ e) × (count ≤ served)
IsFrom given n e served (Returned told m d count) = (is_some given ≡ true) × (m ≡ n) × (d ≡ e) × (count ≤ served)
IsFrom given n e served _ = ⊥

-- One that comes back does so in the front end's epoch, with an endpoint to which all was acknowledged that the client took.
pub record ComesBack (p : Part) (x : ClientBlock) (n e : ℕ) (given : Option EndpointParts) (row : FrontRow) (parts : EndpointParts) : Type 0 where
  pub epoch : row.epoch.0 ≡ e
  pub from : IsFrom given n e parts.served (seat_of p)
  pub una : symbols_taken x ≤ parts.una

-- its stay is over, and the front end does not know so
pub record IsGone (z : SeatNow) : Type 0 where
  pub told : Bool
  pub n : ℕ
  pub e : ℕ
  pub is : z ≡ Gone told n e

-- ---- all of it

-- Of a connection whose client opened, by how many nodes there are, and which leave.
pub record Known (k : Setting) (w : Whole) (x : Conn) (st : Station) : Type 0 where
  pub leaves : (n : ℕ) → w.leaving n ≡ k.leaving n
  pub said : st.client.send.una ≤ w.written + 2
  pub heard : symbols_taken st.client ≤ w.answers + 2
  pub seat : SeatKnown w st.client (seat_of x.part)
  pub fresh : IsFresh x.part.nodes x.part.front.row
  pub homes : (n e : ℕ) (b : ControlBlock) → (x.part.nodes n).row ≡ Some (record { stage = back.Here b; epoch = record { 0 = e } }) → IsAt x.part.front n e
  pub unreturned : (n e : ℕ) (b : ControlBlock) → (x.part.nodes n).row ≡ Some (record { stage = back.Here b; epoch = record { 0 = e } })
      → (x.part.nodes n).beside.returned ≡ None
  pub there : (n : ℕ) (row : BackRow) → (x.part.nodes n).row ≡ Some row → (1 ≤ n) × (n ≤ k.nodes)
  pub offers : (n e : ℕ) (parts : EndpointParts) (bytes : List ℕ) → SpellsMessage x.c e (body.Offer parts) bytes → Was x Front (Node n) bytes → offer_answer e (x.part.nodes n).row ≡ New
      → IsNewOffer x.part st.client n e parts
  pub unseen : (n e : ℕ) (parts : EndpointParts) (bytes : List ℕ) → SpellsMessage x.c e (body.Offer parts) bytes → Was x Front (Node n) bytes → k.leaving n ≡ true
      → is_new_epoch e (x.part.nodes n).row (x.part.nodes n).beside ≡ true → IsUnseen k.nodes x.part n e
  pub ends : (n e : ℕ) (why : Reason) (snd rcv count : ℕ) (bytes : List ℕ) → SpellsMessage x.c e (body.Ended why snd rcv count) bytes → Was x (Node n) Front bytes
      → (row : FrontRow) → x.part.front.row ≡ Some row → is_away e row.stage ≡ true → IsGone (seat_of x.part)
  pub returns : (n e : ℕ) (given : Option EndpointParts) (bytes : List ℕ) → SpellsMessage x.c e (back_body given) bytes → Was x (Node n) Front bytes
      → (row : FrontRow) (parts : EndpointParts) → IsBack x.part.front n e given row parts → ComesBack x.part st.client n e given row parts

abbrev pub Given : Setting → (ℕ → Whole) → Conn → Type 0
Given k all x = (st : Station) → x.part.station ≡ Some st → Known k (all x.c) x st

-- ---- what a move owes

-- the events of which a settle's rounds are made: a delivery, the first job of a node, or a timer
abbrev pub IsRounds : Event → Type 0
IsRounds (event.Deliver k) = Unit {0}
IsRounds (event.Disk n j) = j ≡ 1
IsRounds (event.Timer p c) = HasTimer p c
IsRounds _ = ⊥

pub rounds-rule : (e : Event) → IsRounds e → HasRule e
rounds-rule (event.Deliver k) h = tt
rounds-rule (event.Disk n j) h = tt
rounds-rule (event.Timer p c) h = h
rounds-rule _ h = absurd h

abbrev pub IsRoundsSeen : Seen → Type 0
IsRoundsSeen (Row (rec.Event i e)) = IsRounds e
IsRoundsSeen (Row r) = Unit {0}
IsRoundsSeen (Came l) = Unit {0}

abbrev pub AreInner : List Seen → Type 0
AreInner ss = Each IsRoundsSeen ss

-- Of each inner step, with which comes a packet that was sent behind the first rounds, if any.
abbrev pub Owed : Setting → (ℕ → Whole) → Conn → Move → Type 0
Owed k all x v = MayRestOn (Given k all) x → Given k all (grown x v) → AreInner v.heads → IfCame (IsWarm x) (came_in v.heads) → Lasts k (all x.c) x v
