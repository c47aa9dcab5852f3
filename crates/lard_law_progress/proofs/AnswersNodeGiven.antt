-- What is given of a connection, on which the rules of its nodes rest.
use Rattle.std.proofs.Common.{◌≡◌, ◌<◌, ◌≤◌, ◌+◌, ◌^◌, ℕ, Bool, List, true, false, length, None, Some, Ok}
use Rattle.lard_law_view.specs.Prelude.{AreBytes, BackRow, Conn, ControlBlock, EndpointParts, Front, FrontRow, Has, Letter, MAX_FILE_BYTES, Node, Said, Setting, SpellsMessage, Station, Stay, ToCluster, Was, decoded, is_no_node, offer_answer, seg_len, seq_add, seq_offset, symbols}
use Rattle.lard_bound.specs.Seats.{Here, Offered, Refused, Staying, seat_of}
use Rattle.lard_bound.specs.Units.{Whole, symbols_taken}
use Rattle.lard_handoff_back.specs.declared.row.BackConn.TheVariants as back
use Rattle.lard_handoff_back.specs.declared.table.Adopt.TheVariants.{New}
use Rattle.lard_handoff_back.specs.Leaving.{is_this_epoch}
use Rattle.lard_handoff_front.specs.declared.row.FrontConn.TheVariants as stage
use Rattle.lard_message.specs.declared.message.Body.TheVariants as body
use Rattle.lard_law_progress.proofs.AnswersFrontGiven.{IsTalking}
use Rattle.lard_law_progress.proofs.Away.{IsWith}
use Rattle.lard_law_progress.proofs.Data.{heard}
use Rattle.lard_law_progress.proofs.Turns.{read_in}

-- where node n has it in epoch e
abbrev pub HasIt : Conn → ℕ → ℕ → ControlBlock → Type 0
HasIt x n e b = (x.part.nodes n).row ≡ Some (record { stage = back.Here b; epoch = record { 0 = e } })

-- A segment of this client that is forwarded: it acknowledges what the client took, has symbols that the client has, and where it refuses,
-- the number that was acknowledged.
pub record IsForwarded (st : Station) (b : ControlBlock) (s : Said) : Type 0 where
  pub seq_small : s.seq < 2 ^ 32
  pub acks : s.flags.ack ≡ true → seq_offset s.ack st.iss ≤ symbols_taken st.client
  pub within : s.flags.rst ≡ false → 1 ≤ seg_len s → seq_offset s.seq st.client.send.iss + seg_len s ≤ symbols st.client.send
  pub refuses : s.flags.rst ≡ true → s.flags.ack ≡ false → (seg_len s ≡ 0) × (a : ℕ) × (s.seq ≡ seq_add st.client.send.iss a) × (a ≤ heard b.recv)

pub record NodeGiven (k : Setting) (w : Whole) (x : Conn) : Type 0 where
  -- what the front end says to a node, a Fetch, and a node that has the connection: its client opened
  pub opened : (n : ℕ) (bytes : List ℕ) → Was x Front (Node n) bytes → (st : Station) × (x.part.station ≡ Some st)
  pub fetched : (m n e r : ℕ) (path bytes : List ℕ) → SpellsMessage x.c e (body.Fetch r path) bytes → Was x (Node m) (Node n) bytes → (st : Station) × (x.part.station ≡ Some st)
  pub held : (n e : ℕ) (b : ControlBlock) → HasIt x n e b → (st : Station) × (x.part.station ≡ Some st)
  pub bytes : (l : Letter) → Has l x.letters → AreBytes l.bytes
  pub files : (path file : List ℕ) → k.files path ≡ Some file → length file ≤ MAX_FILE_BYTES
  -- the front end is with a node that has the connection, which keeps its stay
  pub homes : (n e : ℕ) (b : ControlBlock) → HasIt x n e b → (told : Bool) × (row : FrontRow) × (x.part.front.row ≡ Some row) × IsWith told n e row.stage
  pub stays : (n e : ℕ) (b : ControlBlock) → HasIt x n e b → (s : Stay) × ((x.part.nodes n).stay ≡ Some s)
  -- an Offer that is new to its node is the one that the front end makes
  pub news : (n e : ℕ) (parts : EndpointParts) (bytes : List ℕ) → SpellsMessage x.c e (body.Offer parts) bytes → Was x Front (Node n) bytes → offer_answer e (x.part.nodes n).row ≡ New
      → (row : FrontRow) × (x.part.front.row ≡ Some row) × (row.stage ≡ stage.Offering n (record { 0 = e }))
      × (is_this_epoch e (x.part.nodes n).beside.refused ≡ false)
  -- a node to which a connection is offered did not decide about it before, and one that took it did not refuse it
  pub fresh : (n e count : ℕ) → seat_of x.part ≡ Offered n e count → ((x.part.nodes n).row ≡ None) × ((x.part.nodes n).beside.refused ≡ None)
  pub once : (n : ℕ) (row : BackRow) → (x.part.nodes n).row ≡ Some row → (x.part.nodes n).beside.refused ≡ None
  -- no more requests were read than there are
  pub few : (told : Bool) (n e : ℕ) (b : ControlBlock) (s : Staying) → seat_of x.part ≡ Here told n e b s → read_in s ≤ w.requests
  -- an endpoint talks with this client, and what is forwarded to it are the client's segments
  pub talks : (st : Station) (n e : ℕ) (b : ControlBlock) → x.part.station ≡ Some st → HasIt x n e b → IsTalking st b
  pub words : (st : Station) (n e : ℕ) (b : ControlBlock) (segment bytes : List ℕ) (s : Said) → x.part.station ≡ Some st → HasIt x n e b → SpellsMessage x.c e (body.Forward segment) bytes → Was x Front (Node n) bytes
      → decoded segment x.c ToCluster ≡ Ok s → IsForwarded st b s
  -- a node that decided about it is there, and so is one to which it is offered, or that refused it
  pub there : (n : ℕ) (row : BackRow) → (x.part.nodes n).row ≡ Some row → is_no_node k.nodes n ≡ false
  pub placed : (n e count : ℕ) → seat_of x.part ≡ Offered n e count → is_no_node k.nodes n ≡ false
  pub declined : (n e count : ℕ) → seat_of x.part ≡ Refused n e count → is_no_node k.nodes n ≡ false
