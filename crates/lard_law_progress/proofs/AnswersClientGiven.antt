-- What is given of a connection, on which what its client makes of a packet rests.
use Rattle.std.proofs.Common.{◌≡◌, ◌<◌, ◌≤◌, ◌+◌, ◌^◌, ◌==◌, ℕ, true, false, List, length, None, Some, Ok}
use Rattle.lard_law_view.specs.Prelude.{Client, ClientBlock, Conn, ControlBlock, Front, IsSending, MAX_STREAM_BYTES, Node, Place, Reason, Said, Station, ToClient, Was, client_emitted, decoded, seg_len, seq_add, seq_offset, symbols}
use Rattle.lard_base.specs.declared.place.Reason.TheVariants.{Closed, Limit, Peer}
use Rattle.lard_bound.specs.Seats.{Held, Here, Over, SeatNow, seat_of}
use Rattle.lard_bound.specs.Units.{symbols_taken}
use Rattle.lard_client.specs.declared.phase.Phase.TheVariants.{Open}

-- A client that holds nothing while it is open, and has said all that it may.
pub record IsCalm (st : Station) (x : ClientBlock) : Type 0 where
  pub sound : IsSending x.send
  pub none : client_emitted x ≡ None
  pub held : x.phase ≡ Open → x.held ≡ 0
  pub holding : x.phase ≡ Open → x.holding ≡ false
  pub some : 1 ≤ x.wnd
  pub small : x.wnd < 2 ^ 16
  pub isn_small : x.send.iss < 2 ^ 32
  pub iss_small : st.iss < 2 ^ 32
  pub few : symbols x.send ≤ 2 ^ 31
  pub far : symbols_taken x + x.wnd ≤ 2 ^ 31
  -- before it is established it sent its SYN, and from then on all
  pub alone : x.phase ≡ Open → x.send.una ≡ 0 → x.send.nxt ≡ 1
  pub all : x.phase ≡ Open → (x.send.una == 0) ≡ false → symbols x.send ≤ x.send.nxt
  pub irs : (x.send.una == 0) ≡ false → x.send.irs ≡ st.iss

-- the cluster sends to clients
abbrev pub IsCluster : Place → Type 0
IsCluster Front = Unit {0}
IsCluster (Node n) = Unit {0}
IsCluster (Client d) = ⊥

-- at the end its client was established, but where that aborted
abbrev pub EndTells : ClientBlock → Reason → Type 0
EndTells x Closed = (x.send.una == 0) ≡ false
EndTells x Peer = Unit {0}
EndTells x Limit = (x.send.una == 0) ≡ false

-- What has the connection acknowledges no more than its client took, which is all that it sent.
abbrev pub Tells : ClientBlock → ControlBlock → Type 0
Tells x b = (b.send.una ≤ symbols_taken x) × (b.send.una ≡ symbols b.send → symbols_taken x ≤ b.send.una)

abbrev pub SeatTells : ClientBlock → SeatNow → Type 0
SeatTells x (Held b count) = Tells x b
SeatTells x (Here told n e b s) = Tells x b × ((x.send.una == 0) ≡ false)
SeatTells x (Over last) = EndTells x last.reason
SeatTells x _ = Unit {0}

-- where the connection is that a client's acknowledged numbers matter: no more was taken of it than it has
abbrev pub Matters : SeatNow → Type 0
Matters (Held b count) = Unit {0}
Matters (Here told n e b s) = Unit {0}
Matters (Over last) = last.reason ≡ Closed
Matters _ = ⊥

-- A segment of the cluster acknowledges what the client sent; what it has is within what one direction carries, and nothing stands behind
-- the FIN; a RST has no symbols, and one without ACK has a number that the client awaited once.
pub record IsReply (st : Station) (x : ClientBlock) (z : SeatNow) (s : Said) : Type 0 where
  pub ack_small : s.ack < 2 ^ 32
  pub seq_small : s.seq < 2 ^ 32
  pub greets : x.phase ≡ Open → x.send.una ≡ 0 → s.flags.ack ≡ true → seq_offset s.ack x.send.iss ≡ 1
  pub acks : x.phase ≡ Open → (x.send.una == 0) ≡ false → Matters z → s.flags.ack ≡ true → seq_offset s.ack x.send.iss ≤ x.send.nxt
  pub most : s.flags.rst ≡ false → s.flags.syn ≡ false → 1 ≤ seg_len s → seq_offset s.seq st.iss + length s.payload ≤ 1 + MAX_STREAM_BYTES
  pub last : s.flags.rst ≡ false → x.eof ≡ true → 1 ≤ seg_len s → seq_offset s.seq st.iss + seg_len s ≤ symbols_taken x
  pub refuses : s.flags.rst ≡ true → s.flags.ack ≡ false → (seg_len s ≡ 0) × (a : ℕ) × (s.seq ≡ seq_add st.iss a) × (a ≤ symbols_taken x)

pub record ClientGiven (x : Conn) : Type 0 where
  pub calm : (st : Station) → x.part.station ≡ Some st → IsCalm st st.client
  pub seat : (st : Station) → x.part.station ≡ Some st → st.client.phase ≡ Open → SeatTells st.client (seat_of x.part)
  pub replies : (st : Station) (from : Place) (bytes : List ℕ) (s : Said) → x.part.station ≡ Some st → IsCluster from → Was x from (Client x.c) bytes → decoded bytes x.c ToClient ≡ Ok s → IsReply st st.client (seat_of x.part) s
