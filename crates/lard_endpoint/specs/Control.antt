-- What an endpoint keeps of its connection: its control block (RFC 9293, 3.3.1), by counts. Both halves count in
-- offsets from their SYN, never in plain sequence numbers.
use Rattle.std.specs.Prelude.{◌≡◌, ℕ, Bool, false, List, []}
use Rattle.lard_arrival.specs.Arrival.{peer_mss}
use Rattle.lard_base.specs.declared.limits.TheConstants.{RECEIVE_WINDOW}
use Rattle.lard_recv.specs.Recv.{Received, IsReceived, restored, receive_room, awaited, consumed, discarded}
use Rattle.lard_segment.specs.Segment.{Said}
use Rattle.lard_send.specs.Send.{Sending, IsSending, send_begun, queued_too, send_closed}
use Rattle.lard_seq.specs.Seq.{seq_add}

pub record ControlBlock : Type 0 where
  pub recv : Received  -- the peer's bytes
  pub send : Sending  -- this side's symbols, and the peer's window
  pub owed : Bool  -- an ACK is owed
  pub last_window : ℕ  -- the window that the last segment told
  pub reset : Bool  -- the peer reset the connection

-- What holds of every endpoint: each half is sound, and both begin at the same SYN of the peer.
pub record IsControlBlock (c : ControlBlock) : Type 0 where
  pub received : IsReceived c.recv
  pub sending : IsSending c.send
  pub same_irs : c.send.irs ≡ c.recv.irs

-- RCV.NXT and RCV.WND (RFC 9293, 3.3.1)
abbrev pub rcv_nxt : ControlBlock → ℕ
rcv_nxt c = awaited c.recv

abbrev pub rcv_wnd : ControlBlock → ℕ
rcv_wnd c = receive_room c.recv

-- SND.NXT
abbrev pub snd_nxt : ControlBlock → ℕ
snd_nxt c = seq_add c.send.iss c.send.nxt

-- An endpoint that took a SYN, of which it takes the window and no data (RFC 9293, 3.10.7.2, third: check for a SYN).
-- Nothing was sent, and the window last told counts as the whole one.
abbrev pub listening : Said → ℕ → ControlBlock
listening syn iss = record {
  recv = restored syn.seq 0 false [];
  send = send_begun iss syn.seq syn.wnd (peer_mss syn.mss);
  owed = false;
  last_window = RECEIVE_WINDOW;
  reset = false;
}

-- Bytes are to follow those that were queued (RFC 9293, 3.10.2).
abbrev pub queueing : ControlBlock → List ℕ → ControlBlock
queueing c bytes = record c { send = queued_too c.send bytes }

-- The FIN is to follow the queued bytes (RFC 9293, 3.10.4).
abbrev pub finishing : ControlBlock → ControlBlock
finishing c = record c { send = send_closed c.send }

-- The first n unread bytes are read (RFC 9293, 3.10.3).
abbrev pub consuming : ControlBlock → ℕ → ControlBlock
consuming c n = record c { recv = consumed c.recv n }

-- What is unread is dropped, and all that comes later too.
abbrev pub discarding_on : ControlBlock → ControlBlock
discarding_on c = record c { recv = discarded c.recv }
