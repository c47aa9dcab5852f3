-- What an endpoint sends: the next segment, and what its timer sends again (RFC 9293, 3.8 and 3.10.8).
use Rattle.std.specs.Prelude.{◌≡◌, ℕ, ◌+◌, ◌-◌, ◌≤◌, ◌==◌, nat_lt, ◌&&◌, ◌||◌, Bool, true, false, if◌then◌else◌, take, drop, Option, Some, None, IfSome}
use Rattle.lard_base.specs.declared.limits.TheConstants.{MAX_SEGMENT_DATA}
use Rattle.lard_segment.specs.declared.segment.Ready.{Ready}
use Rattle.lard_segment.specs.declared.segment.TheConstants.Flags.{ACK}
use Rattle.lard_segment.specs.Control.{control_ready}
use Rattle.lard_segment.specs.Segment.{Said}
use Rattle.lard_send.specs.declared.piece.Piece.{Piece}
use Rattle.lard_send.specs.Send.{acknowledged_bytes, symbols, next_piece, after_next, resent_piece, after_resend}
use Rattle.lard_seq.specs.Seq.{one_if, seq_add}
use Rattle.lard_endpoint.specs.Control.{ControlBlock, rcv_nxt, rcv_wnd, snd_nxt}

-- The sequence number of a piece's first symbol: the SYN has the first number, byte k, from 0, has the one k + 1 after it.
abbrev pub piece_seq : ControlBlock → Piece → ℕ
piece_seq c p = if p.syn then c.send.iss else seq_add c.send.iss (1 + p.at)

-- The SYN alone names a maximum segment size, 1,460 bytes (RFC 9293, 3.7.1).
abbrev pub own_mss : Bool → Option ℕ
own_mss syn = if syn then Some MAX_SEGMENT_DATA else None

-- A piece's segment: each carries ACK with RCV.NXT, and the window (RFC 9293, 3.10.7.4 and 3.8.6).
abbrev pub piece_ready : ControlBlock → Piece → Ready
piece_ready c p = record {
  seq = record { 0 = piece_seq c p };
  ack = record { 0 = rcv_nxt c };
  flags = record { syn = p.syn; ack = true; fin = p.fin; rst = false; psh = p.push };
  wnd = rcv_wnd c;
  mss = own_mss p.syn;
  at = p.at;
  len = p.len;
}

-- A plain ACK, at SND.NXT: <SEQ=SND.NXT><ACK=RCV.NXT><CTL=ACK> (RFC 9293, 3.10.7.4).
abbrev pub ack_ready : ControlBlock → Ready
ack_ready c = control_ready (snd_nxt c) (rcv_nxt c) ACK (rcv_wnd c) c.send.total

-- A segment ends what is owed, and tells the window.
abbrev pub told : ControlBlock → ControlBlock
told c = record c { owed = false; last_window = rcv_wnd c }

-- An ACK is owed, also where the window opened since it was told as 0 (RFC 9293, 3.8.6.2.2).
abbrev pub owes : ControlBlock → Bool
owes c = c.owed || (c.last_window == 0 && nat_lt 0 (rcv_wnd c))

-- An ACK alone, where one is owed.
abbrev pub owed_ready : ControlBlock → Option Ready
owed_ready c = if owes c then Some (ack_ready c) else None

abbrev pub after_owed : ControlBlock → ControlBlock
after_owed c = if owes c then told c else c

-- The segment of a piece, or else what is sent in its place.
abbrev pub ready_of : ControlBlock → Option Piece → Option Ready → Option Ready
ready_of c (Some p) other = Some (piece_ready c p)
ready_of c None other = other

abbrev pub after_piece : ControlBlock → Option Piece → ControlBlock → ControlBlock
after_piece c (Some p) other = told c
after_piece c None other = other

-- The symbols that are sent next count as sent, and those that a timer sends too; without any nothing changes.
abbrev pub advanced : ControlBlock → ControlBlock
advanced c = record c { send = after_next c.send }

abbrev pub retried : ControlBlock → ControlBlock
retried c = record c { send = after_resend c.send }

-- The next segment: the SYN, or bytes and the FIN as far as the peer's window allows, or else an ACK that is owed. One
-- that was reset sends nothing.
abbrev pub emitted : ControlBlock → Option Ready
emitted c = if c.reset then None else ready_of (advanced c) (next_piece c.send) (owed_ready (advanced c))

abbrev pub after_emit : ControlBlock → ControlBlock
after_emit c = if c.reset then c else after_piece (advanced c) (next_piece c.send) (after_owed (advanced c))

-- At most so many segments are left to emit: one for each symbol that is not sent, and one for an ACK that is owed.
abbrev pub emits_left : ControlBlock → ℕ
emits_left c = (symbols c.send - c.send.nxt) + one_if (owes c)

-- What the timer sends again: the SYN while it is not acknowledged, else what is sent and not acknowledged, else a probe
-- of one symbol beyond the window (RFC 9293, 3.8.1 and 3.8.6.1).
abbrev pub timed : ControlBlock → Option Ready
timed c = if c.reset then None else ready_of (retried c) (resent_piece c.send) None

abbrev pub after_timer : ControlBlock → ControlBlock
after_timer c = if c.reset then c else after_piece (retried c) (resent_piece c.send) (retried c)

-- A segment that is to be sent: its data is queued and not acknowledged, and fits one; it has ACK, and names 1,460 bytes
-- where it names a size.
pub record IsReady (c : ControlBlock) (r : Ready) : Type 0 where
  pub from : acknowledged_bytes c.send ≤ r.at
  pub to : r.at + r.len ≤ c.send.total
  pub small : r.len ≤ MAX_SEGMENT_DATA
  pub size : IfSome r.mss (λ m. m ≡ MAX_SEGMENT_DATA)
  pub ack : r.flags.ack ≡ true

-- A segment with the data of its place.
abbrev pub filled : ControlBlock → Ready → Said
filled c r = record {
  seq = r.seq.0;
  ack = r.ack.0;
  flags = r.flags;
  wnd = r.wnd;
  mss = r.mss;
  payload = take r.len (drop (r.at - acknowledged_bytes c.send) c.send.rest);
}
