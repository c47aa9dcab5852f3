-- How an endpoint is frozen, goes on at another place, and ends.
use Rattle.std.specs.Prelude.{ℕ, not, ◌&&◌, ◌||◌, Bool, true, false, if◌then◌else◌}
use Rattle.lard_base.specs.declared.limits.TheConstants.{RECEIVE_WINDOW}
use Rattle.lard_base.specs.declared.parts.EndpointParts.{EndpointParts}
use Rattle.lard_base.specs.declared.place.Reason.{Reason}
use Rattle.lard_base.specs.declared.place.Reason.TheVariants.{Closed, Peer}
use Rattle.lard_recv.specs.Recv.{restored}
use Rattle.lard_send.specs.Send.{is_clear, resumed}
use Rattle.lard_endpoint.specs.declared.control.moving.Final.{Final}
use Rattle.lard_endpoint.specs.Control.{ControlBlock, rcv_nxt, snd_nxt}

-- All that was queued is acknowledged, nothing ends it, and nothing is thrown away.
abbrev pub may_freeze : ControlBlock → Bool
may_freeze c = (is_clear c.send && not c.send.finished) && (not c.recv.discarding && not c.reset)

-- What another place needs to go on.
abbrev pub parts_of : ControlBlock → ℕ → EndpointParts
parts_of c served = record {
  irs = c.recv.irs;
  iss = c.send.iss;
  got = c.recv.got;
  fin = c.recv.fin;
  una = c.send.una;
  wnd = c.send.wnd;
  wl1 = c.send.wl1;
  wl2 = c.send.wl2;
  mss = c.send.mss;
  served = served;
  unread = c.recv.unread;
}

-- An endpoint that goes on from parts. It owes an ACK, and the window last told counts as the whole one.
abbrev pub adopted : EndpointParts → ControlBlock
adopted p = record {
  recv = restored p.irs p.got p.fin p.unread;
  send = resumed p;
  owed = true;
  last_window = RECEIVE_WINDOW;
  reset = false;
}

-- Both sides are closed: our FIN is acknowledged, and theirs was taken (RFC 9293, 3.6).
abbrev pub is_closed : ControlBlock → Bool
is_closed c = (c.send.finished && is_clear c.send) && c.recv.fin

abbrev pub may_end : ControlBlock → Bool
may_end c = c.reset || is_closed c

-- What is left of a connection: why it ended, SND.NXT and RCV.NXT.
abbrev pub final_of : ControlBlock → Reason → Final
final_of c reason = record { reason = reason; snd = record { 0 = snd_nxt c }; rcv = record { 0 = rcv_nxt c } }

abbrev pub end_reason : ControlBlock → Reason
end_reason c = if c.reset then Peer else Closed
