-- What an endpoint makes of a segment, step by step in the order of RFC 9293, 3.10.7.4. Each step answers what the
-- segment made of the connection, and what is kept after it. Where a step does not drop the segment, the next one goes on.
use Rattle.std.specs.Prelude.{◌==◌, nat_lt, not, ◌&&◌, true, if◌then◌else◌, length}
use Rattle.lard_arrival.specs.Arrival.{is_acceptable, is_allowed, bare}
use Rattle.lard_recv.specs.Recv.{arrived}
use Rattle.lard_segment.specs.Segment.{Said}
use Rattle.lard_send.specs.Send.{after_ack}
use Rattle.lard_seq.specs.Seq.{seq_offset}
use Rattle.lard_endpoint.specs.declared.control.arriving.Arrival.{Arrival}
use Rattle.lard_endpoint.specs.declared.control.arriving.Arrival.TheVariants.{Fine, AckOwed, Reset}
use Rattle.lard_endpoint.specs.Control.{ControlBlock, rcv_nxt, rcv_wnd}

abbrev pub owing : ControlBlock → ControlBlock
owing c = record c { owed = true }

-- RFC 9293, 3.10.7.4, seventh: process the segment text, and eighth: check the FIN bit. What begins after RCV.NXT is
-- dropped, of the rest what fits is taken, and after a FIN nothing more is.
abbrev pub on_text : ControlBlock → Said → Arrival × ControlBlock
on_text c s =
    if length s.payload == 0 && not s.flags.fin
    then (Fine, c)
    else (AckOwed, record c { recv = arrived c.recv s.seq s.payload s.flags.fin; owed = true })

-- What was acknowledged is taken, and the window; the rest is dropped while the SYN is not acknowledged.
abbrev pub on_acked : ControlBlock → Said → Arrival × ControlBlock
on_acked c s = if c.send.una == 0 then (Fine, c) else on_text c s

-- RFC 9293, 3.10.7.4, fifth: check the ACK field. One that acknowledges what was not sent is answered by an ACK.
abbrev pub on_ack : ControlBlock → Said → Arrival × ControlBlock
on_ack c s =
    if not s.flags.ack then (Fine, c) else
    if nat_lt c.send.nxt (seq_offset s.ack c.send.iss) then (AckOwed, owing c) else
    on_acked (record c { send = after_ack c.send s.ack s.seq s.wnd }) s

-- RFC 9293, 3.10.7.4, fourth: check the SYN bit. It is answered by a challenge ACK.
abbrev pub on_syn : ControlBlock → Said → Arrival × ControlBlock
on_syn c s = if s.flags.syn then (AckOwed, owing c) else on_ack c s

-- RFC 9293, 3.10.7.4, second: check the RST bit. It resets at RCV.NXT alone, and is answered by a challenge ACK
-- elsewhere in the window.
abbrev pub on_rst : ControlBlock → Said → Arrival × ControlBlock
on_rst c s =
    if not s.flags.rst then on_syn c s else
    if s.seq == rcv_nxt c then (Reset, record c { reset = true }) else
    (AckOwed, owing c)

-- RFC 9293, 3.10.7.4, first, for a segment that is not acceptable: an ACK is owed unless it has RST.
abbrev pub on_unacceptable : ControlBlock → Said → Arrival × ControlBlock
on_unacceptable c s =
    if is_allowed (rcv_nxt c) (rcv_wnd c) s then (AckOwed, (on_ack (owing c) (bare s)).1) else
    if s.flags.rst then (Fine, c) else
    (AckOwed, owing c)

-- RFC 9293, 3.10.7.4, first: check sequence number.
abbrev pub on_segment : ControlBlock → Said → Arrival × ControlBlock
on_segment c s = if is_acceptable (rcv_nxt c) (rcv_wnd c) s then on_rst c s else on_unacceptable c s
