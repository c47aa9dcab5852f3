-- What a client makes of a segment, step by step in the order of RFC 9293, 3.10.7.4. Each step answers what the client
-- heard, and what is kept after it. Where a step does not drop the segment, the next one goes on.
use Rattle.std.specs.Prelude.{ℕ, ◌+◌, ◌-◌, ◌==◌, nat_lt, min, not, ◌&&◌, ◌||◌, Bool, true, false, if◌then◌else◌, length, Some, None}
use Rattle.lard_arrival.specs.Arrival.{is_in_window, is_acceptable, is_allowed, bare, peer_mss}
use Rattle.lard_base.specs.declared.limits.TheConstants.{MAX_STREAM_BYTES}
use Rattle.lard_client.specs.declared.phase.Phase.{Phase}
use Rattle.lard_client.specs.declared.phase.Phase.TheVariants.{Open, Aborted, Reset}
use Rattle.lard_client.specs.declared.heard.Heard.{Heard}
use Rattle.lard_client.specs.Control.{ClientBlock, client_rcv_nxt, client_rcv_wnd}
use Rattle.lard_client.specs.Leaving.{client_refusal}
use Rattle.lard_segment.specs.Segment.{Said}
use Rattle.lard_send.specs.Send.{introduced, after_ack, send_closed}
use Rattle.lard_seq.specs.Seq.{seq_offset}

-- Nothing was accepted, and nothing is answered at once.
abbrev pub heard_nothing : Heard
heard_nothing = record { from = 0; len = 0; eof = false; reply = None }

abbrev pub client_owing : ClientBlock → ClientBlock
client_owing x = record x { owed = true }

abbrev pub reset_by_peer : ClientBlock → ClientBlock
reset_by_peer x = record x { phase = Reset }

-- An acceptable segment begins after RCV.NXT where its first number is another one of the window.
abbrev pub client_begins_after : ClientBlock → Said → Bool
client_begins_after x s = is_in_window (client_rcv_nxt x) (client_rcv_wnd x) s.seq && not (s.seq == client_rcv_nxt x)

-- How many of a segment's symbols come before RCV.NXT.
abbrev pub known : ClientBlock → Said → ℕ
known x s = seq_offset (client_rcv_nxt x) s.seq

-- How many bytes may be accepted: what the window leaves, and no more than one direction carries, 2^30.
abbrev pub client_room : ClientBlock → ℕ
client_room x = min (client_rcv_wnd x) (MAX_STREAM_BYTES - x.accepted)

-- How many bytes from RCV.NXT on there is room for.
abbrev pub fresh_len : ClientBlock → Said → ℕ
fresh_len x s = min (length s.payload - known x s) (client_room x)

-- The FIN is in order where all bytes before it are taken.
abbrev pub client_ends : ClientBlock → Said → Bool
client_ends x s = s.flags.fin && (known x s + fresh_len x s == length s.payload)

-- So many bytes are accepted, which a client that holds leaves in its window, and perhaps the FIN behind them, which
-- finishes its own side.
abbrev pub accepting : ClientBlock → ℕ → Bool → ClientBlock
accepting x n fin = record x {
  accepted = x.accepted + n;
  held = x.held + (if x.holding then n else 0);
  eof = fin;
  send = if fin then send_closed x.send else x.send;
}

-- The part of a segment that is accepted.
abbrev pub client_part_of : ClientBlock → Said → Heard
client_part_of x s = record { from = min (known x s) (length s.payload); len = fresh_len x s; eof = client_ends x s; reply = None }

-- What begins after RCV.NXT is dropped, and after a FIN all is. Of the rest what fits is accepted.
abbrev pub on_fresh : ClientBlock → Said → Heard × ClientBlock
on_fresh x s = if client_begins_after x s || x.eof then (heard_nothing, x) else (client_part_of x s, accepting x (fresh_len x s) (client_ends x s))

-- RFC 9293, 3.10.7.4, seventh: process the segment text, and eighth: check the FIN bit. Both are to be acknowledged.
abbrev pub client_on_text : ClientBlock → Said → Heard × ClientBlock
client_on_text x s = if length s.payload == 0 && not s.flags.fin then (heard_nothing, x) else on_fresh (client_owing x) s

-- RFC 9293, 3.10.7.4, fifth: check the ACK field. One that acknowledges what was not sent is answered by an ACK.
abbrev pub client_on_ack : ClientBlock → Said → Heard × ClientBlock
client_on_ack x s =
    if not s.flags.ack then (heard_nothing, x) else
    if nat_lt x.send.nxt (seq_offset s.ack x.send.iss) then (heard_nothing, client_owing x) else
    client_on_text (record x { send = after_ack x.send s.ack s.seq s.wnd }) s

-- RFC 9293, 3.10.7.4, fourth: check the SYN bit. It is answered by a challenge ACK.
abbrev pub client_on_syn : ClientBlock → Said → Heard × ClientBlock
client_on_syn x s = if s.flags.syn then (heard_nothing, client_owing x) else client_on_ack x s

-- RFC 9293, 3.10.7.4, second: check the RST bit. It resets at RCV.NXT alone, and is answered by a challenge ACK
-- elsewhere in the window.
abbrev pub client_on_rst : ClientBlock → Said → Heard × ClientBlock
client_on_rst x s =
    if not s.flags.rst then client_on_syn x s else
    if s.seq == client_rcv_nxt x then (heard_nothing, reset_by_peer x) else
    (heard_nothing, client_owing x)

-- RFC 9293, 3.10.7.4, first, for a segment that is not acceptable: an ACK is owed unless it has RST.
abbrev pub client_on_unacceptable : ClientBlock → Said → Heard × ClientBlock
client_on_unacceptable x s =
    if is_allowed (client_rcv_nxt x) (client_rcv_wnd x) s then client_on_ack (client_owing x) (bare s) else
    if s.flags.rst then (heard_nothing, x) else
    (heard_nothing, client_owing x)

-- RFC 9293, 3.10.7.4, first: check sequence number.
abbrev pub client_on_segment : ClientBlock → Said → Heard × ClientBlock
client_on_segment x s = if is_acceptable (client_rcv_nxt x) (client_rcv_wnd x) s then client_on_rst x s else client_on_unacceptable x s

-- RFC 9293, 3.10.7.3, first: check the ACK bit. It acknowledges the SYN: its ACK offset is 1, and the SYN was sent.
abbrev pub answers_syn : ClientBlock → Said → Bool
answers_syn x s = s.flags.ack && (seq_offset s.ack x.send.iss == 1 && nat_lt 0 x.send.nxt)

-- The cluster's SYN brings its first number, its window and its maximum segment size, and is to be acknowledged.
abbrev pub established : ClientBlock → Said → ClientBlock
established x s = record x { send = after_ack (introduced x.send s.seq (peer_mss s.mss)) s.ack s.seq s.wnd; owed = true }

-- RFC 9293, 3.10.7.3, while the SYN is not acknowledged: a RST (second) and a SYN (fourth) count where they acknowledge
-- it. All else is dropped.
abbrev pub on_greeting : ClientBlock → Said → Heard × ClientBlock
on_greeting x s =
    if not (answers_syn x s) then (heard_nothing, x) else
    if s.flags.rst then (heard_nothing, reset_by_peer x) else
    if s.flags.syn then (heard_nothing, established x s) else
    (heard_nothing, x)

-- A segment comes to an open client.
abbrev pub heard_open : ClientBlock → Said → Heard × ClientBlock
heard_open x s = if x.send.una == 0 then on_greeting x s else client_on_segment x s

-- The answer of a client that was aborted, which knows the connection no more (RFC 9293, 3.10.7.1): a segment with ACK
-- and no RST is met by a RST.
abbrev pub reply_to : ClientBlock → Said → Heard
reply_to x s = record { from = 0; len = 0; eof = false; reply = if s.flags.ack && not s.flags.rst then Some (client_refusal x s.ack) else None }

abbrev pub heard_in : Phase → ClientBlock → Said → Heard × ClientBlock
heard_in Open x s = heard_open x s
heard_in Aborted x s = (reply_to x s, x)
heard_in Reset x s = (heard_nothing, x)

-- A segment comes. A client that was aborted or reset takes nothing of it.
unfoldable pub client_arrived : ClientBlock → Said → Heard × ClientBlock
client_arrived x s = heard_in x.phase x s
