-- What a client sends: the next segment, what its timer sends again, and its resets (RFC 9293, 3.8 and 3.10).
use Rattle.std.specs.Prelude.{◌≡◌, ℕ, ◌+◌, ◌-◌, ◌≤◌, ◌==◌, nat_lt, not, ◌&&◌, ◌||◌, Bool, true, false, if◌then◌else◌, take, drop, Option, Some, None, IfSome}
use Rattle.lard_base.specs.declared.limits.TheConstants.{MAX_SEGMENT_DATA}
use Rattle.lard_client.specs.Control.{ClientBlock, is_client_open, is_established, client_rcv_nxt, client_rcv_wnd, client_snd_nxt}
use Rattle.lard_segment.specs.declared.segment.Ready.{Ready}
use Rattle.lard_segment.specs.declared.segment.TheConstants.Flags.{ACK, RST, RST_ACK}
use Rattle.lard_segment.specs.Control.{control_ready}
use Rattle.lard_segment.specs.Segment.{Said}
use Rattle.lard_send.specs.declared.piece.Piece.{Piece}
use Rattle.lard_send.specs.Send.{symbols, acknowledged_bytes, next_piece, after_next, resent_piece, after_resend}
use Rattle.lard_seq.specs.Seq.{one_if, seq_add}

-- The SYN: <SEQ=ISS><CTL=SYN>, with the client's window and maximum segment size (RFC 9293, 3.10.1 and 3.7.1).
abbrev pub syn_ready : ClientBlock → Ready
syn_ready x = record {
  seq = record { 0 = x.send.iss };
  ack = record { 0 = 0 };
  flags = record { syn = true; ack = false; fin = false; rst = false; psh = false };
  wnd = client_rcv_wnd x;
  mss = Some x.mss;
  at = 0;
  len = 0;
}

-- Bytes, and perhaps the FIN: each segment carries ACK with RCV.NXT, and the window (RFC 9293, 3.10.2 and 3.8.6). Byte
-- k, from 0, has the number that is k + 1 after the SYN's.
abbrev pub data_ready : ClientBlock → Piece → Ready
data_ready x p = record {
  seq = record { 0 = seq_add x.send.iss (1 + p.at) };
  ack = record { 0 = client_rcv_nxt x };
  flags = record { syn = false; ack = true; fin = p.fin; rst = false; psh = p.push };
  wnd = client_rcv_wnd x;
  mss = None;
  at = p.at;
  len = p.len;
}

abbrev pub client_piece_ready : ClientBlock → Piece → Ready
client_piece_ready x p = if p.syn then syn_ready x else data_ready x p

-- A plain ACK, at SND.NXT: <SEQ=SND.NXT><ACK=RCV.NXT><CTL=ACK> (RFC 9293, 3.10.7.4).
abbrev pub client_ack_ready : ClientBlock → Ready
client_ack_ready x = control_ready (client_snd_nxt x) (client_rcv_nxt x) ACK (client_rcv_wnd x) x.send.total

-- The RST of a client that aborts: <SEQ=SND.NXT><ACK=RCV.NXT><CTL=RST,ACK> (RFC 9293, 3.10.5).
abbrev pub reset_ready : ClientBlock → Ready
reset_ready x = control_ready (client_snd_nxt x) (client_rcv_nxt x) RST_ACK 0 x.send.total

-- The RST that answers an ACK number: <SEQ=SEG.ACK><CTL=RST> (RFC 9293, 3.10.7.1).
abbrev pub client_refusal : ClientBlock → ℕ → Ready
client_refusal x ack = control_ready ack 0 RST 0 x.send.total

-- A segment ends what is owed, and tells the window.
abbrev pub client_told : ClientBlock → ClientBlock
client_told x = record x { owed = false; last_window = client_rcv_wnd x }

-- An established client owes an ACK, also where the window opened since it was told as 0 (RFC 9293, 3.8.6.2.2).
abbrev pub client_owes : ClientBlock → Bool
client_owes x = is_established x && (x.owed || (x.last_window == 0 && nat_lt 0 (client_rcv_wnd x)))

-- An ACK alone, where one is owed.
abbrev pub client_owed_ready : ClientBlock → Option Ready
client_owed_ready x = if client_owes x then Some (client_ack_ready x) else None

abbrev pub client_after_owed : ClientBlock → ClientBlock
client_after_owed x = if client_owes x then client_told x else x

-- The segment of a piece, or else what is sent in its place.
abbrev pub client_ready_of : ClientBlock → Option Piece → Option Ready → Option Ready
client_ready_of x (Some p) other = Some (client_piece_ready x p)
client_ready_of x None other = other

abbrev pub client_after_piece : ClientBlock → Option Piece → ClientBlock → ClientBlock
client_after_piece x (Some p) other = client_told x
client_after_piece x None other = other

-- The next segment: the SYN, or bytes and the FIN as far as the cluster's window allows, or else an ACK that is owed. A
-- client that was aborted or reset sends nothing of itself.
abbrev pub client_emitted : ClientBlock → Option Ready
client_emitted x = if not (is_client_open x) then None else client_ready_of x (next_piece x.send) (client_owed_ready x)

abbrev pub client_after_emit : ClientBlock → ClientBlock
client_after_emit x =
    if not (is_client_open x) then x else
    client_after_piece (record x { send = after_next x.send }) (next_piece x.send) (client_after_owed x)

-- How much an open client may send of itself before something comes: each symbol that was not sent, and an ACK.
abbrev pub unsaid : ClientBlock → ℕ
unsaid x = (symbols x.send - x.send.nxt) + one_if (client_owes x)

-- What the timer sends again: the SYN while it is not acknowledged, else what is sent and not acknowledged, else a probe
-- of one symbol beyond the window (RFC 9293, 3.8.1 and 3.8.6.1).
abbrev pub client_timed : ClientBlock → Option Ready
client_timed x = if not (is_client_open x) then None else client_ready_of x (resent_piece x.send) None

abbrev pub client_after_timer : ClientBlock → ClientBlock
client_after_timer x =
    if not (is_client_open x) then x else
    client_after_piece (record x { send = after_resend x.send }) (resent_piece x.send) x

-- The RST of a client that aborts, where it is open and established.
abbrev pub abort_ready : ClientBlock → Option Ready
abort_ready x = if is_client_open x && is_established x then Some (reset_ready x) else None

-- The data of a segment is queued and not acknowledged.
pub record IsHeld (x : ClientBlock) (r : Ready) : Type 0 where
  pub from : acknowledged_bytes x.send ≤ r.at
  pub to : r.at + r.len ≤ x.send.total

-- What a segment says, once its data is filled in from the queued bytes.
abbrev pub client_filled : ClientBlock → Ready → Said
client_filled x r = record {
  seq = r.seq.0;
  ack = r.ack.0;
  flags = r.flags;
  wnd = r.wnd;
  mss = r.mss;
  payload = take r.len (drop (r.at - acknowledged_bytes x.send) x.send.rest);
}

-- A segment that may be written: little data, a size in its range, and no number without ACK.
pub record IsWritable (r : Ready) : Type 0 where
  pub small_payload : r.len ≤ MAX_SEGMENT_DATA
  pub some_mss : IfSome r.mss (λ m. 1 ≤ m)
  pub small_mss : IfSome r.mss (λ m. m ≤ MAX_SEGMENT_DATA)
  pub no_ack : r.flags.ack ≡ false → r.ack.0 ≡ 0
