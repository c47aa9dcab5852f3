-- The sending half of a connection, by counts. What is sent is a list of symbols: the SYN, then the queued bytes, then
-- the FIN once it is finished. UNA and NXT count the symbols that are acknowledged, and those that are sent.
use Rattle.std.specs.Prelude.{◌≡◌, ℕ, ◌+◌, ◌-◌, ◌≤◌, ◌==◌, nat_lt, nat_le, min, max, not, ◌&&◌, ◌||◌, Bool, true, false, if◌then◌else◌, List, [], ◌++◌, length, take, drop, Option, Some, None}
use Rattle.lard_base.specs.declared.limits.TheConstants.{MAX_SEGMENT_DATA, MAX_STREAM_BYTES}
use Rattle.lard_base.specs.declared.parts.EndpointParts.{EndpointParts}
use Rattle.lard_seq.specs.Seq.{one_if, seq_offset}
use Rattle.lard_send.specs.declared.piece.Piece.{Piece}
use Rattle.lard_send.specs.declared.half.Ack.{Ack}
use Rattle.lard_send.specs.declared.half.Ack.TheVariants.{New, Same, Beyond}

-- What is kept of this side, and of the peer's window.
pub record Sending : Type 0 where
  pub iss : ℕ  -- the sequence number of the SYN
  pub irs : ℕ  -- the sequence number of the peer's SYN
  pub una : ℕ  -- how many symbols are acknowledged
  pub nxt : ℕ  -- how many symbols are sent
  pub rest : List ℕ  -- the queued bytes that are not acknowledged
  pub total : ℕ  -- how many bytes were queued since the connection began
  pub finished : Bool  -- the FIN follows the queued bytes
  pub wnd : ℕ  -- the peer's window
  pub wl1 : ℕ  -- the sequence number of the segment that brought it
  pub wl2 : ℕ  -- the acknowledgement number of that segment
  pub mss : ℕ  -- the most bytes of a segment

-- The SYN, the bytes and the FIN.
abbrev pub symbols : Sending → ℕ
symbols s = 1 + s.total + one_if s.finished

-- How many queued bytes are acknowledged.
abbrev pub acknowledged_bytes : Sending → ℕ
acknowledged_bytes s = s.total - length s.rest

-- What holds of every half.
pub record IsSending (s : Sending) : Type 0 where
  pub sent : s.una ≤ s.nxt
  pub queued : s.nxt ≤ symbols s
  pub kept : length s.rest + min (s.una - 1) s.total ≡ s.total
  pub most : s.total ≤ MAX_STREAM_BYTES
  pub some_mss : 1 ≤ s.mss
  pub small_mss : s.mss ≤ MAX_SEGMENT_DATA

-- A half whose SYN is not sent. The window came with the peer's SYN (RFC 9293, 3.10.7.2).
abbrev pub send_begun : ℕ → ℕ → ℕ → ℕ → Sending
send_begun iss irs wnd mss = record { iss = iss; irs = irs; una = 0; nxt = 0; rest = []; total = 0; finished = false; wnd = wnd; wl1 = irs; wl2 = iss; mss = mss }

-- A half that goes on from parts: all that was queued is acknowledged.
abbrev pub resumed : EndpointParts → Sending
resumed p = record { iss = p.iss; irs = p.irs; una = p.una; nxt = p.una; rest = []; total = p.una - 1; finished = false; wnd = p.wnd; wl1 = p.wl1; wl2 = p.wl2; mss = p.mss }

-- The peer's first number and its maximum segment size are learnt.
abbrev pub introduced : Sending → ℕ → ℕ → Sending
introduced s irs mss = record s { irs = irs; mss = mss }

-- Bytes are to follow those that were queued.
abbrev pub queued_too : Sending → List ℕ → Sending
queued_too s bytes = record s { rest = s.rest ++ bytes; total = s.total + length bytes }

-- The FIN is to follow the bytes.
abbrev pub send_closed : Sending → Sending
send_closed s = record s { finished = true }

abbrev pub is_clear : Sending → Bool
is_clear s = s.una == symbols s

-- UNA becomes the ACK offset where that is above it (RFC 9293, 3.10.7.4, fifth: check the ACK field).
abbrev pub moved_up : Sending → ℕ → Sending
moved_up s offset = if nat_lt s.una offset then record s { una = offset; rest = drop ((offset - 1) - (s.una - 1)) s.rest } else s

-- A segment is newer than the one that brought the window where WL1 is before its sequence number, or is it and WL2 is
-- not after its acknowledgement number, both by their offsets from the first numbers (RFC 9293, 3.10.7.4, fifth).
abbrev pub is_newer : Sending → ℕ → ℕ → Bool
is_newer s seq ack =
    nat_lt (seq_offset s.wl1 s.irs) (seq_offset seq s.irs)
    || ((s.wl1 == seq) && nat_le (seq_offset s.wl2 s.iss) (seq_offset ack s.iss))

-- The window is taken of the segment that acknowledged the SYN, and of newer ones.
abbrev pub windowed : Sending → Bool → ℕ → ℕ → ℕ → Sending
windowed s opened seq ack wnd = if opened || is_newer s seq ack then record s { wnd = wnd; wl1 = seq; wl2 = ack } else s

-- What a segment's ACK leaves. It is dropped where the offset is above NXT, and where the SYN stays not acknowledged.
abbrev pub after_ack : Sending → ℕ → ℕ → ℕ → Sending
after_ack s ack seq wnd =
    if nat_lt s.nxt (seq_offset ack s.iss) then s else
    if (s.una == 0) && (seq_offset ack s.iss == 0) then s else
    windowed (moved_up s (seq_offset ack s.iss)) (s.una == 0) seq ack wnd

-- What the ACK offset says.
abbrev pub ack_answer : Sending → ℕ → Ack
ack_answer s offset =
    if nat_lt s.nxt offset then Beyond else
    if nat_lt s.una offset then New (offset - s.una) else
    Same

abbrev pub syn_piece : Piece
syn_piece = record { at = 0; len = 0; syn = true; fin = false; push = false }

-- Bytes, and perhaps the FIN. PSH is set where the last queued byte is among them.
abbrev pub byte_piece : Sending → ℕ → ℕ → Bool → Piece
byte_piece s at len fin = record { at = at; len = len; syn = false; fin = fin; push = nat_lt 0 len && (at + len == s.total) }

-- The bytes of a piece are queued, and not acknowledged.
pub record IsQueued (s : Sending) (p : Piece) : Type 0 where
  pub from : acknowledged_bytes s ≤ p.at
  pub to : p.at + p.len ≤ s.total

-- How many symbols from UNA on the peer has room for: its window (RFC 9293, 3.8.6).
unfoldable pub peer_room : Sending → ℕ
peer_room s = s.wnd

-- How many symbols that room leaves.
abbrev pub send_left : Sending → ℕ
send_left s = (s.una + peer_room s) - s.nxt

abbrev pub unsent_bytes : Sending → ℕ
unsent_bytes s = s.total - (s.nxt - 1)

-- Symbols are sent once the SYN is acknowledged, while there are some and the window leaves room.
abbrev pub may_send : Sending → Bool
may_send s = not (s.una == 0) && (nat_lt s.nxt (symbols s) && nat_lt 0 (send_left s))

-- At most a segment, and at most what the window leaves.
abbrev pub next_len : Sending → ℕ
next_len s = min (min (unsent_bytes s) s.mss) (send_left s)

-- The FIN goes with the last bytes where the window leaves room for it.
abbrev pub next_fin : Sending → Bool
next_fin s = s.finished && ((next_len s == unsent_bytes s) && nat_lt (next_len s) (send_left s))

-- The symbols that are sent next: first the SYN.
abbrev pub next_piece : Sending → Option Piece
next_piece s =
    if s.nxt == 0 then Some syn_piece else
    if may_send s then Some (byte_piece s (s.nxt - 1) (next_len s) (next_fin s)) else
    None

abbrev pub after_next : Sending → Sending
after_next s =
    if s.nxt == 0 then record s { nxt = 1 } else
    if may_send s then record s { nxt = s.nxt + next_len s + one_if (next_fin s) } else
    s

-- The sent bytes from UNA, at most a segment.
abbrev pub again_len : Sending → ℕ
again_len s = min (min (s.nxt - 1) s.total - (s.una - 1)) s.mss

-- The FIN goes with them where it is sent and follows them.
abbrev pub again_fin : Sending → Bool
again_fin s = s.finished && ((s.nxt == symbols s) && ((s.una - 1) + again_len s == s.total))

-- What a timer sends again: the SYN while it is not acknowledged, else the sent symbols from UNA, else one unsent
-- symbol beyond the window as a probe (RFC 9293, 3.8.1 and 3.8.6.1).
abbrev pub resent_piece : Sending → Option Piece
resent_piece s =
    if s.una == 0 then Some syn_piece else
    if nat_lt s.una s.nxt then Some (byte_piece s (s.una - 1) (again_len s) (again_fin s)) else
    if nat_lt s.nxt (symbols s) then Some (byte_piece s (s.nxt - 1) (min (unsent_bytes s) 1) (unsent_bytes s == 0)) else
    None

-- The SYN and the probe count as sent.
abbrev pub after_resend : Sending → Sending
after_resend s =
    if s.una == 0 then record s { nxt = max s.nxt 1 } else
    if nat_lt s.una s.nxt then s else
    if nat_lt s.nxt (symbols s) then record s { nxt = s.nxt + 1 } else
    s

-- All bytes that were queued: so many as were counted, and those that are not acknowledged are the last of them, in order.
pub record IsUnacknowledgedPart (s : Sending) (all : List ℕ) : Type 0 where
  pub count : length all ≡ s.total
  pub part : s.rest ≡ drop (acknowledged_bytes s) all

-- What is kept stays that part when bytes are queued, acknowledged and sent.
abbrev pub QueueingKeepsThePart : Type 0
QueueingKeepsThePart = (s : Sending) (all bytes : List ℕ) → IsUnacknowledgedPart s all → IsUnacknowledgedPart (queued_too s bytes) (all ++ bytes)

abbrev pub AckKeepsThePart : Type 0
AckKeepsThePart = (s : Sending) (all : List ℕ) (ack seq wnd : ℕ) → IsUnacknowledgedPart s all → IsUnacknowledgedPart (after_ack s ack seq wnd) all

abbrev pub SendingKeepsThePart : Type 0
SendingKeepsThePart = (s : Sending) (all : List ℕ) → IsUnacknowledgedPart s all
    → IsUnacknowledgedPart (after_next s) all × IsUnacknowledgedPart (after_resend s) all

-- What is filled in for a piece are the queued bytes of its place.
abbrev pub PiecesAreParts : Type 0
PiecesAreParts = (s : Sending) (all : List ℕ) (at len : ℕ) → acknowledged_bytes s ≤ at → IsUnacknowledgedPart s all
    → take len (drop (at - acknowledged_bytes s) s.rest) ≡ take len (drop at all)

-- What may be sent for the first time, when it is not the SYN: symbols from NXT on, below UNA plus the peer's window, with
-- no more bytes than a segment of the peer has (RFC 9293, 3.4: SND.UNA =< number < SND.UNA + SND.WND, and 3.7.1).
pub record IsPieceAllowed (s : Sending) (p : Piece) : Type 0 where
  pub first : p.syn ≡ false → 1 + p.at ≡ s.nxt
  pub below : p.syn ≡ false → s.nxt + p.len + one_if p.fin ≤ s.una + s.wnd
  pub small : p.len ≤ s.mss

abbrev pub FirstsAreAllowed : Type 0
FirstsAreAllowed = (s : Sending) (p : Piece) → next_piece s ≡ Some p → IsPieceAllowed s p
