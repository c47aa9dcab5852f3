-- What holds of all that a client accepts, segment by segment.
use Rattle.std.specs.Prelude.{ℕ, ◌≡◌, ◌+◌, ◌-◌, ◌^◌, ◌<◌, ◌≤◌, ◌==◌, nat_lt, min, ◌&&◌, not, Bool, true, false, if◌then◌else◌, List, [], ◌∷◌, length, take, drop, Some, is_some}
use Rattle.lard_arrival.specs.Arrival.{IsPartAt, is_acceptable}
use Rattle.lard_base.specs.declared.limits.TheConstants.{MAX_STREAM_BYTES}
use Rattle.lard_client.specs.declared.heard.Heard.{Heard}
use Rattle.lard_client.specs.Control.{ClientBlock, is_client_open, is_aborted, is_established, client_rcv_nxt, client_rcv_wnd, client_written, shut_down, held_on, client_taken, aborted}
use Rattle.lard_client.specs.Arriving.{client_arrived, client_begins_after, known, client_room}
use Rattle.lard_client.specs.Leaving.{client_emitted, client_after_emit, client_timed, client_after_timer}
use Rattle.lard_segment.specs.declared.segment.Ready.{Ready}
use Rattle.lard_segment.specs.Segment.{Said}
use Rattle.lard_seq.specs.Seq.{one_if, seq_add, seq_offset}

-- A segment counts where the client is open, established and waits for more, and where it passes each check of RFC 9293,
-- 3.10.7.4, that stands before its text: it is acceptable, has neither RST nor SYN, and acknowledges nothing that was not
-- sent. It may begin before the number that is awaited, and not after it.
abbrev pub counts : ClientBlock → Said → Bool
counts x s =
    is_client_open x && (is_established x
    && (is_acceptable (client_rcv_nxt x) (client_rcv_wnd x) s && (not s.flags.rst && (not s.flags.syn
    && (s.flags.ack && (not (nat_lt x.send.nxt (seq_offset s.ack x.send.iss))
    && (not (client_begins_after x s) && not x.eof)))))))

-- What is accepted is exactly the part from the awaited number on for which there is room, where the segment counts, and
-- else nothing; and its FIN is taken exactly where all bytes before it are.
pub record IsAwaitedPart (x : ClientBlock) (s : Said) (h : Heard) : Type 0 where
  pub len : h.len ≡ (if counts x s then min (length s.payload - known x s) (client_room x) else 0)
  pub bytes : take h.len (drop h.from s.payload) ≡ (if counts x s then take (client_room x) (drop (known x s) s.payload) else [])
  pub fin : h.eof ≡ (counts x s && (s.flags.fin && (known x s + h.len == length s.payload)))

-- What a client heard of a segment, between what it kept before and after.
pub record IsInOrder (x : ClientBlock) (s : Said) (h : Heard) (y : ClientBlock) : Type 0 where
  pub within : h.from + h.len ≤ length s.payload  -- the accepted part lies in the segment's data
  pub place : 0 < h.len + one_if h.eof → seq_add s.seq h.from ≡ client_rcv_nxt x  -- its first symbol is the one that is awaited
  pub fresh : IsAwaitedPart x s h  -- it is all that is awaited and that there is room for
  pub fits : h.len ≤ client_rcv_wnd x
  pub ended : h.eof ≡ true → s.flags.fin ≡ true  -- a FIN that is taken was there
  pub last : h.eof ≡ true → h.from + h.len ≡ length s.payload  -- no byte stands between it and the FIN
  pub counted : y.accepted ≡ x.accepted + h.len
  pub next : is_established x ≡ true → client_rcv_nxt y ≡ seq_add (client_rcv_nxt x) (h.len + one_if h.eof)  -- RCV.NXT moves by what was taken
  pub shuts : h.eof ≡ true → y.send.finished ≡ true  -- a FIN shuts the client
  pub once : x.eof ≡ true → h.len + one_if h.eof ≡ 0  -- nothing is taken after the FIN

-- Each arrival is in order.
abbrev pub ArrivalsAreInOrder : Type 0
ArrivalsAreInOrder = (x : ClientBlock) (s : Said) → s.seq < 2 ^ 32 → IsInOrder x s (client_arrived x s).0 (client_arrived x s).1

-- A segment of a cluster that sends these bytes, all in all: by its number it has those from place k on, and a FIN stands
-- behind all of them.
pub record IsTrueSegment (x : ClientBlock) (all : List ℕ) (k : ℕ) (s : Said) : Type 0 where
  pub first : x.send.irs < 2 ^ 32
  pub most : length all ≤ MAX_STREAM_BYTES
  pub number : s.seq ≡ seq_add x.send.irs (1 + k)
  pub part : IsPartAt k s.payload all
  pub final : s.flags.fin ≡ true → k + length s.payload ≡ length all

-- What a client accepts of it are the bytes behind those that it accepted, and it takes the FIN behind all of them.
pub record IsNextOf (x : ClientBlock) (s : Said) (h : Heard) (all : List ℕ) : Type 0 where
  pub part : IsPartAt x.accepted (take h.len (drop h.from s.payload)) all
  pub final : h.eof ≡ true → x.accepted + h.len ≡ length all

-- Where the segment counts, all its bytes behind those that it accepted are accepted, as far as there is room.
abbrev pub TrueSegmentsAreAccepted : Type 0
TrueSegmentsAreAccepted = (x : ClientBlock) (s : Said) (all : List ℕ) (k : ℕ) → x.accepted ≤ length all → IsTrueSegment x all k s
    → IsNextOf x s (client_arrived x s).0 all
    × (counts x s ≡ true → k ≤ x.accepted → (client_arrived x s).0.len ≡ min (k + length s.payload - x.accepted) (client_room x))

-- No more than 2^30 bytes are accepted.
abbrev pub AcceptedStaysBounded : Type 0
AcceptedStaysBounded = (x : ClientBlock) (s : Said) → x.accepted ≤ MAX_STREAM_BYTES → (client_arrived x s).1.accepted ≤ MAX_STREAM_BYTES

-- A client that was aborted or reset takes nothing, and is as it was.
abbrev pub EndedTakesNothing : Type 0
EndedTakesNothing = (x : ClientBlock) (s : Said) → is_client_open x ≡ false
    → ((client_arrived x s).1 ≡ x) × ((client_arrived x s).0.len ≡ 0) × ((client_arrived x s).0.eof ≡ false)

-- A reply is given where the client was aborted and the segment has ACK and no RST, and nowhere else.
abbrev pub RepliesByTheirCause : Type 0
RepliesByTheirCause = (x : ClientBlock) (s : Said) → is_some (client_arrived x s).0.reply ≡ (is_aborted x && (s.flags.ack && not s.flags.rst))

-- ---- windows

-- What is emitted fits a segment of the cluster, and its bytes and FIN lie below UNA plus the cluster's window (RFC 9293,
-- 3.4: SND.UNA =< number < SND.UNA + SND.WND). Byte k, from 0, is symbol k + 1; the SYN is symbol 0, and needs no window.
abbrev pub ClientEmittedStaysInTheWindow : Type 0
ClientEmittedStaysInTheWindow = (x : ClientBlock) (r : Ready) → client_emitted x ≡ Some r
    → (r.len ≤ x.send.mss)
    × (r.flags.syn ≡ false → 0 < r.len + one_if r.flags.fin → (1 + r.at) + r.len + one_if r.flags.fin ≤ x.send.una + x.send.wnd)

-- Where the own window ends, as an offset from the cluster's SYN: RCV.NXT and RCV.WND together.
abbrev pub client_window_end : ClientBlock → ℕ
client_window_end x = (1 + x.accepted + one_if x.eof) + client_rcv_wnd x

-- The calls of a client.
pub data ClientCall : Type 0 where
  Arrives : Said → ClientCall
  Writes : List ℕ → ClientCall
  Shuts : ClientCall
  Aborts : ClientCall
  Holds : ClientCall
  Takes : ClientCall
  Emits : ClientCall
  Fires : ClientCall

abbrev pub client_called : ClientBlock → ClientCall → ClientBlock
client_called x (Arrives s) = (client_arrived x s).1
client_called x (Writes bytes) = client_written x bytes
client_called x Shuts = shut_down x
client_called x Aborts = aborted x
client_called x Holds = held_on x
client_called x Takes = client_taken x
client_called x Emits = client_after_emit x
client_called x Fires = client_after_timer x

abbrev pub client_after_calls : ClientBlock → List ClientCall → ClientBlock
client_after_calls x [] = x
client_after_calls x (call ∷ calls) = client_after_calls (client_called x call) calls

-- Whatever calls come, this end is not taken back (RFC 9293, 3.8.6: a receiver should not shrink its window). What a
-- client holds fills its window, and moves its end no more than what it reads.
abbrev pub ClientWindowIsNotTakenBack : Type 0
ClientWindowIsNotTakenBack = (x : ClientBlock) (calls : List ClientCall) → client_window_end x ≤ client_window_end (client_after_calls x calls)

-- A segment tells this end: RCV.WND, and RCV.NXT where it has ACK, as all but the SYN have.
pub record ClientTellsTheWindow (x : ClientBlock) (r : Ready) : Type 0 where
  pub wnd : r.wnd ≡ client_rcv_wnd x
  pub ack : r.flags.syn ≡ false → (r.flags.ack ≡ true) × (r.ack.0 ≡ client_rcv_nxt x)
  pub no_rst : r.flags.rst ≡ false

-- Each segment that is emitted or sent by a timer does. So none takes back what an earlier one told. The RSTs of an abort
-- and of a reply end the connection, and name a window of 0.
abbrev pub ClientSegmentsTellTheWindow : Type 0
ClientSegmentsTellTheWindow = (x : ClientBlock) (r : Ready) → (client_emitted x ≡ Some r → ClientTellsTheWindow x r) × (client_timed x ≡ Some r → ClientTellsTheWindow x r)
