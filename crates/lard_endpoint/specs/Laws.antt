-- The laws of an endpoint.
use Rattle.std.specs.Prelude.{◌≡◌, ℕ, ◌+◌, ◌-◌, ◌^◌, ◌<◌, ◌≤◌, ◌==◌, not, ◌&&◌, Bool, true, false, List, [], ◌∷◌, length, Some, None, is_some}
use Rattle.lard_arrival.specs.Arrival.{is_acceptable, is_in_window, IsPartAt}
use Rattle.lard_base.specs.declared.limits.TheConstants.{MAX_STREAM_BYTES, RECEIVE_WINDOW}
use Rattle.lard_base.specs.declared.parts.EndpointParts.{EndpointParts}
use Rattle.lard_base.specs.Parts.{IsValidParts}
use Rattle.lard_recv.specs.Recv.{Received, begins_after, arrived, gained, window_end}
use Rattle.lard_segment.specs.declared.segment.Ready.{Ready}
use Rattle.lard_segment.specs.Segment.{Said}
use Rattle.lard_send.specs.Send.{is_clear, next_piece}
use Rattle.lard_seq.specs.Seq.{one_if, seq_add, seq_offset}
use Rattle.lard_endpoint.specs.Arriving.{on_segment}
use Rattle.lard_endpoint.specs.Control.{ControlBlock, IsControlBlock, rcv_nxt, rcv_wnd, listening, queueing, finishing, consuming, discarding_on}
use Rattle.lard_endpoint.specs.Leaving.{owes, emitted, after_emit, timed, after_timer}
use Rattle.lard_endpoint.specs.Moving.{may_freeze, parts_of, adopted}

-- ---- numbers. Two that are at most half the number space after a first one differ as their offsets do.

abbrev pub LaterIsTheDifference : Type 0
LaterIsTheDifference = (first a b : ℕ) → first < 2 ^ 32 → b ≤ a → a ≤ 2 ^ 31 → seq_offset (seq_add first a) (seq_add first b) ≡ a - b

abbrev pub EarlierIsTheComplement : Type 0
EarlierIsTheComplement = (first a b : ℕ) → first < 2 ^ 32 → a < b → b ≤ 2 ^ 31 → seq_offset (seq_add first a) (seq_add first b) ≡ 2 ^ 32 - (b - a)

-- An acceptable segment begins after RCV.NXT exactly where its first number lies in the window and is not RCV.NXT.
abbrev pub AheadIsInTheWindow : Type 0
AheadIsInTheWindow = (c : ControlBlock) (s : Said) → IsControlBlock c → s.seq < 2 ^ 32 → length s.payload ≤ 65535 → is_acceptable (rcv_nxt c) (rcv_wnd c) s ≡ true
    → begins_after s.seq (rcv_nxt c) ≡ (is_in_window (rcv_nxt c) (rcv_wnd c) s.seq && not (s.seq == rcv_nxt c))

-- ---- what is taken of a true segment

-- A segment of a peer that sends these bytes, all in all: it has those from place k on, by their number.
pub record IsTrueData (r : Received) (all : List ℕ) (k seq : ℕ) (data_ : List ℕ) : Type 0 where
  pub first : r.irs < 2 ^ 32
  pub most : length all ≤ MAX_STREAM_BYTES
  pub number : seq ≡ seq_add r.irs (1 + k)
  pub part : IsPartAt k data_ all

-- What a receiver gains of it are the bytes that it awaits.
abbrev pub FreshIsThePart : Type 0
FreshIsThePart = (r : Received) (all : List ℕ) (k seq : ℕ) (data_ : List ℕ) → r.got ≤ length all → IsTrueData r all k seq data_
    → IsPartAt r.got (gained r seq data_) all

-- A FIN that stands behind all bytes is taken only once all of them are.
abbrev pub FinComesLast : Type 0
FinComesLast = (r : Received) (all : List ℕ) (k seq : ℕ) (data_ : List ℕ) (fin : Bool) → r.got ≤ length all → IsTrueData r all k seq data_
    → (fin ≡ true → k + length data_ ≡ length all)
    → r.fin ≡ false → (arrived r seq data_ fin).fin ≡ true → (fin ≡ true) × ((arrived r seq data_ fin).got ≡ length all)

-- ---- both directions stay within 2^30 bytes, and what else holds of every endpoint, over each rule

abbrev pub ListeningIsSound : Type 0
ListeningIsSound = (syn : Said) (iss : ℕ) → IsControlBlock (listening syn iss)

abbrev pub ArrivingKeeps : Type 0
ArrivingKeeps = (c : ControlBlock) (s : Said) → IsControlBlock c → IsControlBlock (on_segment c s).1

abbrev pub LeavingKeeps : Type 0
LeavingKeeps = (c : ControlBlock) → IsControlBlock c → IsControlBlock (after_emit c) × IsControlBlock (after_timer c)

abbrev pub QueueingKeeps : Type 0
QueueingKeeps = (c : ControlBlock) (bytes : List ℕ) → c.send.finished ≡ false → c.send.total + length bytes ≤ MAX_STREAM_BYTES → IsControlBlock c → IsControlBlock (queueing c bytes)

abbrev pub FinishingKeeps : Type 0
FinishingKeeps = (c : ControlBlock) → IsControlBlock c → IsControlBlock (finishing c)

abbrev pub ReadingKeeps : Type 0
ReadingKeeps = (c : ControlBlock) (n : ℕ) → IsControlBlock c → IsControlBlock (consuming c n) × IsControlBlock (discarding_on c)

abbrev pub AdoptionIsSound : Type 0
AdoptionIsSound = (p : EndpointParts) → IsValidParts p → IsControlBlock (adopted p)

-- ---- silence

-- The timer sends exactly where some symbol is not acknowledged.
abbrev pub TimerIsForTheRest : Type 0
TimerIsForTheRest = (c : ControlBlock) → IsControlBlock c → c.reset ≡ false → is_some (timed c) ≡ not (is_clear c.send)

-- Where nothing is emitted, nothing is owed, and no symbol may be sent.
abbrev pub SilenceOwesNothing : Type 0
SilenceOwesNothing = (c : ControlBlock) → c.reset ≡ false → emitted c ≡ None → (owes c ≡ false) × (next_piece c.send ≡ None)

-- ---- windows

-- What is emitted fits a segment of the peer, and its bytes and FIN lie below UNA plus the peer's window (RFC 9293, 3.4:
-- SND.UNA =< number < SND.UNA + SND.WND). Byte k, from 0, is symbol k + 1; the SYN is symbol 0, and needs no window.
abbrev pub EmittedStaysInTheWindow : Type 0
EmittedStaysInTheWindow = (c : ControlBlock) (r : Ready) → emitted c ≡ Some r
    → (r.len ≤ c.send.mss)
    × (r.flags.syn ≡ false → 0 < r.len + one_if r.flags.fin → (1 + r.at) + r.len + one_if r.flags.fin ≤ c.send.una + c.send.wnd)

-- The calls in which an endpoint goes on.
pub data EndpointCall : Type 0 where
  Arrives : Said → EndpointCall
  Queues : List ℕ → EndpointCall
  Finishes : EndpointCall
  Reads : ℕ → EndpointCall
  Discards : EndpointCall
  Emits : EndpointCall
  Fires : EndpointCall

abbrev pub called : ControlBlock → EndpointCall → ControlBlock
called c (Arrives s) = (on_segment c s).1
called c (Queues bytes) = queueing c bytes
called c Finishes = finishing c
called c (Reads n) = consuming c n
called c Discards = discarding_on c
called c Emits = after_emit c
called c Fires = after_timer c

abbrev pub endpoint_after_calls : ControlBlock → List EndpointCall → ControlBlock
endpoint_after_calls c [] = c
endpoint_after_calls c (call ∷ calls) = endpoint_after_calls (called c call) calls

-- Whatever calls come, the end of the window, RCV.NXT and RCV.WND together, is not taken back (RFC 9293, 3.8.6: a receiver
-- should not shrink its window).
abbrev pub WindowIsNotTakenBack : Type 0
WindowIsNotTakenBack = (c : ControlBlock) (calls : List EndpointCall) → window_end c.recv ≤ window_end (endpoint_after_calls c calls).recv

-- A segment tells this end: RCV.NXT, and RCV.WND from there on.
pub record TellsTheWindow (c : ControlBlock) (r : Ready) : Type 0 where
  pub ack : r.ack.0 ≡ rcv_nxt c
  pub wnd : r.wnd ≡ rcv_wnd c
  pub no_rst : r.flags.rst ≡ false

-- Each segment that is emitted or sent by a timer does. So none takes back what an earlier one told.
abbrev pub SegmentsTellTheWindow : Type 0
SegmentsTellTheWindow = (c : ControlBlock) (r : Ready) → (emitted c ≡ Some r → TellsTheWindow c r) × (timed c ≡ Some r → TellsTheWindow c r)

-- ---- the way to another place

-- The parts of a frozen endpoint are valid.
abbrev pub PartsAreValid : Type 0
PartsAreValid = (c : ControlBlock) (served : ℕ) → IsControlBlock c → may_freeze c ≡ true → served ≤ c.recv.got - length c.recv.unread
    → IsValidParts (parts_of c served)

-- An endpoint that is adopted from them is the frozen one, but that an ACK is owed and that the window last told counts
-- as the whole one. The bytes that were used or acknowledged are in neither.
abbrev pub AdoptionGoesOn : Type 0
AdoptionGoesOn = (c : ControlBlock) (served : ℕ) → IsControlBlock c → may_freeze c ≡ true
    → adopted (parts_of c served) ≡ record c { owed = true; last_window = RECEIVE_WINDOW }
