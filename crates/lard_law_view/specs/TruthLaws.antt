-- Each operation of an endpoint and of a client sends the truth of its own stream, and takes that of the other's.
use Rattle.std.specs.Prelude.{◌≡◌, ℕ, ◌+◌, ◌^◌, ◌<◌, ◌≤◌, true, false, List, [], ◌++◌, length, take, drop, Some}
use Rattle.lard_arrival.specs.Arrival.{IsPartAt}
use Rattle.lard_base.specs.declared.limits.TheConstants.{MAX_STREAM_BYTES}
use Rattle.lard_client.specs.Control.{ClientBlock, IsClientBlock, client_opened, client_written, is_writing, shut_down, held_on, client_taken, aborted}
use Rattle.lard_client.specs.Arriving.{client_arrived}
use Rattle.lard_client.specs.Leaving as client
use Rattle.lard_endpoint.specs.Arriving.{on_segment}
use Rattle.lard_endpoint.specs.Control.{ControlBlock, IsControlBlock, listening, queueing, finishing, consuming, discarding_on}
use Rattle.lard_endpoint.specs.Leaving as endpoint
use Rattle.lard_segment.specs.declared.segment.Ready.{Ready}
use Rattle.lard_segment.specs.Segment.{Said, IsSendable}
use Rattle.lard_law_view.specs.Truth.{Stream, IsStream, IsTrueOf, GoesOn, stream_of, Speaks, Hears, Accepts}

-- What was true stays true.
abbrev pub TruthStays : Type 0
TruthStays = (x y : Stream) (s : Said) → GoesOn x y → IsTrueOf x s → IsTrueOf y s

-- And what was heard and accepted stays a prefix of what is sent.
abbrev pub HearingStays : Type 0
HearingStays = (x y : Stream) (b : ControlBlock) → GoesOn x y → Hears x b.recv → Hears y b.recv

abbrev pub AcceptingStays : Type 0
AcceptingStays = (x y : Stream) (b : ClientBlock) → GoesOn x y → Accepts x b → Accepts y b

-- ---- an endpoint

-- A new endpoint has nothing to say, and has heard nothing but a true SYN.
abbrev pub ListeningBegins : Type 0
ListeningBegins = (x : Stream) (s : Said) (iss : ℕ) → iss < 2 ^ 32 → s.seq ≡ x.first
    → Hears x (listening s iss).recv × Speaks (listening s iss).send []

-- What it sends is true, and can be sent.
abbrev pub EmittedIsTrue : Type 0
EmittedIsTrue = (b : ControlBlock) (bytes : List ℕ) (r : Ready) → IsControlBlock b → Speaks b.send bytes → endpoint.emitted b ≡ Some r
    → IsTrueOf (stream_of b.send bytes) (endpoint.filled (endpoint.after_emit b) r) × IsSendable (endpoint.filled (endpoint.after_emit b) r)

abbrev pub TimedIsTrue : Type 0
TimedIsTrue = (b : ControlBlock) (bytes : List ℕ) (r : Ready) → IsControlBlock b → Speaks b.send bytes → endpoint.timed b ≡ Some r
    → IsTrueOf (stream_of b.send bytes) (endpoint.filled (endpoint.after_timer b) r) × IsSendable (endpoint.filled (endpoint.after_timer b) r)

-- Sending changes neither its stream nor what it heard.
abbrev pub LeavingSpeaks : Type 0
LeavingSpeaks = (b : ControlBlock) (bytes : List ℕ) → Speaks b.send bytes
    → (Speaks (endpoint.after_emit b).send bytes × (stream_of (endpoint.after_emit b).send bytes ≡ stream_of b.send bytes) × ((endpoint.after_emit b).recv ≡ b.recv))
    × (Speaks (endpoint.after_timer b).send bytes × (stream_of (endpoint.after_timer b).send bytes ≡ stream_of b.send bytes) × ((endpoint.after_timer b).recv ≡ b.recv))

-- Whatever arrives, its own stream is as it was; of a true segment it hears the next bytes.
abbrev pub ArrivingSpeaks : Type 0
ArrivingSpeaks = (b : ControlBlock) (bytes : List ℕ) (s : Said) → Speaks b.send bytes
    → Speaks (on_segment b s).1.send bytes × (stream_of (on_segment b s).1.send bytes ≡ stream_of b.send bytes)

abbrev pub ArrivingHears : Type 0
ArrivingHears = (x : Stream) (b : ControlBlock) (s : Said) → IsStream x → Hears x b.recv → IsTrueOf x s → Hears x (on_segment b s).1.recv

-- Its owner's calls.
abbrev pub QueueingSpeaks : Type 0
QueueingSpeaks = (b : ControlBlock) (bytes more : List ℕ) → b.send.finished ≡ false → length bytes + length more ≤ MAX_STREAM_BYTES → Speaks b.send bytes
    → Speaks (queueing b more).send (bytes ++ more) × GoesOn (stream_of b.send bytes) (stream_of (queueing b more).send (bytes ++ more))

abbrev pub FinishingSpeaks : Type 0
FinishingSpeaks = (b : ControlBlock) (bytes : List ℕ) → Speaks b.send bytes
    → Speaks (finishing b).send bytes × GoesOn (stream_of b.send bytes) (stream_of (finishing b).send bytes)

abbrev pub ReadingHears : Type 0
ReadingHears = (x : Stream) (b : ControlBlock) (n : ℕ) → Hears x b.recv → Hears x (consuming b n).recv × Hears x (discarding_on b).recv

-- ---- a client

abbrev pub OpeningBegins : Type 0
OpeningBegins = (x : Stream) (c isn wnd mss : ℕ) → isn < 2 ^ 32 → Accepts x (client_opened c isn wnd mss) × Speaks (client_opened c isn wnd mss).send []

abbrev pub ClientEmittedIsTrue : Type 0
ClientEmittedIsTrue = (b : ClientBlock) (bytes : List ℕ) (r : Ready) → IsClientBlock b → b.wnd < 2 ^ 16 → Speaks b.send bytes → client.client_emitted b ≡ Some r
    → IsTrueOf (stream_of b.send bytes) (client.client_filled (client.client_after_emit b) r) × IsSendable (client.client_filled (client.client_after_emit b) r)

abbrev pub ClientTimedIsTrue : Type 0
ClientTimedIsTrue = (b : ClientBlock) (bytes : List ℕ) (r : Ready) → IsClientBlock b → b.wnd < 2 ^ 16 → Speaks b.send bytes → client.client_timed b ≡ Some r
    → IsTrueOf (stream_of b.send bytes) (client.client_filled (client.client_after_timer b) r) × IsSendable (client.client_filled (client.client_after_timer b) r)

-- Its resets carry nothing.
abbrev pub AbortIsTrue : Type 0
AbortIsTrue = (b : ClientBlock) (bytes : List ℕ) (r : Ready) → Speaks b.send bytes → client.abort_ready b ≡ Some r
    → IsTrueOf (stream_of b.send bytes) (client.client_filled (aborted b) r) × IsSendable (client.client_filled (aborted b) r)

abbrev pub ReplyIsTrue : Type 0
ReplyIsTrue = (b : ClientBlock) (bytes : List ℕ) (s : Said) (r : Ready) → s.ack < 2 ^ 32 → Speaks b.send bytes → (client_arrived b s).0.reply ≡ Some r
    → IsTrueOf (stream_of b.send bytes) (client.client_filled (client_arrived b s).1 r) × IsSendable (client.client_filled (client_arrived b s).1 r)

-- Sending changes neither its stream nor what it accepted.
abbrev pub ClientLeavingSpeaks : Type 0
ClientLeavingSpeaks = (x : Stream) (b : ClientBlock) (bytes : List ℕ) → Speaks b.send bytes → Accepts x b
    → (Speaks (client.client_after_emit b).send bytes × (stream_of (client.client_after_emit b).send bytes ≡ stream_of b.send bytes) × Accepts x (client.client_after_emit b))
    × (Speaks (client.client_after_timer b).send bytes × (stream_of (client.client_after_timer b).send bytes ≡ stream_of b.send bytes) × Accepts x (client.client_after_timer b))

-- Whatever arrives, its stream goes on, at most by the FIN; of a true segment it accepts the next bytes.
abbrev pub ClientArrivingSpeaks : Type 0
ClientArrivingSpeaks = (b : ClientBlock) (bytes : List ℕ) (s : Said) → Speaks b.send bytes
    → Speaks (client_arrived b s).1.send bytes × GoesOn (stream_of b.send bytes) (stream_of (client_arrived b s).1.send bytes)

abbrev pub ClientArrivingAccepts : Type 0
ClientArrivingAccepts = (x : Stream) (b : ClientBlock) (s : Said) → IsStream x → s.seq < 2 ^ 32 → Accepts x b → IsTrueOf x s
    → Accepts x (client_arrived b s).1
    × IsPartAt b.accepted (take (client_arrived b s).0.len (drop (client_arrived b s).0.from s.payload)) x.bytes
    × ((client_arrived b s).1.accepted ≡ b.accepted + (client_arrived b s).0.len)

-- Its owner's calls: bytes follow while it writes, and the other calls leave both streams as they are, but for the FIN.
abbrev pub WritingSpeaks : Type 0
WritingSpeaks = (b : ClientBlock) (bytes more : List ℕ) → is_writing b ≡ true → length bytes + length more ≤ MAX_STREAM_BYTES → Speaks b.send bytes
    → Speaks (client_written b more).send (bytes ++ more) × GoesOn (stream_of b.send bytes) (stream_of (client_written b more).send (bytes ++ more))

abbrev pub ClosingSpeaks : Type 0
ClosingSpeaks = (b : ClientBlock) (bytes : List ℕ) → Speaks b.send bytes
    → Speaks (shut_down b).send bytes × GoesOn (stream_of b.send bytes) (stream_of (shut_down b).send bytes)

abbrev pub OtherCallsChangeNothing : Type 0
OtherCallsChangeNothing = (b : ClientBlock) → ((held_on b).send ≡ b.send) × ((client_taken b).send ≡ b.send) × ((aborted b).send ≡ b.send)
