-- What the segments of one side of a connection say of the bytes that it sends, and what the other side may rely on.
use Rattle.std.specs.Prelude.{◌≡◌, ◌⊎◌, ℕ, ◌+◌, ◌^◌, ◌<◌, ◌≤◌, Bool, true, false, List, [], length, take}
use Rattle.lard_answers.specs.Answers.{IsPrefix}
use Rattle.lard_arrival.specs.Arrival.{IsPartAt}
use Rattle.lard_base.specs.declared.limits.TheConstants.{MAX_STREAM_BYTES}
use Rattle.lard_client.specs.Control.{ClientBlock, is_established}
use Rattle.lard_recv.specs.Recv.{Received, IsReceived, IsUnusedPart}
use Rattle.lard_segment.specs.Segment.{Said}
use Rattle.lard_send.specs.Send.{Sending, IsSending, IsUnacknowledgedPart}
use Rattle.lard_seq.specs.Seq.{seq_add}

-- What one side of a connection sends, all in all.
pub record Stream : Type 0 where
  pub first : ℕ  -- the sequence number of its SYN
  pub bytes : List ℕ  -- all bytes, in order
  pub ended : Bool  -- no more follow: the FIN stands behind them

-- ---- the truth of a segment

-- A segment has the bytes of its place, by its number, and its FIN stands behind all of them (RFC 9293, 3.4).
pub record Stands (x : Stream) (s : Said) : Type 0 where
  pub place : ℕ
  pub number : s.seq ≡ seq_add x.first (1 + place)
  pub part : IsPartAt place s.payload x.bytes
  pub final : s.flags.fin ≡ true → (place + length s.payload ≡ length x.bytes) × (x.ended ≡ true)

-- It has neither bytes nor a FIN.
abbrev pub IsBare : Said → Type 0
IsBare s = (s.payload ≡ []) × (s.flags.fin ≡ false)

-- A segment is true of a stream: its SYN has the first number, and what it carries stands where it says.
pub record IsTrueOf (x : Stream) (s : Said) : Type 0 where
  pub greets : s.flags.syn ≡ true → s.seq ≡ x.first
  pub carries : IsBare s ⊎ Stands x s

-- A stream goes on: bytes follow the old ones, and none once it has ended.
pub record GoesOn (x y : Stream) : Type 0 where
  pub first : y.first ≡ x.first
  pub bytes : IsPrefix x.bytes y.bytes
  pub ended : x.ended ≡ true → y ≡ x

-- ---- the two sides

-- The stream of a sending half that was given these bytes.
abbrev pub stream_of : Sending → List ℕ → Stream
stream_of s bytes = record { first = s.iss; bytes = bytes; ended = s.finished }

-- A sending half keeps what is not acknowledged of the bytes that it was given.
pub record Speaks (s : Sending) (bytes : List ℕ) : Type 0 where
  pub sound : IsSending s
  pub number : s.iss < 2 ^ 32
  pub part : IsUnacknowledgedPart s bytes

-- A receiving half has taken the first bytes of a stream, and keeps what is unread of them; it took the FIN behind all.
pub record Hears (x : Stream) (r : Received) : Type 0 where
  pub first : r.irs ≡ x.first
  pub sound : IsReceived r
  pub within : r.got ≤ length x.bytes
  pub part : IsUnusedPart r (take r.got x.bytes)
  pub final : r.fin ≡ true → (r.got ≡ length x.bytes) × (x.ended ≡ true)

-- A client has accepted the first bytes of a stream, whose first number it knows once it is established.
pub record Accepts (x : Stream) (b : ClientBlock) : Type 0 where
  pub first : is_established b ≡ true → b.send.irs ≡ x.first
  pub within : b.accepted ≤ length x.bytes
  pub final : b.eof ≡ true → (b.accepted ≡ length x.bytes) × (x.ended ≡ true)

-- One direction carries at most 2^30 bytes, and its numbers have 32 bits.
pub record IsStream (x : Stream) : Type 0 where
  pub number : x.first < 2 ^ 32
  pub most : length x.bytes ≤ MAX_STREAM_BYTES
