-- The receiving half of a connection, by counts: how many bytes came in order, and which of them are not read yet.
use Rattle.std.specs.Prelude.{◌≡◌, ℕ, ◌+◌, ◌-◌, ◌^◌, ◌≤◌, ◌==◌, nat_lt, min, not, ◌&&◌, Bool, true, false, if◌then◌else◌, List, [], ◌++◌, length, take, drop}
use Rattle.lard_base.specs.declared.limits.TheConstants.{MAX_STREAM_BYTES, RECEIVE_WINDOW}
use Rattle.lard_seq.specs.Seq.{one_if, seq_add, seq_offset}
use Rattle.lard_recv.specs.declared.half.Took.{Took}
use Rattle.lard_recv.specs.declared.half.Took.TheVariants.{Bytes, Old, Ahead}

-- What is kept of the peer's side.
pub record Received : Type 0 where
  pub irs : ℕ  -- the sequence number of the peer's SYN
  pub got : ℕ  -- how many bytes came in order
  pub fin : Bool  -- the peer's FIN was taken
  pub unread : List ℕ  -- the last of the bytes that came, which are not read yet
  pub discarding : Bool  -- what comes is counted, and not kept

-- What holds of every half.
pub record IsReceived (r : Received) : Type 0 where
  pub received : r.got ≤ MAX_STREAM_BYTES
  pub buffered : length r.unread ≤ RECEIVE_WINDOW
  pub within : length r.unread ≤ r.got
  pub dropped : r.discarding ≡ true → length r.unread ≤ 0

-- A half that goes on after so many bytes, and perhaps after the FIN.
abbrev pub restored : ℕ → ℕ → Bool → List ℕ → Received
restored irs got fin unread = record { irs = irs; got = got; fin = fin; unread = unread; discarding = false }

-- RCV.NXT: the SYN, the bytes and the FIN have a number each (RFC 9293, 3.4).
abbrev pub awaited : Received → ℕ
awaited r = seq_add r.irs (1 + r.got + one_if r.fin)

-- RCV.WND: 16,384 bytes fit, and no more than 2^30 come over one connection (RFC 9293, 3.8.6).
abbrev pub receive_room : Received → ℕ
receive_room r = min (RECEIVE_WINDOW - length r.unread) (MAX_STREAM_BYTES - r.got)

-- A segment begins after RCV.NXT where its number is less than half the number space after it (RFC 9293, 3.4).
abbrev pub begins_after : ℕ → ℕ → Bool
begins_after seq next = nat_lt 0 (seq_offset seq next) && nat_lt (seq_offset seq next) (2 ^ 31)

-- The bytes from RCV.NXT on, as many as fit (RFC 9293, 3.10.7.4, seventh: process the segment text).
abbrev pub fresh_bytes : Received → ℕ → List ℕ → List ℕ
fresh_bytes r seq data_ = take (receive_room r) (drop (seq_offset (awaited r) seq) data_)

-- The FIN is in order where all bytes before it are taken (RFC 9293, 3.10.7.4, eighth: check the FIN bit).
abbrev pub ends : Received → ℕ → List ℕ → Bool → Bool
ends r seq data_ fin = fin && (seq_offset (awaited r) seq + length (fresh_bytes r seq data_) == length data_)

-- Bytes are taken, and perhaps the FIN behind them. While discarding the bytes are dropped, and count all the same.
abbrev pub bytes_taken : Received → List ℕ → Bool → Received
bytes_taken r bytes fin = record r { got = r.got + length bytes; fin = fin; unread = if r.discarding then r.unread else r.unread ++ bytes }

-- What a segment leaves: nothing of one that begins after RCV.NXT is taken, and nothing after the FIN.
abbrev pub arrived : Received → ℕ → List ℕ → Bool → Received
arrived r seq data_ fin =
    if begins_after seq (awaited r) then r else
    if r.fin then r else
    bytes_taken r (fresh_bytes r seq data_) (ends r seq data_ fin)

-- What a segment brought.
abbrev pub brought : Received → ℕ → List ℕ → Bool → Took
brought r seq data_ fin =
    if begins_after seq (awaited r) then Ahead else
    if r.fin then Old else
    if (length (fresh_bytes r seq data_) == 0) && not (ends r seq data_ fin) then Old else
    Bytes (length (fresh_bytes r seq data_))

-- The first n unread bytes are read.
abbrev pub consumed : Received → ℕ → Received
consumed r n = record r { unread = drop n r.unread }

-- What is unread is dropped, and all that comes later too.
abbrev pub discarded : Received → Received
discarded r = record r { unread = []; discarding = true }

-- All bytes that came: so many as were counted, and unless it discards the unread ones are the last of them, in order.
pub record IsUnusedPart (r : Received) (all : List ℕ) : Type 0 where
  pub count : length all ≡ r.got
  pub part : r.discarding ≡ false → r.unread ≡ drop (r.got - length r.unread) all

-- The bytes that a segment adds to them.
abbrev pub gained : Received → ℕ → List ℕ → List ℕ
gained r seq data_ =
    if begins_after seq (awaited r) then [] else
    if r.fin then [] else
    fresh_bytes r seq data_

-- What is unread stays the unused part when a segment arrives, and when bytes are read.
abbrev pub ArrivalKeepsThePart : Type 0
ArrivalKeepsThePart = (r : Received) (all : List ℕ) (seq : ℕ) (data_ : List ℕ) (fin : Bool)
    → IsUnusedPart r all → IsUnusedPart (arrived r seq data_ fin) (all ++ gained r seq data_)

abbrev pub ReadingKeepsThePart : Type 0
ReadingKeepsThePart = (r : Received) (all : List ℕ) (n : ℕ) → IsUnusedPart r all → IsUnusedPart (consumed r n) all

-- Where the window ends, as an offset from the peer's SYN: RCV.NXT and RCV.WND together.
abbrev pub window_end : Received → ℕ
window_end r = (1 + r.got + one_if r.fin) + receive_room r

-- That end is never taken back, whatever arrives and whatever is read (RFC 9293, 3.8.6: a receiver should not shrink its
-- window, which would move the right window edge to the left).
abbrev pub ArrivalTakesNoWindowBack : Type 0
ArrivalTakesNoWindowBack = (r : Received) (seq : ℕ) (data_ : List ℕ) (fin : Bool) → window_end r ≤ window_end (arrived r seq data_ fin)

abbrev pub ReadingTakesNoWindowBack : Type 0
ReadingTakesNoWindowBack = (r : Received) (n : ℕ) → (window_end r ≤ window_end (consumed r n)) × (window_end r ≤ window_end (discarded r))
