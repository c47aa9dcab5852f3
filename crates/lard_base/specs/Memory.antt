-- Sources and sinks over memory, whose calls fail where they are told to.
use Rattle.std.specs.Prelude.{ℕ, ◌-◌, min, Bool, ◌&&◌, nat_eq, nat_lt, if◌then◌else◌, List, [], ◌++◌, length, take, drop, Option, Some, None}
use Rattle.std.specs.List.{list_any}
use Rattle.lard_base.specs.Causes.{raised}

-- the bytes that are left, the numbers of the calls that fail, and the counts of calls and of faults
pub record SourceState : Type 0 where
  pub left : List ℕ
  pub failing : List ℕ
  pub calls : ℕ
  pub faults : ℕ

-- the bytes that were written, how many there is room for, the numbers of the calls that fail, and the counts of calls and of faults
pub record SinkState : Type 0 where
  pub written : List ℕ
  pub room : ℕ
  pub failing : List ℕ
  pub calls : ℕ
  pub faults : ℕ

-- a source of these bytes, and a sink with this room, before their first call
abbrev pub fresh_source : List ℕ → List ℕ → SourceState
fresh_source bytes failing = record { left = bytes; failing = failing; calls = 0; faults = 0 }

abbrev pub fresh_sink : ℕ → List ℕ → SinkState
fresh_sink room failing = record { written = []; room = room; failing = failing; calls = 0; faults = 0 }

-- after so many calls the next is one that fails; calls are counted from 1, and the count stays at the greatest u64
abbrev pub is_failing : List ℕ → ℕ → Bool
is_failing failing calls = list_any (λ k. nat_eq k (raised calls)) failing

-- how many bytes a read answers: as many of the bytes left as the buffer holds; none where the call fails
abbrev pub read_count : SourceState → ℕ → Option ℕ
read_count s len = if is_failing s.failing s.calls then None else Some (min len (length s.left))

-- the buffer after a read
abbrev pub read_into : SourceState → List ℕ → Option ℕ → List ℕ
read_into s buf None = buf
read_into s buf (Some n) = take n s.left ++ drop n buf

-- the source after a read
abbrev pub after_read : SourceState → Option ℕ → SourceState
after_read s None = record s { calls = raised s.calls; faults = raised s.faults }
after_read s (Some n) = record s { left = drop n s.left; calls = raised s.calls }

-- how many bytes a write takes: as many as the room still holds; none where the call fails, as it does at a full sink for a piece that is not empty
abbrev pub write_count : SinkState → ℕ → Option ℕ
write_count s len = if is_failing s.failing s.calls then None else if nat_eq s.room (length s.written) && nat_lt 0 len then None else Some (min len (s.room - length s.written))

-- the sink after a write
abbrev pub after_write : SinkState → List ℕ → Option ℕ → SinkState
after_write s bytes None = record s { calls = raised s.calls; faults = raised s.faults }
after_write s bytes (Some n) = record s { written = s.written ++ take n bytes; calls = raised s.calls }
