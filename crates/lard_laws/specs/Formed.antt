-- What the records of a run say of paths and of bytes, beside the ranges of their numbers.
use Rattle.std.specs.Prelude.{◌≡◌, ℕ, ◌≤◌, ◌<◌, ◌^◌, true, List, length, is_some}
use Rattle.lard_law_view.specs.Prelude.{Config, Event, FilesAt, IsReached, Machine, Rec, file_at}
use Rattle.lard_base.specs.declared.event.Event.TheVariants as event
use Rattle.lard_history.proofs.Each.{Each}
use Rattle.lard_journal.specs.declared.rec.Rec.TheVariants as rec

-- what a client is told to write has a byte
abbrev pub GivesBytes : Event → Type 0
GivesBytes (event.Write c bytes) = 1 ≤ length bytes
GivesBytes _ = Unit {0}

-- so it is of the event that a record tells of
abbrev pub RecordGives : Rec → Type 0
RecordGives (rec.Event i e) = GivesBytes e
RecordGives (rec.Inner e) = GivesBytes e
RecordGives _ = Unit {0}

-- a path names a file
abbrev pub IsOfFile : FilesAt → List ℕ → Type 0
IsOfFile files path = is_some (files path) ≡ true

-- the paths of files fit the two bytes in which a message counts them
abbrev pub AreFilePathsShort : FilesAt → Type 0
AreFilePathsShort files = (path : List ℕ) → IsOfFile files path → length path < 2 ^ 16

-- A record's path names a file, and its bytes are at least one.
abbrev pub HasPathAndBytes : FilesAt → Rec → Type 0
HasPathAndBytes files (rec.Wrote c bytes) = 1 ≤ length bytes
HasPathAndBytes files (rec.Sent k from to bytes) = 1 ≤ length bytes
HasPathAndBytes files (rec.Accepted c bytes) = 1 ≤ length bytes
HasPathAndBytes files (rec.AssignedFirst c r path n add remove) = IsOfFile files path
HasPathAndBytes files (rec.AssignedLater c r path n add size queue) = IsOfFile files path
HasPathAndBytes files (rec.Hit n path) = IsOfFile files path
HasPathAndBytes files (rec.Queued n m c r path) = IsOfFile files path
HasPathAndBytes files (rec.Read n m c r path) = IsOfFile files path
HasPathAndBytes files _ = Unit {0}

-- In every run, of each connection, also of one that the schedule touched, where what clients are told to write has a byte.
abbrev pub RecordsHavePathsAndBytes : Type 0
RecordsHavePathsAndBytes = (config : Config) (files : List (List ℕ × List ℕ)) (m : Machine) → AreFilePathsShort (file_at files) → IsReached config files m → Each RecordGives m.journal
    → Each (HasPathAndBytes (file_at files)) m.journal
