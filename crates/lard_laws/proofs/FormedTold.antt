-- What is so of the records and the packets of one connection.
use Rattle.std.proofs.Common.{◌≡◌, ℕ, ◌≤◌, List, length, Ok}
use Rattle.lard_law_view.specs.Prelude.{Body, Came, FilesAt, Front, Letter, Message, Node, Place, Rec, Row, Seen, decoded_message}
use Rattle.lard_history.proofs.Each.{Each}
use Rattle.lard_journal.specs.declared.rec.Rec.TheVariants as rec
use Rattle.lard_laws.specs.Formed.{IsOfFile, RecordGives}
use Rattle.lard_message.specs.declared.message.Body.TheVariants as body

-- ---- records

-- What is written, sent and accepted has a byte, and what is assigned names a file. Of caches and disks the journal tells the rest.
abbrev pub IsToldSo : FilesAt → Rec → Type 0
IsToldSo files (rec.Wrote c bytes) = 1 ≤ length bytes
IsToldSo files (rec.Sent k from to bytes) = 1 ≤ length bytes
IsToldSo files (rec.Accepted c bytes) = 1 ≤ length bytes
IsToldSo files (rec.AssignedFirst c r path n add remove) = IsOfFile files path
IsToldSo files (rec.AssignedLater c r path n add size queue) = IsOfFile files path
IsToldSo files _ = Unit {0}

-- what is hit, queued and read names a file
abbrev pub IsStoredSo : FilesAt → Rec → Type 0
IsStoredSo files (rec.Hit n path) = IsOfFile files path
IsStoredSo files (rec.Queued n m c r path) = IsOfFile files path
IsStoredSo files (rec.Read n m c r path) = IsOfFile files path
IsStoredSo files _ = Unit {0}

abbrev pub SeenToldSo : FilesAt → Seen → Type 0
SeenToldSo files (Row r) = IsToldSo files r
SeenToldSo files (Came l) = Unit {0}

-- what the schedule gives has a byte
abbrev pub SeenGives : Seen → Type 0
SeenGives (Row r) = RecordGives r
SeenGives (Came l) = Unit {0}

-- ---- Asks

-- the paths that an Ask names are those of files
abbrev pub BodyNames : FilesAt → Body → Type 0
BodyNames files (body.Ask number queue size paths) = Each (IsOfFile files) paths
BodyNames files _ = Unit {0}

-- so it is of what a node tells the front end
abbrev pub NamesBy : FilesAt → Place → Place → List ℕ → Type 0
NamesBy files (Node n) Front bytes = (m : Message) → decoded_message bytes ≡ Ok m → BodyNames files m.body
NamesBy files _ _ bytes = Unit {0}

abbrev pub LetterNames : FilesAt → Letter → Type 0
LetterNames files l = NamesBy files l.from l.to l.bytes
