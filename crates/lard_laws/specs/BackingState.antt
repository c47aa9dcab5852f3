-- What holds of one connection between any two steps: each Fetch that was ever sent is of a request for its path.
use Rattle.std.specs.Prelude.{◌≡◌, ◌≢◌, ◌<◌, ◌^◌, ℕ, ◌+◌, List, Ok}
use Rattle.lard_law_view.specs.Prelude.{Body, Conn, FilesAt, Letter, Message, Node, Place, Rec, decoded_message}
use Rattle.lard_laws.specs.BackingRequests.{IsFor}
use Rattle.lard_laws.specs.WaysState.{marks_at}
use Rattle.lard_laws.specs.Ways.{WayMarks, paths_answered, paths_assigned}
use Rattle.lard_history.proofs.Each.{Each}
use Rattle.lard_journal.specs.declared.rec.Rec.TheVariants as rec
use Rattle.lard_message.specs.declared.message.Body.TheVariants as body

-- ---- packets

-- a Fetch is of a request for its path, and asks another node
abbrev pub BodyFor : FilesAt → List ℕ → ℕ → ℕ → Body → Type 0
BodyFor files wrote m n (body.Fetch r path) = IsFor files wrote r path × (r < 2 ^ 32) × (m ≢ n)
BodyFor files wrote m n _ = Unit {0}

-- what one node says to another
abbrev pub SaysFor : FilesAt → List ℕ → Place → Place → List ℕ → Type 0
SaysFor files wrote (Node m) (Node n) bytes = (msg : Message) → decoded_message bytes ≡ Ok msg → BodyFor files wrote m n msg.body
SaysFor files wrote _ _ bytes = Unit {0}

abbrev pub LetterFor : FilesAt → List ℕ → Letter → Type 0
LetterFor files wrote l = SaysFor files wrote l.from l.to l.bytes

-- ---- one connection

abbrev pub FetchesFor : FilesAt → Conn → Type 0
FetchesFor files x = Each (LetterFor files (marks_at x).wrote) x.letters

-- ---- records

-- A first assignment is of the next request, behind the answers to all that was assigned. A job, and a Fetch, are for the path of their
-- request, whose number a message has room for.
abbrev pub MayBack : FilesAt → WayMarks → Rec → Type 0
MayBack files m (rec.AssignedFirst d r path n add remove) = (paths_assigned m ≡ paths_answered files m) × (r ≡ m.served + 1) × IsFor files m.wrote r path
MayBack files m (rec.Queued n k d r path) = IsFor files m.wrote r path × (r < 2 ^ 32)
MayBack files m (rec.Sent k from to bytes) = SaysFor files m.wrote from to bytes
MayBack files m _ = Unit {0}
