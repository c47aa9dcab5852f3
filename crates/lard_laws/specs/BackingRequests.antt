-- Which request of a connection something is for, which place answers it, and what backs the way of its response: in words of the
-- journal.
use Rattle.std.specs.Prelude.{◌≡◌, ℕ, ◌+◌, false, List, ◌++◌, length, Option, Some, None, Ok}
use Rattle.std.specs.List.{slice_get}
use Rattle.lard_law_view.specs.Prelude.{Came, Client, FilesAt, Front, Has, Node, Place, Rec, Seen, Verdict, Via, assigned, content_bytes, decoded_message, good_path, home_told, is_touched, net_of, next_verdict, owner, seen_on, served, verdicts, wrote}
use Rattle.lard_base.specs.declared.place.Via.TheVariants as via
use Rattle.lard_laws.specs.BackingTold.{WasAssigned, WasTold}
use Rattle.lard_laws.specs.Ways.{paths_answered, way_marks}
use Rattle.lard_journal.specs.declared.rec.Rec.TheVariants as rec
use Rattle.lard_message.specs.declared.message.Body.TheVariants as body

-- Request r of all that a client wrote is for this path.
pub record IsFor (files : FilesAt) (wrote : List ℕ) (r : ℕ) (path : List ℕ) : Type 0 where
  pub before : ℕ
  pub number : r ≡ before + 1
  pub verdict : Verdict
  pub is : slice_get (verdicts wrote) before ≡ Some verdict
  pub good : good_path files verdict ≡ Some path

-- ---- numbers

-- A first assignment is for the next request, whose number it has, behind the answers to all that was assigned; and a job is for the
-- path of its request: as long as the schedule did not touch the connection.
abbrev pub MayName : FilesAt → List Rec → Rec → Type 0
MayName files past (rec.AssignedFirst c r path n add remove) = is_touched past c ≡ false
    → (length (assigned past c) ≡ length (paths_answered files (way_marks past c))) × (r ≡ served past c + 1) × IsFor files (wrote past c) r path
MayName files past (rec.Queued n m c r path) = is_touched past c ≡ false → IsFor files (wrote past c) r path
MayName files past _ = Unit {0}

-- ---- places

-- The home answers a request for a file, and the place that owns the connection any other.
abbrev pub AnswersFrom : Option Place → Option ℕ → Option (List ℕ) → Place → Type 0
AnswersFrom owner home None place = owner ≡ Some place
AnswersFrom owner home (Some path) place = (h : ℕ) × (home ≡ Some h) × (place ≡ Node h)

-- it answers the next request, which is there
abbrev pub AnswersNextFrom : FilesAt → Option Place → Option ℕ → Option Verdict → Place → Type 0
AnswersNextFrom files owner home None place = ⊥
AnswersNextFrom files owner home (Some v) place = AnswersFrom owner home (good_path files v) place

abbrev pub MayAnswerFrom : FilesAt → List Rec → Rec → Type 0
MayAnswerFrom files past (rec.Served place c r code size way) = is_touched past c ≡ false → AnswersNextFrom files (owner past c) (home_told past c) (next_verdict past c) place
MayAnswerFrom files past _ = Unit {0}

-- ---- ways

-- The node's own job for this request and this path was queued, and behind that its disk read it.
pub record IsQueuedAndRead (rs : List Rec) (n c r : ℕ) (path : List ℕ) : Type 0 where
  pub before : List Rec
  pub later : List Rec
  pub split : rs ≡ before ++ later
  pub queued : Has (rec.Queued n n c r path) before
  pub read : Has (rec.Read n n c r path) later

-- A content of this epoch came there from node m for this request, and it is the file of this path.
pub record HasComeFor (files : FilesAt) (seen : List Seen) (n m c epoch r : ℕ) (path : List ℕ) : Type 0 where
  pub bytes : List ℕ
  pub came : Has (Came (record { from = Node m; to = Node n; bytes = bytes })) seen
  pub reads : decoded_message bytes ≡ Ok (record { c = c; epoch = record { 0 = epoch }; body = body.Content r (content_bytes (files path)) })

-- what backs a way stands among the later of these records
abbrev pub StandsFor : FilesAt → List Rec → List Rec → ℕ → ℕ → ℕ → ℕ → List ℕ → Via → Type 0
StandsFor files before later n c epoch r path via.Own = Unit {0}
StandsFor files before later n c epoch r path via.Cache = Has (rec.Hit n path) later
StandsFor files before later n c epoch r path via.Disk = IsQueuedAndRead later n c r path
StandsFor files before later n c epoch r path (via.Node m) = HasComeFor files (seen_on c (net_of before) later) n m c epoch r path

-- the node from which a response of node n has its content
abbrev pub comes_from : ℕ → Via → ℕ
comes_from n via.Own = n
comes_from n via.Cache = n
comes_from n via.Disk = n
comes_from n (via.Node m) = m

-- Request r was assigned, for its path and to the node from which the content came. Node n was told of that, and what backs the way of the
-- response stands behind it.
pub record IsBehindTold (files : FilesAt) (past : List Rec) (n c r : ℕ) (path : List ℕ) (way : Via) : Type 0 where
  pub epoch : ℕ
  pub ask : Option ℕ
  pub before : List Rec
  pub later : List Rec
  pub split : past ≡ before ++ later
  pub assigned : WasAssigned files (wrote past c) before c r path (comes_from n way) ask
  pub told : WasTold before n c epoch ask
  pub stands : StandsFor files before later n c epoch r path way

abbrev pub WasFor : FilesAt → List Rec → ℕ → ℕ → ℕ → List ℕ → Via → Type 0
WasFor files past n c r path via.Own = Unit {0}
WasFor files past n c r path via.Cache = IsBehindTold files past n c r path via.Cache
WasFor files past n c r path via.Disk = IsBehindTold files past n c r path via.Disk
WasFor files past n c r path (via.Node m) = IsBehindTold files past n c r path (via.Node m)

abbrev pub WasForAt : FilesAt → List Rec → Place → ℕ → ℕ → List ℕ → Via → Type 0
WasForAt files past (Node n) c r path way = WasFor files past n c r path way
WasForAt files past Front c r path way = Unit {0}
WasForAt files past (Client d) c r path way = Unit {0}

-- The content of a response was there before by its way, behind what told the node where the request is assigned, and it is that of the
-- path which the request is for.
abbrev pub MayBeBacked : FilesAt → List Rec → Rec → Type 0
MayBeBacked files past (rec.Served place c r code size way) = is_touched past c ≡ false → (path : List ℕ) → IsFor files (wrote past c) r path → WasForAt files past place c r path way
MayBeBacked files past _ = Unit {0}

-- ---- what starts

-- Request r of connection c was assigned, for this path, and node n was told of it.
pub record NodeIsTold (files : FilesAt) (past : List Rec) (n c r : ℕ) (path : List ℕ) : Type 0 where
  pub epoch : ℕ
  pub ask : Option ℕ
  pub node : ℕ
  pub assigned : WasAssigned files (wrote past c) past c r path node ask
  pub told : WasTold past n c epoch ask

-- A job of the node itself is queued, and its disk reads it, only behind what told the node where the request is assigned.
abbrev pub MayStart : FilesAt → List Rec → Rec → Type 0
MayStart files past (rec.Queued n m c r path) = is_touched past c ≡ false → m ≡ n → NodeIsTold files past n c r path
MayStart files past (rec.Read n m c r path) = is_touched past c ≡ false → m ≡ n → NodeIsTold files past n c r path
MayStart files past _ = Unit {0}
