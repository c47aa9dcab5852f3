-- By which way each content came, and in which order requests are assigned, in words of the journal.
use Rattle.std.specs.Prelude.{◌≡◌, ◌≢◌, ℕ, Bool, false, List, [], ◌∷◌, ◌++◌, length, map, take, Option, Some, None, Ok}
use Rattle.std.specs.List.{slice_get}
use Rattle.lard_law_view.specs.Prelude.{Body, EachMay, FilesAt, Front, IsPrefix, Message, Node, Place, Rec, Verdict, Via, and_path, assigned, assignments, decoded_message, good_path, goods, home_told, is_touched, served, verdicts, wrote}
use Rattle.lard_base.specs.declared.place.Via.TheVariants as via
use Rattle.lard_journal.specs.declared.rec.Rec.TheVariants as rec
use Rattle.lard_law_connections.specs.Offers.{WasSentBetween}
use Rattle.lard_message.specs.declared.message.Body.TheVariants as body

-- ---- what is told of a connection's requests

-- What its client wrote, how many responses were queued, what was assigned, each by its path and node, whether the last of it is a first
-- assignment that no node took, and the connection's home: the node of its last first assignment, until its admission ended.
pub record WayMarks : Type 0 where
  pub wrote : List ℕ
  pub served : ℕ
  pub assigned : List (List ℕ × ℕ)
  pub fresh : Bool
  pub home : Option ℕ

abbrev pub way_marks : List Rec → ℕ → WayMarks
way_marks J c = record { wrote = wrote J c; served = served J c; assigned = assigned J c; fresh = (assignments J c).fresh; home = home_told J c }

-- the paths of those that are for files
abbrev pub good_paths : FilesAt → List Verdict → List (List ℕ)
good_paths files [] = []
good_paths files (v ∷ vs) = and_path (good_path files v) (good_paths files vs)

-- of all requests that the client wrote, and of those that were answered
abbrev pub paths_wanted : FilesAt → WayMarks → List (List ℕ)
paths_wanted files m = good_paths files (verdicts m.wrote)

abbrev pub paths_answered : FilesAt → WayMarks → List (List ℕ)
paths_answered files m = good_paths files (take m.served (verdicts m.wrote))

abbrev pub paths_assigned : WayMarks → List (List ℕ)
paths_assigned m = map (λ a. a.0) m.assigned

-- ---- the way of a content

-- The content of a request that was assigned to this node: out of the home's own cache or from its disk where that is the node, and
-- from the node where it is another one.
abbrev pub ComesFrom : ℕ → ℕ → Via → Type 0
ComesFrom home node via.Own = ⊥
ComesFrom home node via.Cache = node ≡ home
ComesFrom home node via.Disk = node ≡ home
ComesFrom home node (via.Node from) = (from ≡ node) × (node ≢ home)

-- The response to a good request goes with the next assignment: the k-th good one with the k-th. It is for the path of that request,
-- the response is of the connection's home, and its content came from where it was assigned.
pub record GoesWith (files : FilesAt) (m : WayMarks) (path : List ℕ) (place : Place) (way : Via) : Type 0 where
  pub home : ℕ
  pub home_is : m.home ≡ Some home
  pub its : List ℕ × ℕ
  pub its_is : slice_get m.assigned (length (paths_answered files m)) ≡ Some its
  pub path_is : its.0 ≡ path
  pub place_is : place ≡ Node home
  pub comes : ComesFrom home its.1 way

-- the response to a request that is not good has the place's own content
abbrev pub ComesAsAssigned : FilesAt → WayMarks → Place → Via → Option (List ℕ) → Type 0
ComesAsAssigned files m place way None = way ≡ via.Own
ComesAsAssigned files m place way (Some path) = GoesWith files m path place way

-- it answers the next request, which is there
abbrev pub AnswersBy : FilesAt → WayMarks → Place → Via → Option Verdict → Type 0
AnswersBy files m place way None = ⊥
AnswersBy files m place way (Some v) = ComesAsAssigned files m place way (good_path files v)

abbrev pub AnswersNextAt : FilesAt → WayMarks → Place → Via → Type 0
AnswersNextAt files m place way = AnswersBy files m place way (slice_get (verdicts m.wrote) m.served)

-- so it is of each client whose connection the schedule did not touch
abbrev pub MayComeThisWay : FilesAt → List Rec → Rec → Type 0
MayComeThisWay files past (rec.Served place c r code size way) = is_touched past c ≡ false → AnswersNextAt files (way_marks past c) place way
MayComeThisWay files past _ = Unit {0}

abbrev pub ComeAsAssigned : FilesAt → List Rec → Type 0
ComeAsAssigned files J = EachMay (MayComeThisWay files) [] J

-- ---- the order of assignments

-- the path is that of the next good request that has no node, the k-th in the k-th assignment
abbrev pub IsNextGood : FilesAt → WayMarks → List ℕ → Type 0
IsNextGood files m path = slice_get (paths_wanted files m) (length m.assigned) ≡ Some path

abbrev pub MayBeAssigned : FilesAt → List Rec → Rec → Type 0
MayBeAssigned files past (rec.AssignedFirst c r path n add remove) = is_touched past c ≡ false → IsNextGood files (way_marks past c) path
MayBeAssigned files past (rec.AssignedLater c r path n add size queue) = is_touched past c ≡ false → IsNextGood files (way_marks past c) path
MayBeAssigned files past _ = Unit {0}

abbrev pub AreAssignedInOrder : FilesAt → List Rec → Type 0
AreAssignedInOrder files J = EachMay (MayBeAssigned files) [] J

-- At every moment, the paths that were assigned are a prefix of those of the good requests, as long as the schedule did not touch
-- the connection.
abbrev pub AssignsAPrefix : FilesAt → List Rec → Type 0
AssignsAPrefix files J =
    (past later : List Rec) (c : ℕ) → J ≡ past ++ later → is_touched past c ≡ false → IsPrefix (map (λ a. a.0) (assigned past c)) (map (λ g. g.1) (goods files (wrote past c)))

-- ---- the paths of an Ask that goes out

-- They go on from those that were assigned: both, one behind the other, are a prefix of the paths of the good requests.
abbrev pub BodyGoesOn : FilesAt → WayMarks → Body → Type 0
BodyGoesOn files m (body.Ask number queue size paths) = IsPrefix (paths_assigned m ++ paths) (paths_wanted files m)
BodyGoesOn files m _ = Unit {0}

-- Of a message of a node to the front end, which was not sent there before: so it is of each connection that the schedule did
-- not touch.
abbrev pub GoesOnTo : FilesAt → List Rec → Place → Place → List ℕ → Type 0
GoesOnTo files past (Node n) Front bytes =
    (m : Message) → decoded_message bytes ≡ Ok m → is_touched past m.c ≡ false → (WasSentBetween (Node n) Front bytes past → ⊥) → BodyGoesOn files (way_marks past m.c) m.body
GoesOnTo files past _ _ bytes = Unit {0}

abbrev pub MayGoOn : FilesAt → List Rec → Rec → Type 0
MayGoOn files past (rec.Sent k from to bytes) = GoesOnTo files past from to bytes
MayGoOn files past _ = Unit {0}

-- each Ask names the next paths, where it is sent first
abbrev pub NamesTheNext : FilesAt → List Rec → Type 0
NamesTheNext files J = EachMay (MayGoOn files) [] J
