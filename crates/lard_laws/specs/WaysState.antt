-- What holds of one connection between any two steps, as far as the ways of its requests go: what was assigned, what its home's batch
-- awaits, and what is said of Asks and Tags, agree.
use Rattle.std.specs.Prelude.{◌≡◌, ◌⊎◌, ℕ, ◌+◌, ◌≤◌, true, false, List, [], ◌∷◌, ◌++◌, map, Option, Some, None, Ok}
use Rattle.lard_law_view.specs.Prelude.{Body, Conn, EndpointParts, FilesAt, Front, FrontConn, FrontRest, FrontRow, IsPrefix, Letter, Message, Node, NodePart, Part, Place, Stay, Tale, Verdict, decoded_message, front_rest, good_path, is_row_at, named_paths, tale_at, verdicts}
use Rattle.lard_law_connections.specs.Places.{IsDecided, IsPast}
use Rattle.lard_laws.specs.WaysUnder.{Assigned, Under}
use Rattle.lard_laws.specs.Ways.{WayMarks, paths_answered, paths_assigned, paths_wanted}
use Rattle.lard_handoff_front.specs.declared.row.FrontConn.TheVariants as stage
use Rattle.lard_history.proofs.Each.{Each}
use Rattle.lard_message.specs.declared.message.Body.TheVariants as body

abbrev pub marks_of : Tale → WayMarks
marks_of t = record { wrote = t.wrote; served = t.served; assigned = t.assigned; fresh = t.fresh; home = t.home }

abbrev pub marks_at : Conn → WayMarks
marks_at x = marks_of (tale_at x)

-- ---- at its home

-- the nodes of an Ask's paths, in order
abbrev pub given_to : List (List ℕ) → List ℕ → List Assigned
given_to [] nodes = []
given_to (path ∷ paths) [] = []
given_to (path ∷ paths) (node ∷ nodes) = (path, node) ∷ given_to paths nodes

-- The last Ask was answered: the last assignments are those of the requests that it named, which wait for its Tag; or it was not, and
-- names some.
abbrev pub IsAsking : FilesAt → WayMarks → FrontRest → Stay → List Assigned → List Assigned → Type 0
IsAsking files m r s gone under =
    ((s.asks ≡ r.asks) × (m.assigned ≡ (gone ++ under) ++ given_to (named_paths files s.batch) r.tag)) ⊎ ((s.asks ≡ r.asks + 1) × (m.assigned ≡ gone ++ under) × (named_paths files s.batch ≡ [] → ⊥))

-- The first assignments are of the good requests that were answered, the next of those of the batch that started.
pub record StayGoes (files : FilesAt) (home : ℕ) (m : WayMarks) (r : FrontRest) (s : Stay) : Type 0 where
  pub gone : List Assigned
  pub under : List Assigned
  pub walked : map (λ a. a.0) gone ≡ paths_answered files m
  pub lies : Under files home s.batch under
  pub asking : IsAsking files m r s gone under

-- so it is as long as its stay lasts
abbrev pub StayWays : FilesAt → ℕ → WayMarks → FrontRest → Option Stay → Type 0
StayWays files home m r None = Unit {0}
StayWays files home m r (Some s) = StayGoes files home m r s

-- ---- the seat

-- all that was assigned is answered, and nothing of it may become void
abbrev pub IsAllAnswered : FilesAt → WayMarks → Type 0
IsAllAnswered files m = (paths_assigned m ≡ paths_answered files m) × (m.fresh ≡ false)

-- the next request of these bytes is for this path
pub record BeginsWithRequest (files : FilesAt) (unread : List ℕ) (path : List ℕ) : Type 0 where
  pub first : Verdict
  pub others : List Verdict
  pub are : verdicts unread ≡ first ∷ others
  pub good : good_path files first ≡ Some path

-- Behind those that were answered one request was assigned, to this node, which did not take the connection yet.
pub record IsPlacedOnce (files : FilesAt) (m : WayMarks) (r : FrontRest) (home : ℕ) : Type 0 where
  pub before : List Assigned
  pub path : List ℕ
  pub assigned : m.assigned ≡ before ++ (path, home) ∷ []
  pub fresh : m.fresh ≡ true
  pub answered : map (λ a. a.0) before ≡ paths_answered files m
  pub asks : r.asks ≡ 0

-- This node took it: something was assigned, nothing of it may become void, and its stay goes on, if it lasts.
pub record IsAtHome (files : FilesAt) (m : WayMarks) (r : FrontRest) (home : ℕ) (o : Option Stay) : Type 0 where
  pub some : m.assigned ≡ [] → ⊥
  pub fresh : m.fresh ≡ false
  pub stay : StayWays files home m r o

-- Its home is this node, which has it or had it, or to which it is on its way.
abbrev pub IsAway : FilesAt → WayMarks → FrontRest → ℕ → ℕ → NodePart → Type 0
IsAway files m r home e p = (m.home ≡ Some home) × ((IsPast e p.row × IsPlacedOnce files m r home) ⊎ (IsDecided e p.row × IsAtHome files m r home p.stay))

-- one that waits is to be placed for the next request
abbrev pub WaitsForNext : FilesAt → List ℕ → Option (List ℕ) → Type 0
WaitsForNext files unread None = Unit {0}
WaitsForNext files unread (Some path) = BeginsWithRequest files unread path

abbrev pub StageWays : FilesAt → WayMarks → Part → ℕ → FrontConn → Type 0
StageWays files m p e (stage.Held b) = IsAllAnswered files m
StageWays files m p e (stage.Waiting b) = IsAllAnswered files m × WaitsForNext files b.recv.unread (front_rest p.front.rest).target
StageWays files m p e stage.Lent = Unit {0}
StageWays files m p e (stage.Offering n d) = IsAway files m (front_rest p.front.rest) n e (p.nodes n)
StageWays files m p e (stage.Moved n d) = IsAway files m (front_rest p.front.rest) n e (p.nodes n)
StageWays files m p e (stage.Closed last) = Unit {0}

abbrev pub SeatWays : FilesAt → WayMarks → Part → Option FrontRow → Type 0
SeatWays files m p None = IsAllAnswered files m
SeatWays files m p (Some row) = StageWays files m p row.epoch.0 row.stage

-- ---- packets

-- an Ask of the stay, if it lasts, names what its batch awaits
abbrev pub StayAsks : FilesAt → ℕ → List (List ℕ) → Option Stay → Type 0
StayAsks files number paths None = Unit {0}
StayAsks files number paths (Some s) = (s.asks ≡ number) × (paths ≡ named_paths files s.batch)

-- An Ask that was answered, or the next: its paths are those of the next good requests.
abbrev pub AskIs : FilesAt → WayMarks → FrontRest → Option Stay → ℕ → List (List ℕ) → Type 0
AskIs files m r o number paths =
    (number ≤ r.asks) ⊎ ((number ≡ r.asks + 1) × IsPrefix (paths_assigned m ++ paths) (paths_wanted files m) × StayAsks files (r.asks + 1) paths o)

abbrev pub TagIs : FrontRest → ℕ → List ℕ → Type 0
TagIs r number nodes = (number ≤ r.asks) × (number ≡ r.asks → nodes ≡ r.tag)

-- an Offer has what is to be read first, the last that was assigned
abbrev pub OfferIs : FilesAt → WayMarks → EndpointParts → Type 0
OfferIs files m parts =
    (before : List Assigned) × (path : List ℕ) × (node : ℕ) × (m.assigned ≡ before ++ (path, node) ∷ []) × BeginsWithRequest files parts.unread path

-- the front end was in this epoch
abbrev pub IsBy : ℕ → Option FrontRow → Type 0
IsBy e None = ⊥
IsBy e (Some row) = e ≤ row.epoch.0

abbrev pub NodeSaysWays : FilesAt → WayMarks → Part → ℕ → ℕ → Body → Type 0
NodeSaysWays files m p n e (body.Ask number queue size paths) =
    IsDecided e (p.nodes n).row × (is_row_at n e p.front.row ≡ true → AskIs files m (front_rest p.front.rest) (p.nodes n).stay number paths)
NodeSaysWays files m p n e _ = Unit {0}

abbrev pub FrontSaysWays : FilesAt → WayMarks → Part → ℕ → ℕ → Body → Type 0
FrontSaysWays files m p n e (body.Offer parts) = is_row_at n e p.front.row ≡ true → IsDecided e (p.nodes n).row ⊎ OfferIs files m parts
FrontSaysWays files m p n e (body.Tag number nodes) = IsBy e p.front.row × (is_row_at n e p.front.row ≡ true → TagIs (front_rest p.front.rest) number nodes)
FrontSaysWays files m p n e _ = Unit {0}

abbrev pub SaysWays : FilesAt → WayMarks → Part → Place → Place → List ℕ → Type 0
SaysWays files m p (Node n) Front bytes = (msg : Message) → decoded_message bytes ≡ Ok msg → NodeSaysWays files m p n msg.epoch.0 msg.body
SaysWays files m p Front (Node n) bytes = (msg : Message) → decoded_message bytes ≡ Ok msg → FrontSaysWays files m p n msg.epoch.0 msg.body
SaysWays files m p _ _ bytes = Unit {0}

abbrev pub LetterWays : FilesAt → WayMarks → Part → Letter → Type 0
LetterWays files m p l = SaysWays files m p l.from l.to l.bytes

-- ---- one connection

pub record GoesItsWay (files : FilesAt) (x : Conn) : Type 0 where
  pub paths : IsPrefix (paths_assigned (marks_at x)) (paths_wanted files (marks_at x))
  pub seat : SeatWays files (marks_at x) x.part x.part.front.row
  pub letters : Each (LetterWays files (marks_at x) x.part) x.letters
