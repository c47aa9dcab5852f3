-- What is so of the line, of releases and of loads in every run, with a configuration that may be used.
use Rattle.std.specs.Prelude.{◌≡◌, ℕ, ◌+◌, ◌*◌, ◌<◌, ◌≤◌, ◌||◌, nat_lt, nat_le, max, count_by, Bool, if◌then◌else◌, List, [], ◌∷◌, length, map, Option, Some, None, Ok, nat_eq, false}
use Rattle.std.specs.FinMap as table
use Rattle.std.specs.List.{list_any}
use Rattle.lard_law_view.specs.Prelude.{AtEachEnd, Config, EachMay, EachStep, Front, FrontRow, IsReached, Machine, Rec, config_check, home_told, is_node_closed, is_home_of_node, is_waiting, last_epoch, owner, room_of, steps}
use Rattle.lard_law_connections.specs.Line.{waiting_line}
use Rattle.lard_law_connections.specs.Places.{IsOdd}
use Rattle.lard_law_connections.specs.PolicyLaws.{AtEveryMoment, last_record}
use Rattle.lard_counts.specs.Ledger.{Ledger, ledger_admitted, is_in_ledger, ledger}
use Rattle.lard_law_connections.specs.PolicyLoads.{load_told}
use Rattle.lard_journal.specs.declared.rec.Rec.TheVariants as rec
use Rattle.lard_loads.specs.Tally as tally

-- P is so in every state that events lead to
abbrev pub AlwaysConfigured : (Config → Machine → Type 0) → Type 0
AlwaysConfigured P = (config : Config) (files : List (List ℕ × List ℕ)) (m : Machine) → config_check config ≡ Ok tt → IsReached config files m → P config m

-- ---- the line

-- The front end keeps the line that the journal tells, in its order.
abbrev pub LineIsKept : Type 0
LineIsKept = AlwaysConfigured (λ config m. map (λ w. w.c) m.front.dispatch.books.line ≡ waiting_line m.journal)

-- a connection waits at the front end
abbrev pub waits_there : Option FrontRow → Bool
waits_there None = false
waits_there (Some row) = is_waiting row.stage

-- Those who wait there are in the line, and nobody else.
abbrev pub LineIsOfThoseWhoWait : Type 0
LineIsOfThoseWhoWait = AlwaysConfigured (λ config m. (c : ℕ) → list_any (nat_eq c) (waiting_line m.journal) ≡ waits_there (table.get m.front.conns c))

-- somebody is in the line only where as many are admitted as there is room for
abbrev pub LineNeedsAFullRoom : Config → List Rec → Type 0
LineNeedsAFullRoom config J = 0 < length (waiting_line J) → ledger_admitted (ledger config J) ≡ room_of config

-- So it is at the end of each step.
abbrev pub WaitsAtAFullRoom : Type 0
WaitsAtAFullRoom = AlwaysConfigured (λ config m. AtEachEnd (LineNeedsAFullRoom config) m.journal)

-- A connection is to wait only where it is not admitted, is not in the line, and the front end owns it, in an odd epoch.
abbrev pub MayWait : Ledger → List Rec → Rec → Type 0
MayWait l past (rec.Waits c) = (is_in_ledger l c ≡ false) × (list_any (nat_eq c) (waiting_line past) ≡ false) × (owner past c ≡ Some Front) × IsOdd (last_epoch past c)
MayWait l past _ = Unit {0}

-- So it is of each record.
abbrev pub WaitsAtTheFrontEnd : Type 0
WaitsAtTheFrontEnd = AlwaysConfigured (λ config m. EachMay (λ past r. MayWait (ledger config past) past r) [] m.journal)

-- who is admitted while somebody is in the line is its first
abbrev pub AdmitsHead : List ℕ → Rec → Type 0
AdmitsHead (c ∷ cs) (rec.Admitted d) = d ≡ c
AdmitsHead _ _ = Unit {0}

-- and directly behind a release its first is admitted
abbrev pub AdmitsBehind : List ℕ → Option Rec → Rec → Type 0
AdmitsBehind (c ∷ cs) (Some (rec.Released d)) r = r ≡ rec.Admitted c
AdmitsBehind _ _ _ = Unit {0}

-- Both are by the line as it is just before the record. No journal ends directly behind a release while somebody is in the line, since
-- the room is not full there.
abbrev pub MayPass : List Rec → Rec → Type 0
MayPass past r = AdmitsHead (waiting_line past) r × AdmitsBehind (waiting_line past) (last_record past) r

-- So it is of each record.
abbrev pub LinePasses : Type 0
LinePasses = AlwaysConfigured (λ config m. EachMay MayPass [] m.journal)

-- ---- releases

-- what is due behind a record: nothing, or the release of a connection
pub data LineDue : Type 0 where
  Nothing : LineDue
  Release : ℕ → LineDue

-- A release is due where the front end takes a connection that was admitted before the step, or takes it in an epoch behind the first.
abbrev pub due_behind : (ℕ → Bool) → Rec → LineDue
due_behind inside (rec.Took Front c epoch) = if inside c || nat_lt 1 epoch.0 then Release c else Nothing
due_behind inside _ = Nothing

-- Each that is due stands there; only that a node is closed stands between.
abbrev pub AreReleased : (ℕ → Bool) → LineDue → List Rec → Type 0
AreReleased inside Nothing [] = Unit {0}
AreReleased inside (Release c) [] = ⊥
AreReleased inside Nothing (r ∷ rs) = AreReleased inside (due_behind inside r) rs
AreReleased inside (Release c) (rec.Closed n ∷ rs) = AreReleased inside (Release c) rs
AreReleased inside (Release c) (r ∷ rs) = (r ≡ rec.Released c) × AreReleased inside Nothing rs

abbrev pub MustRelease : Config → List Rec → List Rec → Type 0
MustRelease config past s = AreReleased (is_in_ledger (ledger config past)) Nothing s

-- Where the front end takes a connection that is admitted, or takes it in an epoch behind the first, the connection is released,
-- behind that record; only that a node is closed stands between.
abbrev pub TakesRelease : Type 0
TakesRelease = AlwaysConfigured (λ config m. EachStep (MustRelease config) [] (steps m.journal))

-- ---- loads

-- no load is above a whole for each connection that there is room for
abbrev pub IsWithinTheRoom : Config → Ledger → List Rec → Type 0
IsWithinTheRoom config l past = (n : ℕ) → load_told past n ≤ 840 * room_of config

abbrev pub LoadsStayWithinTheRoom : Type 0
LoadsStayWithinTheRoom = AtEveryMoment IsWithinTheRoom

-- the greatest of twice `high`, `over` and `idle`
abbrev pub greatest_threshold : Config → ℕ
greatest_threshold config = max (2 * config.high) (max config.over config.idle)

-- no node is closed
abbrev pub NoneIsClosed : List Rec → Type 0
NoneIsClosed past = (n : ℕ) → is_node_closed past n ≡ false

-- nor, while no node is closed, above it by more than a whole
abbrev pub IsNearTheThresholds : Config → Ledger → List Rec → Type 0
IsNearTheThresholds config l past = NoneIsClosed past → (n : ℕ) → load_told past n ≤ 840 * (greatest_threshold config + 1)

abbrev pub LoadsStayNearTheThresholds : Type 0
LoadsStayNearTheThresholds = AtEveryMoment IsNearTheThresholds

-- how many connections have node n as their home: each from its first assignment to its release
abbrev pub connections_told : List Rec → ℕ → ℕ
connections_told J n = count_by (λ c. is_home_of_node (home_told J c) n) tally.connections

-- while no node is closed, no node has more of them than twice `high`
abbrev pub HasFewConnections : Config → Ledger → List Rec → Type 0
HasFewConnections config l past = NoneIsClosed past → (n : ℕ) → connections_told past n ≤ 2 * config.high

abbrev pub ConnectionsStayFew : Type 0
ConnectionsStayFew = AtEveryMoment HasFewConnections

-- and while no node has fewer than `low`, at least two have fewer than `high`
abbrev pub IsNotBusy : Config → Ledger → List Rec → Type 0
IsNotBusy config l past = ((n : ℕ) → 1 ≤ n → n ≤ config.nodes → config.low ≤ connections_told past n) → count_by (λ n. nat_le config.high (connections_told past n)) (tally.numbers config.nodes) + 2 ≤ config.nodes

abbrev pub NeverAllBusy : Type 0
NeverAllBusy = AtEveryMoment IsNotBusy
