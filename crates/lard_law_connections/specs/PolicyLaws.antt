-- Which records of admission and of assignments may stand where.
use Rattle.std.specs.Prelude.{◌≡◌, ◌⊎◌, ℕ, ◌≤◌, ◌<◌, true, false, not, nat_lt, is_some, List, [], ◌∷◌, ◌++◌, length, map, Option, Some, None, Ok}
use Rattle.std.specs.List.{AllByRecursion, filter, fold}
use Rattle.lard_law_view.specs.Prelude.{Config, EachMay, Event, FirstChoice, Front, Has, HasRule, IsReached, LaterChoice, Machine, Rec, Waiting, config_check, first_choice, has, home, is_node_closed, later_choice, machine_step, numbers, open_shares, room_of, time_of}
use Rattle.lard_counts.specs.Ledger.{Ledger, ledger_admitted, is_in_ledger, ledger, server_set}
use Rattle.lard_journal.specs.declared.rec.Rec.TheVariants as rec
use Rattle.lard_law_connections.specs.PolicyLine.{IsSublist, waiting}
use Rattle.lard_law_connections.specs.PolicyLoads.{load_told}
use Rattle.lard_law_connections.specs.PolicyServers.{last_mod, serves}
use Rattle.lard_history.specs.Journal as history
use Rattle.lard_loads.specs.Tally as tally

-- ---- admission

-- A connection is to wait only where as many are admitted as there is room for. One is admitted only where there is room, and it
-- is not; one is released only where it is.
abbrev pub MayAdmit : Config → Ledger → Rec → Type 0
MayAdmit cfg l (rec.Waits c) = ledger_admitted l ≡ room_of cfg
MayAdmit cfg l (rec.Admitted c) = (ledger_admitted l < room_of cfg) × (is_in_ledger l c ≡ false)
MayAdmit cfg l (rec.Released c) = is_in_ledger l c ≡ true
MayAdmit cfg l _ = Unit {0}

-- what is due directly behind a record: nothing, the first assignment of a connection, or a later one
pub data AssignmentDue : Type 0 where
  Nothing : AssignmentDue
  First : ℕ → AssignmentDue
  Later : ℕ → AssignmentDue

-- Directly behind each `admitted` stands the first assignment of its connection, and none stands elsewhere. Directly behind the end
-- of shares stands a later assignment of their connection.
abbrev pub ArePaired : AssignmentDue → List Rec → Type 0
ArePaired Nothing [] = Unit {0}
ArePaired (First c) [] = ⊥
ArePaired (Later c) [] = ⊥
ArePaired Nothing (rec.Admitted c ∷ rs) = ArePaired (First c) rs
ArePaired Nothing (rec.BatchOver c ∷ rs) = ArePaired (Later c) rs
ArePaired Nothing (rec.AssignedFirst c r path n add remove ∷ rs) = ⊥
ArePaired Nothing (_ ∷ rs) = ArePaired Nothing rs
ArePaired (First c) (rec.AssignedFirst d r path n add remove ∷ rs) = (d ≡ c) × ArePaired Nothing rs
ArePaired (First c) (_ ∷ rs) = ⊥
ArePaired (Later c) (rec.AssignedLater d r path n add size queue ∷ rs) = (d ≡ c) × ArePaired Nothing rs
ArePaired (Later c) (_ ∷ rs) = ⊥

-- ---- choices

-- The first choice is that of LARD with replication, for a connection that has no node, and a later one that of the extended
-- policy, for one that has: each at the loads and the server sets as they stand just before the record. The batch of a later one has
-- one to eight requests, and fewer than eight shares of the connection are open. A connection that is released has a node. Shares end
-- only where some are open. A node is closed only where it is open, and another one is.
abbrev pub MayAssign : Config → Ledger → Rec → Type 0
MayAssign cfg l (rec.AssignedFirst c r path n add remove) =
    (home l.loads c ≡ None)
    × (◌≡◌ {A = FirstChoice} (record { node = n; add = add; remove = remove }) (first_choice l.loads (server_set l path).members l.now (server_set l path).modified cfg))
MayAssign cfg l (rec.AssignedLater c r path n add size queue) =
    (h : ℕ) × (home l.loads c ≡ Some h) × (◌≡◌ {A = LaterChoice} (record { node = n; add = add }) (later_choice l.loads h (server_set l path).members queue cfg))
    × (1 ≤ size)
    × (size ≤ 8)
    × (open_shares l.loads c < 8)
MayAssign cfg l (rec.Released c) = is_some (home l.loads c) ≡ true
MayAssign cfg l (rec.BatchOver c) = nat_lt 0 (open_shares l.loads c) ≡ true
MayAssign cfg l (rec.Closed n) = (tally.is_open l.loads n ≡ true) × (tally.has_other_open l.loads n ≡ true)
MayAssign cfg l _ = Unit {0}

-- ---- what stands directly before

-- the record before is a later assignment of this connection
abbrev pub IsBehind : ℕ → Option Rec → Type 0
IsBehind c (Some (rec.AssignedLater d r path n add size queue)) = d ≡ c
IsBehind c _ = ⊥

-- A later assignment stands directly behind another one of its connection, in the same batch, or finds none of its shares open.
abbrev pub MayShare : Option Rec → Ledger → Rec → Type 0
MayShare before l (rec.AssignedLater c r path n add size queue) = IsBehind c before ⊎ (open_shares l.loads c ≡ 0)
MayShare before l _ = Unit {0}

-- the record before is that the front end took this connection
abbrev pub IsTaken : ℕ → Option Rec → Type 0
IsTaken c (Some (rec.Took Front d epoch)) = d ≡ c
IsTaken c _ = ⊥

-- A release stands behind the record that the front end took the connection; only that a node is closed stands between.
abbrev pub MayRelease : Option Rec → Rec → Type 0
MayRelease before (rec.Released c) = IsTaken c before
MayRelease before _ = Unit {0}

-- the last record, if there is one
abbrev pub last_record : List Rec → Option Rec
last_record J = fold (λ before r. Some r) None J

-- a record that closes a node leaves the one before it
abbrev pub but_closed_step : Option Rec → Rec → Option Rec
but_closed_step before (rec.Closed n) = before
but_closed_step before r = Some r

-- the last record that closes no node, if there is one
abbrev pub last_but_closed : List Rec → Option Rec
last_but_closed J = fold but_closed_step None J

-- ---- every run, with a configuration that may be used

-- each record may stand where it does, by what those before it say
abbrev pub Everywhere : (Config → Ledger → Rec → Type 0) → Type 0
Everywhere may = (config : Config) (files : List (List ℕ × List ℕ)) (m : Machine) → config_check config ≡ Ok tt → IsReached config files m
    → EachMay (λ past r. may config (ledger config past) r) [] m.journal

abbrev pub AdmitsByRoom : Type 0
AdmitsByRoom = Everywhere MayAdmit

abbrev pub AdmitsToANode : Type 0
AdmitsToANode = (config : Config) (files : List (List ℕ × List ℕ)) (m : Machine) → config_check config ≡ Ok tt → IsReached config files m → ArePaired Nothing m.journal

abbrev pub ReleasesWhatItTook : Type 0
ReleasesWhatItTook = (config : Config) (files : List (List ℕ × List ℕ)) (m : Machine) → config_check config ≡ Ok tt → IsReached config files m → EachMay (λ past r. MayRelease (last_but_closed past) r) [] m.journal

abbrev pub SharesOneBatch : Type 0
SharesOneBatch = (config : Config) (files : List (List ℕ × List ℕ)) (m : Machine) → config_check config ≡ Ok tt → IsReached config files m
    → EachMay (λ past r. MayShare (last_record past) (ledger config past) r) [] m.journal

-- The books of the front end are the ledger of the journal, and somebody waits only while as many are admitted as there is room for.
abbrev pub BooksAreTold : Type 0
BooksAreTold = (config : Config) (files : List (List ℕ × List ℕ)) (m : Machine) → config_check config ≡ Ok tt → IsReached config files m
    → (m.front.dispatch.books.loads ≡ (ledger config m.journal).loads)
    × (m.front.dispatch.books.sets ≡ (ledger config m.journal).sets)
    × (tally.admitted m.front.dispatch.books.loads ≡ ledger_admitted (ledger config m.journal))
    × (0 < length m.front.dispatch.books.line → ledger_admitted (ledger config m.journal) ≡ room_of config)

-- The line of the front end stands among those who wait by the journal, in their order.
abbrev pub LineIsTold : Type 0
LineIsTold = (config : Config) (files : List (List ℕ × List ℕ)) (m : Machine) → config_check config ≡ Ok tt → IsReached config files m
    → IsSublist (map (λ w. w.c) m.front.dispatch.books.line) (waiting m.journal)

-- ---- steps

-- who is admitted while somebody waits is the first of the line
abbrev pub AdmitsFirst : List Waiting → Rec → Type 0
AdmitsFirst (w ∷ ws) (rec.Admitted c) = c ≡ w.c
AdmitsFirst _ _ = Unit {0}

-- and is admitted where another is released, in the same step, of these records
abbrev pub PassesOn : List Waiting → List Rec → Rec → Type 0
PassesOn (w ∷ ws) rs (rec.Released c) = Has (rec.Admitted w.c) rs
PassesOn _ rs _ = Unit {0}

-- In each step those who wait are admitted in the order of the line, and where one is released the first of them is.
abbrev pub AdmitsInOrder : Type 0
AdmitsInOrder = (config : Config) (files : List (List ℕ × List ℕ)) (m n : Machine) (e : Event) → config_check config ≡ Ok tt → IsReached config files m → HasRule e → machine_step m e ≡ Ok n
    → (rs : List Rec) × (n.journal ≡ m.journal ++ rs) × AllByRecursion (AdmitsFirst m.front.dispatch.books.line) rs × AllByRecursion (PassesOn m.front.dispatch.books.line rs) rs

-- P is so of the ledger and the journal at every moment.
abbrev pub AtEveryMoment : (Config → Ledger → List Rec → Type 0) → Type 0
AtEveryMoment P = (config : Config) (files : List (List ℕ × List ℕ)) (m : Machine) → config_check config ≡ Ok tt → IsReached config files m
    → (past later : List Rec) → m.journal ≡ past ++ later → P config (ledger config past) past

-- At no moment are more connections admitted than there is room for.
abbrev pub RoomIsNeverPassed : Type 0
RoomIsNeverPassed = AtEveryMoment (λ cfg l past. ledger_admitted l ≤ room_of cfg)

-- The ledger has each connection in, and at the node, as the journal tells of it alone.
abbrev pub StandingsAreTold : Type 0
StandingsAreTold = AtEveryMoment (λ cfg l past. (c : ℕ) → (is_in_ledger l c ≡ history.is_in past c) × (home l.loads c ≡ history.home_told past c))

-- The loads of the ledger are what the charges add up to, and its open nodes are those that were not closed.
abbrev pub AreLoadsCharged : Config → Ledger → List Rec → Type 0
AreLoadsCharged cfg l past =
    ((n : ℕ) → tally.load l.loads n ≡ load_told past n) × (l.loads.nodes ≡ cfg.nodes) × (l.loads.open_nodes ≡ filter (λ n. not (is_node_closed past n)) (numbers cfg.nodes))

abbrev pub LoadsAreAlwaysCharges : Type 0
LoadsAreAlwaysCharges = AtEveryMoment AreLoadsCharged

-- Its server sets have the nodes that the assignments of their paths took in and did not take out, and their dates; and its time
-- is the last that was told.
abbrev pub AreServersTold : Ledger → List Rec → Type 0
AreServersTold l past =
    ((path : List ℕ) (k : ℕ) → 1 ≤ k → has (server_set l path).members k ≡ serves past path k)
    × ((path : List ℕ) → (server_set l path).modified ≡ last_mod past path)
    × (l.now.0 ≡ time_of past)

abbrev pub ServersAreTold : Type 0
ServersAreTold = AtEveryMoment (λ cfg. AreServersTold)

abbrev pub AssignsAsStated : Type 0
AssignsAsStated = Everywhere MayAssign
