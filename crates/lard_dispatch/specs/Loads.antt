-- What any number of calls leave of the loads.
use Rattle.std.specs.Prelude.{◌≡◌, ℕ, ◌+◌, ◌*◌, ◌≤◌, Bool, false, not, nat_eq, nat_le, if◌then◌else◌, List, [], ◌∷◌, ◌++◌, map, length, sum_by, count_by, Option, Some, None, Ok}
use Rattle.std.specs.List.{AllByRecursion}
use Rattle.lard_base.specs.Config.{config_check, room_of}
use Rattle.lard_base.specs.declared.config.Config.{Config}
use Rattle.lard_loads.specs.Charges.{Charge, Connect, IsConnection, Release, Share, BatchOver, charges_from, units_at}
use Rattle.lard_loads.specs.Charges.{LoadCall as Counted}
use Rattle.lard_loads.specs.Tally.{Tally, admitted, connections, home, load, numbers}
use Rattle.lard_policy.specs.declared.first.FirstChoice.{FirstChoice}
use Rattle.lard_costs.specs.declared.later.LaterChoice.{LaterChoice}
use Rattle.lard_dispatch.specs.declared.dispatch.Ask.{Ask}
use Rattle.lard_dispatch.specs.declared.dispatch.First.{First as Answer}
use Rattle.lard_dispatch.specs.declared.dispatch.First.TheVariants.{Go, Waits}
use Rattle.lard_dispatch.specs.Books.{Dispatcher, dispatch_begun}
use Rattle.lard_dispatch.specs.Calls.{ended_answer, first_answer, later_answer}
use Rattle.lard_dispatch.specs.Laws.{AreAllowed, Call, after_call, after_calls}
use Rattle.lard_dispatch.specs.Laws.Call.{First, Later, Ended, Leave, Close}

-- ---- the calls of the loads that are made

-- a connection with its first request is connected where it is admitted
abbrev pub first_counted : ℕ → Answer → List Counted
first_counted c Waits = []
first_counted c (Go choice) = Connect c choice.node ∷ []

-- so is the head of the line
abbrev pub next_counted : Option (ℕ × FirstChoice) → List Counted
next_counted None = []
next_counted (Some next) = Connect next.0 next.1.node ∷ []

-- each further request of a batch is shared
abbrev pub later_counted : Ask → List LaterChoice → List Counted
later_counted ask choices = map (λ choice. Share ask.c choice.node ask.size) choices

-- the calls of the loads that a call of the dispatcher makes, by what it answers
abbrev pub counted_calls : Dispatcher → Call → List Counted
counted_calls d (First c target now) = first_counted c (first_answer d target now)
counted_calls d (Later ask now) = BatchOver ask.c ∷ later_counted ask (later_answer d ask now).choices
counted_calls d (Ended c now) = Release c ∷ next_counted (ended_answer d c now)
counted_calls d (Leave c) = []
counted_calls d (Close n) = []

abbrev pub all_counted : Dispatcher → List Call → List Counted
all_counted d [] = []
all_counted d (call ∷ calls) = counted_calls d call ++ all_counted (after_call d call) calls

-- the charges that are open after these calls
abbrev pub open_charges : Config → List Call → List Charge
open_charges cfg calls = charges_from [] (all_counted (dispatch_begun cfg) calls)

-- the loads after these calls
abbrev pub loads_after : Config → List Call → Tally
loads_after cfg calls = (after_calls (dispatch_begun cfg) calls).books.loads

-- ---- premises

-- a call names a connection, and a batch has no more paths than requests
abbrev pub IsCallInRange : Call → Type 0
IsCallInRange (First c target now) = IsConnection c
IsCallInRange (Later ask now) = IsConnection ask.c × (length ask.paths ≤ ask.size)
IsCallInRange (Ended c now) = IsConnection c
IsCallInRange (Leave c) = Unit {0}
IsCallInRange (Close n) = Unit {0}

-- calls as they may be made with such a configuration
pub record MayBeMade (cfg : Config) (calls : List Call) : Type 0 where
  pub usable : config_check cfg ≡ Ok tt
  pub allowed : AreAllowed (dispatch_begun cfg) calls
  pub in_range : AllByRecursion IsCallInRange calls

-- no node is closed
abbrev pub ClosesNone : Call → Type 0
ClosesNone (First c target now) = Unit {0}
ClosesNone (Later ask now) = Unit {0}
ClosesNone (Ended c now) = Unit {0}
ClosesNone (Leave c) = Unit {0}
ClosesNone (Close n) = ⊥

-- ---- laws

-- A node's load is what the charges add up to that are open there, and as many connections are admitted as charges stand
-- that are no shares.
abbrev pub LoadsAreCharges : Type 0
LoadsAreCharges = (cfg : Config) (calls : List Call) → MayBeMade cfg calls
    → ((n : ℕ) → load (loads_after cfg calls) n ≡ sum_by (units_at n) (open_charges cfg calls))
    × (admitted (loads_after cfg calls) ≡ count_by (λ x. not x.share) (open_charges cfg calls))

-- what a charge counts as a share
abbrev pub share_units : Charge → ℕ
share_units x = if x.share then x.units else 0

-- All loads together are a whole for each admitted connection, and the units of the open shares.
abbrev pub LoadsAddUp : Type 0
LoadsAddUp = (cfg : Config) (calls : List Call) → MayBeMade cfg calls
    → sum_by (load (loads_after cfg calls)) (numbers cfg.nodes) ≡ 840 * admitted (loads_after cfg calls) + sum_by share_units (open_charges cfg calls)

-- The open shares of all connections together are at most a whole for each admitted connection.
abbrev pub SharesAreWithinWholes : Type 0
SharesAreWithinWholes = (cfg : Config) (calls : List Call) → MayBeMade cfg calls
    → sum_by share_units (open_charges cfg calls) ≤ 840 * admitted (loads_after cfg calls)

-- No node's load is above a whole for each admitted connection, nor above what there is room for.
abbrev pub NoLoadExceedsTheRoom : Type 0
NoLoadExceedsTheRoom = (cfg : Config) (calls : List Call) → MayBeMade cfg calls → (n : ℕ)
    → (load (loads_after cfg calls) n ≤ 840 * admitted (loads_after cfg calls)) × (load (loads_after cfg calls) n ≤ 840 * room_of cfg)

-- Where no node is closed, no load is above the greatest of 2 T_high, L_overload and L_idle by more than a whole.
abbrev pub NoLoadExceedsTheThresholds : Type 0
NoLoadExceedsTheThresholds = (cfg : Config) (calls : List Call) → MayBeMade cfg calls → AllByRecursion ClosesNone calls
    → (most : ℕ) → 2 * cfg.high ≤ most → cfg.over ≤ most → cfg.idle ≤ most → (n : ℕ) → load (loads_after cfg calls) n ≤ 840 * (most + 1)

-- ---- connections, without their shares

-- a home that is this node
abbrev pub is_home_of_node : Option ℕ → ℕ → Bool
is_home_of_node None n = false
is_home_of_node (Some h) n = nat_eq h n

-- how many connections are at a node: those whose home it is
abbrev pub connections_at : Tally → ℕ → ℕ
connections_at t n = count_by (λ c. is_home_of_node (home t c) n) connections

-- Where no node is closed, no node has more than 2 T_high connections.
abbrev pub NoNodeHasTooMany : Type 0
NoNodeHasTooMany = (cfg : Config) (calls : List Call) → MayBeMade cfg calls → AllByRecursion ClosesNone calls → (n : ℕ) → connections_at (loads_after cfg calls) n ≤ 2 * cfg.high

-- While no node has fewer than T_low connections, at most n - 2 nodes have T_high or more.
abbrev pub FewAreHighWhileNoneIsLow : Type 0
FewAreHighWhileNoneIsLow = (cfg : Config) (calls : List Call) → MayBeMade cfg calls
    → ((n : ℕ) → 1 ≤ n → n ≤ cfg.nodes → cfg.low ≤ connections_at (loads_after cfg calls) n)
    → count_by (λ n. nat_le cfg.high (connections_at (loads_after cfg calls) n)) (numbers cfg.nodes) + 2 ≤ cfg.nodes
