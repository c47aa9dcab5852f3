-- Journals that break the laws of the choice of nodes, and of the loads that it counts.
use Rattle.std.specs.Prelude.{ℕ, List, [], ◌∷◌, None, Some, codes}
use Rattle.lard_base.specs.declared.event.Event.TheVariants as event
use Rattle.lard_laws.specs.Lawful.{EachCounted, Throughout}
use Rattle.lard_law_connections.specs.LineLaws.{HasFewConnections, IsNearTheThresholds, IsNotBusy, IsWithinTheRoom}
use Rattle.lard_law_connections.specs.PolicyLaws.{AreLoadsCharged, AreServersTold, MayAssign, MayShare, last_record}
use Rattle.lard_counts.specs.Ledger.{ledger}
use Rattle.lard_law_view.specs.Prelude.{EachMay, Rec}
use Rattle.lard_journal.specs.declared.rec.Rec.TheVariants as rec
use Rattle.lard_refusals.specs.Refusals.{Law}

-- ---- short words

-- connection c is assigned to node n first, for /a, and node n joins the set of that path, or nobody does
abbrev pub first_joining : ℕ → ℕ → Rec
first_joining c n = rec.AssignedFirst c 1 (codes "/a") n (Some n) None

abbrev pub first_at : ℕ → ℕ → Rec
first_at c n = rec.AssignedFirst c 1 (codes "/a") n None None

-- request r of connection 1, for /a, is assigned to node n, in a batch of two, where no job waits
abbrev pub later_at : ℕ → ℕ → Rec
later_at r n = rec.AssignedLater 1 r (codes "/a") n None 2 0

-- ---- choices

abbrev pub choices : Law
choices config files J = EachCounted MayAssign config J

-- Of three nodes without load the highest number is chosen.
abbrev pub tie_to_the_highest : List Rec
tie_to_the_highest = first_joining 1 3 ∷ []

-- The lowest has to be.
abbrev pub tie_to_the_lowest : List Rec
tie_to_the_lowest = first_joining 1 1 ∷ []

-- A node whose load is at `high` is left, as if it were above that.
abbrev pub threshold_at_high : List Rec
threshold_at_high = first_joining 1 1 ∷ first_joining 2 2 ∷ []

-- It is not left at `high`.
abbrev pub threshold_above_high : List Rec
threshold_above_high = first_joining 1 1 ∷ first_at 2 1 ∷ []

-- A node is chosen that is no member of the set and does not join it.
abbrev pub chosen_and_not_joined : List Rec
chosen_and_not_joined = first_at 1 1 ∷ []

-- Another node joins the set than that which is chosen.
abbrev pub another_joins : List Rec
another_joins = rec.AssignedFirst 1 1 (codes "/a") 1 (Some 2) None ∷ []

-- A connection that has a node is assigned first again.
abbrev pub assigned_first_twice : List Rec
assigned_first_twice = first_joining 1 1 ∷ first_at 1 1 ∷ []

-- A later request leaves the connection's node, whose disk has no queue.
abbrev pub leaves_a_short_queue : List Rec
leaves_a_short_queue = first_joining 1 1 ∷ later_at 2 2 ∷ []

-- It stays.
abbrev pub stays_at_a_short_queue : List Rec
stays_at_a_short_queue = first_joining 1 1 ∷ later_at 2 1 ∷ []

-- It is of a batch of nine requests.
abbrev pub batch_of_nine : List Rec
batch_of_nine = first_joining 1 1 ∷ rec.AssignedLater 1 2 (codes "/a") 1 None 9 0 ∷ []

-- A later request is assigned while eight shares of its connection are open.
abbrev pub ninth_share : List Rec
ninth_share =
    first_joining 1 1 ∷ later_at 2 2 ∷ later_at 3 2 ∷ later_at 4 2 ∷ later_at 5 2 ∷ later_at 6 2 ∷ later_at 7 2 ∷ later_at 8 2 ∷ later_at 9 2 ∷ later_at 10 1 ∷ []

-- A later request is assigned for a connection that has no node.
abbrev pub later_without_a_node : List Rec
later_without_a_node = later_at 2 1 ∷ []

-- Of three nodes without load the lowest is chosen, which is closed.
abbrev pub closed_node_is_chosen : List Rec
closed_node_is_chosen = rec.Closed 1 ∷ first_joining 1 1 ∷ []

-- The next one is.
abbrev pub next_node_is_chosen : List Rec
next_node_is_chosen = rec.Closed 1 ∷ first_joining 1 2 ∷ []

-- A node is chosen that served the path until it was closed.
abbrev pub closed_server_is_chosen : List Rec
closed_server_is_chosen = first_joining 1 1 ∷ rec.Closed 1 ∷ first_at 2 1 ∷ []

-- A later request stays at the connection's node, which is closed, and joins the set again.
abbrev pub closed_home_joins : List Rec
closed_home_joins = first_joining 1 1 ∷ rec.Closed 1 ∷ rec.AssignedLater 1 2 (codes "/a") 1 (Some 1) 2 0 ∷ []

-- It stays, and nobody joins.
abbrev pub stays_at_a_closed_home : List Rec
stays_at_a_closed_home = first_joining 1 1 ∷ rec.Closed 1 ∷ later_at 2 1 ∷ []

-- A node is closed that there is not.
abbrev pub fourth_of_three_is_closed : List Rec
fourth_of_three_is_closed = rec.Closed 4 ∷ []

-- A node is closed that was closed before.
abbrev pub closed_once_more : List Rec
closed_once_more = rec.Closed 1 ∷ rec.Closed 1 ∷ []

-- The last open node is closed.
abbrev pub last_node_is_closed : List Rec
last_node_is_closed = rec.Closed 1 ∷ rec.Closed 2 ∷ rec.Closed 3 ∷ []

abbrev pub batches : Law
batches config files J = EachMay (λ past r. MayShare (last_record past) (ledger config past) r) [] J

-- A batch is begun while a share of the one before is open.
abbrev pub two_batches_open : List Rec
two_batches_open = first_joining 1 1 ∷ later_at 2 2 ∷ rec.Event 1 (event.Shut 2) ∷ later_at 3 2 ∷ []

-- A share is added to the batch.
abbrev pub one_batch_open : List Rec
one_batch_open = first_joining 1 1 ∷ later_at 2 2 ∷ later_at 3 2 ∷ []

-- ---- loads and sets

abbrev pub loads : Law
loads config files J = Throughout (AreLoadsCharged config) config J

-- A share is charged for a connection that has no node, so that what is charged is more than what nodes bear.
abbrev pub share_of_nobody : List Rec
share_of_nobody = later_at 2 2 ∷ []

abbrev pub servers : Law
servers config files J = Throughout AreServersTold config J

-- A node without a number joins a set, and would be taken for node 1.
abbrev pub joined_without_a_number : List Rec
joined_without_a_number = first_joining 1 0 ∷ []

-- ---- how many

abbrev pub most_by_room : Law
most_by_room config files J = Throughout (IsWithinTheRoom config) config J

-- One node bears three connections, where there is room for two, and `high` is one.
abbrev pub three_at_one_node : List Rec
three_at_one_node = first_joining 1 1 ∷ first_at 2 1 ∷ first_at 3 1 ∷ []

abbrev pub most_by_policy : Law
most_by_policy config files J = Throughout (IsNearTheThresholds config) config J

-- One node bears four, and the greatest threshold is two.
abbrev pub four_at_one_node : List Rec
four_at_one_node = first_joining 1 1 ∷ first_at 2 1 ∷ first_at 3 1 ∷ first_at 4 1 ∷ []

-- The other two are closed, so that it has to.
abbrev pub four_at_the_last_open_node : List Rec
four_at_the_last_open_node = rec.Closed 2 ∷ rec.Closed 3 ∷ four_at_one_node

abbrev pub few : Law
few config files J = Throughout (HasFewConnections config) config J

-- The other two nodes are closed, and one has three connections.
abbrev pub three_at_the_last_open_node : List Rec
three_at_the_last_open_node = rec.Closed 2 ∷ rec.Closed 3 ∷ three_at_one_node

abbrev pub never_all_busy : Law
never_all_busy config files J = Throughout (IsNotBusy config) config J

-- Each of the three nodes has a connection, and so has `high` of them.
abbrev pub one_at_each_node : List Rec
one_at_each_node = first_joining 1 1 ∷ first_joining 2 2 ∷ first_joining 3 3 ∷ []
