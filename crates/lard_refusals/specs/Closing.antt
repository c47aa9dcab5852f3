-- Journals that break the laws of when a node is closed, and that some node stays open.
use Rattle.std.specs.Prelude.{ℕ, List, [], ◌∷◌}
use Rattle.lard_base.specs.declared.event.Event.TheVariants as event
use Rattle.lard_laws.specs.Lawful.{Throughout}
use Rattle.lard_law_connections.specs.Closings.{MustClose, SomeStays}
use Rattle.lard_law_view.specs.Prelude.{EachStep, Front, Node, Rec, steps}
use Rattle.lard_journal.specs.declared.rec.Rec.TheVariants as rec
use Rattle.lard_refusals.specs.Packets.{end_message, refused}
use Rattle.lard_refusals.specs.Refusals.{Law, took}

-- ---- when a node is closed

abbrev pub closings : Law
closings config files J = EachStep MustClose [] (steps J)

-- An open node is to be closed, and it is not.
abbrev pub drained_and_not_closed : List Rec
drained_and_not_closed = rec.Event 1 (event.Drain 1) ∷ []

-- Another node is closed than that which is named.
abbrev pub another_is_closed : List Rec
another_is_closed = rec.Event 1 (event.Drain 1) ∷ rec.Closed 2 ∷ []

-- A node is closed that nobody named.
abbrev pub closed_by_itself : List Rec
closed_by_itself = rec.Event 1 (event.Timer Front 1) ∷ rec.Closed 1 ∷ []

-- A node is closed twice in one step.
abbrev pub closed_twice : List Rec
closed_twice = rec.Event 1 (event.Drain 1) ∷ rec.Closed 1 ∷ rec.Closed 1 ∷ []

-- A node that is closed is named again, and closed again.
abbrev pub closed_again : List Rec
closed_again = rec.Event 1 (event.Drain 1) ∷ rec.Closed 1 ∷ rec.Event 2 (event.Drain 1) ∷ rec.Closed 1 ∷ []

-- A message of a node comes, and behind it stand these records.
abbrev pub behind_message : List ℕ → List Rec → List Rec
behind_message bytes rows = rec.Event 1 (event.Timer (Node 1) 1) ∷ rec.Sent 1 (Node 1) Front bytes ∷ rec.Event 2 (event.Deliver 1) ∷ rec.Got 1 ∷ rows

-- A connection comes back from a node, which stays open.
abbrev pub back_and_left_open : List Rec
back_and_left_open = behind_message refused (took Front 1 3 ∷ rec.Released 1 ∷ [])

-- It comes back from node 1, and node 2 is closed.
abbrev pub back_and_another_is_closed : List Rec
back_and_another_is_closed = behind_message refused (took Front 1 3 ∷ rec.Closed 2 ∷ rec.Released 1 ∷ [])

-- A node refuses a connection that the front end does not take back, and is closed.
abbrev pub closed_with_nothing_back : List Rec
closed_with_nothing_back = behind_message refused (rec.Closed 1 ∷ [])

-- A connection ended at a node, which is closed.
abbrev pub closed_by_an_end : List Rec
closed_by_an_end = behind_message end_message (took Front 1 3 ∷ rec.Closed 1 ∷ rec.Released 1 ∷ [])

-- A connection comes back from a node, which is closed.
abbrev pub closed_as_it_is_back : List Rec
closed_as_it_is_back = behind_message refused (took Front 1 3 ∷ rec.Closed 1 ∷ rec.Released 1 ∷ [])

-- It is closed once.
abbrev pub closed_once : List Rec
closed_once = rec.Event 1 (event.Drain 1) ∷ rec.Closed 1 ∷ rec.Event 2 (event.Drain 1) ∷ []

-- ---- that some node stays

abbrev pub some_stays : Law
some_stays config files J = Throughout (SomeStays config) config J

-- All three nodes are closed.
abbrev pub all_are_closed : List Rec
all_are_closed = rec.Closed 1 ∷ rec.Closed 2 ∷ rec.Closed 3 ∷ []

-- The third stays.
abbrev pub third_stays : List Rec
third_stays = rec.Closed 1 ∷ rec.Closed 2 ∷ []
