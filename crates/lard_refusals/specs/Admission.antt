-- Journals that break the laws of admission: of the room, of releases, and of the line.
use Rattle.std.specs.Prelude.{List, [], ◌∷◌, ◌≤◌, None, Some, codes}
use Rattle.lard_law_view.specs.Prelude.{AtEachEnd, EachMay, EachStep, Front, Node, Rec, room_of, steps}
use Rattle.lard_base.specs.declared.event.Event.TheVariants as event
use Rattle.lard_laws.specs.Lawful.{EachCounted, Throughout}
use Rattle.lard_law_connections.specs.LineLaws.{LineNeedsAFullRoom, MayPass, MayWait, MustRelease}
use Rattle.lard_law_connections.specs.PolicyLaws.{ArePaired, MayAdmit, MayRelease, Nothing, last_but_closed}
use Rattle.lard_counts.specs.Ledger.{ledger_admitted, ledger}
use Rattle.lard_journal.specs.declared.rec.Rec.TheVariants as rec
use Rattle.lard_refusals.specs.Refusals.{Law, took}

-- ---- who is admitted, and who waits

abbrev pub admission : Law
admission config files J = EachCounted MayAdmit config J

-- A connection is to wait although nobody is admitted.
abbrev pub waits_beside_free_room : List Rec
waits_beside_free_room = rec.Waits 1 ∷ []

-- There is room for two, and three are admitted.
abbrev pub one_too_many : List Rec
one_too_many = rec.Admitted 1 ∷ rec.Admitted 2 ∷ rec.Admitted 3 ∷ []

-- With two the third waits.
abbrev pub third_waits : List Rec
third_waits = rec.Admitted 1 ∷ rec.Admitted 2 ∷ rec.Waits 3 ∷ []

-- A connection is admitted twice.
abbrev pub admitted_twice : List Rec
admitted_twice = rec.Admitted 1 ∷ rec.Admitted 1 ∷ []

-- An Ended that comes again releases its connection again.
abbrev pub released_twice : List Rec
released_twice = rec.Admitted 1 ∷ took Front 1 3 ∷ rec.Released 1 ∷ took Front 1 3 ∷ rec.Released 1 ∷ []

-- It is released once.
abbrev pub released_once : List Rec
released_once = rec.Admitted 1 ∷ took Front 1 3 ∷ rec.Released 1 ∷ []

abbrev pub room : Law
room config files J = Throughout (λ l past. ledger_admitted l ≤ room_of config) config J

-- ---- that each gets a node

abbrev pub nodes : Law
nodes config files J = ArePaired Nothing J

-- A connection is admitted, and no node is chosen.
abbrev pub admitted_to_no_node : List Rec
admitted_to_no_node = rec.Admitted 1 ∷ rec.Event 1 (event.Shut 2) ∷ []

-- One is chosen.
abbrev pub admitted_to_a_node : List Rec
admitted_to_a_node = rec.Admitted 1 ∷ rec.AssignedFirst 1 1 (codes "/a") 1 (Some 1) None ∷ []

-- A node is chosen for a connection that is not admitted.
abbrev pub assigned_and_not_admitted : List Rec
assigned_and_not_admitted = rec.AssignedFirst 1 1 (codes "/a") 1 (Some 1) None ∷ []

-- A batch is over, and none is begun.
abbrev pub batch_over_for_nothing : List Rec
batch_over_for_nothing = rec.BatchOver 1 ∷ rec.Event 1 (event.Shut 2) ∷ []

-- ---- releases

abbrev pub releases : Law
releases config files J = EachMay (λ past r. MayRelease (last_but_closed past) r) [] J

-- A connection is released that the front end did not take.
abbrev pub released_where_it_is : List Rec
released_where_it_is = rec.Admitted 1 ∷ rec.Event 1 (event.Timer Front 1) ∷ rec.Released 1 ∷ []

-- The release of one connection stands behind the record of another.
abbrev pub another_is_released : List Rec
another_is_released = took Front 2 3 ∷ rec.Released 1 ∷ []

-- Another record than that a node is closed stands between.
abbrev pub another_waits_between : List Rec
another_waits_between = rec.Event 1 (event.Deliver 1) ∷ took Front 1 3 ∷ rec.Closed 1 ∷ rec.Waits 2 ∷ rec.Released 1 ∷ []

abbrev pub taken_back : Law
taken_back config files J = EachStep (MustRelease config) [] (steps J)

-- The front end takes a connection again, and does not release it.
abbrev pub taken_and_not_released : List Rec
taken_and_not_released = rec.Event 1 (event.Deliver 1) ∷ took Front 1 3 ∷ []

-- That a node is closed is no release.
abbrev pub taken_and_closed : List Rec
taken_and_closed = rec.Event 1 (event.Deliver 1) ∷ took Front 1 3 ∷ rec.Closed 1 ∷ []

-- It releases it.
abbrev pub taken_and_released : List Rec
taken_and_released = rec.Event 1 (event.Deliver 1) ∷ took Front 1 3 ∷ rec.Released 1 ∷ []

-- Only that a node is closed stands between.
abbrev pub taken_closed_and_released : List Rec
taken_closed_and_released = rec.Event 1 (event.Deliver 1) ∷ took Front 1 3 ∷ rec.Closed 1 ∷ rec.Released 1 ∷ []

-- ---- the line

abbrev pub joins : Law
joins config files J = EachMay (λ past r. MayWait (ledger config past) past r) [] J

-- A connection waits that the front end does not own.
abbrev pub stranger_waits : List Rec
stranger_waits = took (Node 1) 1 1 ∷ rec.Waits 1 ∷ []

-- One waits twice.
abbrev pub waits_twice : List Rec
waits_twice = took Front 1 1 ∷ rec.Waits 1 ∷ rec.Waits 1 ∷ []

-- One waits.
abbrev pub waits_once : List Rec
waits_once = took Front 1 1 ∷ rec.Waits 1 ∷ []

-- One waits that came back from a node.
abbrev pub waits_once_more : List Rec
waits_once_more = took Front 1 3 ∷ rec.Waits 1 ∷ []

-- One waits that the front end took in an epoch of a node.
abbrev pub waits_in_an_even_epoch : List Rec
waits_in_an_even_epoch = took Front 1 2 ∷ rec.Waits 1 ∷ []

abbrev pub line : Law
line config files J = AtEachEnd (LineNeedsAFullRoom config) J

-- At the end of a step somebody is in the line, and nobody is admitted.
abbrev pub line_before_an_empty_room : List Rec
line_before_an_empty_room = rec.Waits 1 ∷ rec.Event 1 (event.Shut 2) ∷ []

abbrev pub passes : Law
passes config files J = EachMay MayPass [] J

-- Who came second is admitted first.
abbrev pub second_passes_the_first : List Rec
second_passes_the_first = rec.Waits 1 ∷ rec.Waits 2 ∷ rec.Admitted 2 ∷ []

-- The first is.
abbrev pub first_passes : List Rec
first_passes = rec.Waits 1 ∷ rec.Waits 2 ∷ rec.Admitted 1 ∷ []

-- A connection is released, and the first of the line is not admitted.
abbrev pub nobody_follows : List Rec
nobody_follows = rec.Waits 1 ∷ rec.Released 2 ∷ rec.Event 1 (event.Shut 2) ∷ []
