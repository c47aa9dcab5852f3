-- Journals that break the laws of Asks and Tags, and of the order and the ways of later requests.
use Rattle.std.specs.Prelude.{ℕ, List, [], ◌∷◌, ◌++◌, None, Some, codes}
use Rattle.lard_base.specs.declared.event.Event.TheVariants as event
use Rattle.lard_law_view.specs.Prelude.{Client, EachStep, Front, Node, Rec, request, steps}
use Rattle.lard_base.specs.declared.place.Via.TheVariants as via
use Rattle.lard_laws.specs.AsksAnswers.{MustAnswer, MustEnd}
use Rattle.lard_laws.specs.AsksSent.{MustAsk}
use Rattle.lard_laws.specs.Sizes.{MustSize}
use Rattle.lard_laws.specs.Ways.{AreAssignedInOrder, AssignsAPrefix, ComeAsAssigned, NamesTheNext}
use Rattle.lard_journal.specs.declared.rec.Rec.TheVariants as rec
use Rattle.lard_refusals.specs.Packets.{acknowledges_two_requests, ask_with_a_queue, first_ask, second_ask, tag}
use Rattle.lard_refusals.specs.Refusals.{Law, gave, took}

-- ---- Asks

abbrev pub asks : Law
asks config files J = EachStep MustAsk [] (steps J)

-- A job is queued behind the Ask that tells how many there are.
abbrev pub job_behind_the_ask : List Rec
job_behind_the_ask = rec.Event 1 (event.Timer (Node 1) 1) ∷ rec.Sent 1 (Node 1) Front first_ask ∷ rec.Queued 1 1 1 1 (codes "/a") ∷ []

-- An Ask tells three jobs, and none waits.
abbrev pub queue_overstated : List Rec
queue_overstated = rec.Event 1 (event.Timer (Node 1) 1) ∷ rec.Sent 1 (Node 1) Front ask_with_a_queue ∷ []

-- The first Ask has the number 2.
abbrev pub asks_from_two : List Rec
asks_from_two = rec.Event 1 (event.Timer (Node 1) 1) ∷ rec.Sent 1 (Node 1) Front second_ask ∷ []

-- ---- what answers them

abbrev pub tags : Law
tags config files J = EachStep MustAnswer [] (steps J)

-- a later assignment of request r of connection 1 to node 1, for /a, in a batch of one where no job waits
abbrev pub later : ℕ → Rec
later r = rec.AssignedLater 1 r (codes "/a") 1 None 1 0

-- A later request is assigned, and no Ask came.
abbrev pub assigned_without_an_ask : List Rec
assigned_without_an_ask = rec.Event 1 (event.Timer Front 1) ∷ later 2 ∷ []

-- The connection went to node 1, which asks; the Ask is answered, comes again, and opens shares again.
abbrev pub repeated_ask_assigns_again : List Rec
repeated_ask_assigns_again =
    rec.Event 1 (event.Timer Front 1) ∷ rec.AssignedFirst 1 1 (codes "/a") 1 (Some 1) None ∷ gave Front 1 1
    ∷ rec.Event 2 (event.Timer (Node 1) 1) ∷ rec.Sent 1 (Node 1) Front first_ask
    ∷ rec.Event 3 (event.Deliver 1) ∷ rec.Got 1 ∷ later 2 ∷ rec.Sent 2 Front (Node 1) tag
    ∷ rec.Event 4 (event.Deliver 1) ∷ rec.Got 1 ∷ later 3 ∷ rec.Sent 3 Front (Node 1) tag ∷ []

-- The Ask comes, and nothing is assigned.
abbrev pub ask_passed_over : List Rec
ask_passed_over =
    rec.Event 1 (event.Timer Front 1) ∷ rec.AssignedFirst 1 1 (codes "/a") 1 (Some 1) None ∷ gave Front 1 1
    ∷ rec.Event 2 (event.Timer (Node 1) 1) ∷ rec.Sent 1 (Node 1) Front first_ask ∷ rec.Event 3 (event.Deliver 1) ∷ rec.Got 1 ∷ []

-- A Tag goes out, and no Ask came.
abbrev pub tag_without_an_ask : List Rec
tag_without_an_ask = rec.Event 1 (event.Timer Front 1) ∷ rec.Sent 1 Front (Node 1) tag ∷ []

abbrev pub batch_ends : Law
batch_ends config files J = EachStep (MustEnd config) [] (steps J)

-- A batch is over, and no later request is assigned.
abbrev pub batch_over_by_itself : List Rec
batch_over_by_itself = rec.Event 1 (event.Timer Front 1) ∷ rec.BatchOver 1 ∷ []

-- A batch is over of which no share was open.
abbrev pub batch_over_without_shares : List Rec
batch_over_without_shares = rec.Event 1 (event.Timer Front 1) ∷ rec.BatchOver 1 ∷ later 2 ∷ []

abbrev pub sizes : Law
sizes config files J = EachStep (MustSize files) [] (steps J)

-- A node asks for a request, and its client wrote none.
abbrev pub asks_for_nothing : List Rec
asks_for_nothing = rec.Event 1 (event.Timer (Node 1) 1) ∷ rec.Sent 1 (Node 1) Front first_ask ∷ []

-- Of two requests node 1 answers the first, and gives the connection up.
abbrev pub answers_the_first : List Rec
answers_the_first =
    rec.Event 1 (event.Timer (Node 1) 1) ∷ rec.Opened 1 1000 5000 65535 1460 ∷ rec.Wrote 1 (request (codes "/a") ++ request (codes "/a")) ∷ took (Node 1) 1 2
    ∷ rec.Served (Node 1) 1 1 200 40 via.Cache ∷ rec.Sent 1 (Node 1) (Client 1) acknowledges_two_requests ∷ gave (Node 1) 1 2 ∷ []

-- Node 2 takes it then, and asks for the request that was assigned with it.
abbrev pub asks_for_what_came_with_it : List Rec
asks_for_what_came_with_it = answers_the_first ++ rec.Event 2 (event.Timer (Node 2) 1) ∷ took (Node 2) 1 4 ∷ rec.Sent 2 (Node 2) Front first_ask ∷ []

-- ---- the order of assignments

abbrev pub requests : Law
requests config files J = AreAssignedInOrder files J

-- A request is assigned before it is written.
abbrev pub assigned_before_it_is_written : List Rec
assigned_before_it_is_written = rec.AssignedFirst 1 1 (codes "/a") 1 (Some 1) None ∷ []

-- Its request is assigned a second time.
abbrev pub assigned_twice : List Rec
assigned_twice =
    rec.Wrote 1 (request (codes "/a")) ∷ rec.AssignedFirst 1 1 (codes "/a") 1 (Some 1) None ∷ rec.AssignedFirst 1 1 (codes "/a") 2 (Some 2) None ∷ []

-- The first node did not take the connection, and the front end has it again: so that assignment is void.
abbrev pub assigned_again : List Rec
assigned_again =
    rec.Wrote 1 (request (codes "/a")) ∷ rec.AssignedFirst 1 1 (codes "/a") 1 (Some 1) None ∷ took Front 1 3
    ∷ rec.AssignedFirst 1 1 (codes "/a") 2 (Some 2) None ∷ []

-- The first node took it, and the front end has it again: that assignment counts.
abbrev pub assigned_again_behind_a_stay : List Rec
assigned_again_behind_a_stay =
    rec.Wrote 1 (request (codes "/a")) ∷ rec.AssignedFirst 1 1 (codes "/a") 1 (Some 1) None ∷ took (Node 1) 1 2 ∷ took Front 1 3
    ∷ rec.AssignedFirst 1 1 (codes "/a") 2 (Some 2) None ∷ []

-- Another file is assigned than the client asked for.
abbrev pub another_path_assigned : List Rec
another_path_assigned = rec.Wrote 1 (request (codes "/a")) ∷ rec.AssignedFirst 1 1 (codes "/b") 1 (Some 1) None ∷ []

-- That one is.
abbrev pub its_path_assigned : List Rec
its_path_assigned = rec.Wrote 1 (request (codes "/a")) ∷ rec.AssignedFirst 1 1 (codes "/a") 1 (Some 1) None ∷ []

abbrev pub paths : Law
paths config files J = AssignsAPrefix files J

abbrev pub names_next : Law
names_next config files J = NamesTheNext files J

-- A node asks for the request that was assigned with the connection.
abbrev pub asks_for_the_first_again : List Rec
asks_for_the_first_again =
    rec.Wrote 1 (request (codes "/a")) ∷ rec.AssignedFirst 1 1 (codes "/a") 1 (Some 1) None ∷ rec.Sent 1 (Node 1) Front first_ask ∷ []

-- It asks for one that was not assigned.
abbrev pub asks_for_what_is_next : List Rec
asks_for_what_is_next = rec.Wrote 1 (request (codes "/a")) ∷ rec.Sent 1 (Node 1) Front first_ask ∷ []

-- ---- the way of a content

abbrev pub ways : Law
ways config files J = ComeAsAssigned files J

-- A response stands where no request is left.
abbrev pub answered_and_not_asked : List Rec
answered_and_not_asked = rec.Served Front 1 1 400 66 via.Own ∷ []

-- A file is served that was assigned to no node.
abbrev pub served_and_not_assigned : List Rec
served_and_not_assigned = rec.Wrote 1 (request (codes "/a")) ∷ rec.Served (Node 1) 1 1 200 40 via.Cache ∷ []

-- A request was assigned to node 2, and node 1 answers it.
abbrev pub served_by_another_node : List Rec
served_by_another_node =
    rec.Wrote 1 (request (codes "/a")) ∷ rec.AssignedFirst 1 1 (codes "/a") 2 (Some 2) None ∷ rec.Served (Node 1) 1 1 200 40 via.Cache ∷ []

-- Node 2 does.
abbrev pub served_by_its_node : List Rec
served_by_its_node =
    rec.Wrote 1 (request (codes "/a")) ∷ rec.AssignedFirst 1 1 (codes "/a") 2 (Some 2) None ∷ rec.Served (Node 2) 1 1 200 40 via.Cache ∷ []

-- A request was assigned to node 1, then to node 2, and node 1 answers it.
abbrev pub served_by_the_node_before : List Rec
served_by_the_node_before = assigned_again ++ rec.Served (Node 1) 1 1 200 40 via.Cache ∷ []

-- Node 2 does.
abbrev pub served_by_the_node_after : List Rec
served_by_the_node_after = assigned_again ++ rec.Served (Node 2) 1 1 200 40 via.Cache ∷ []
