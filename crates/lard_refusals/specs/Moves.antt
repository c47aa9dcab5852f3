-- Journals in which a connection moves as it may not, and in which an Offer or a Give carries what it should not.
use Rattle.std.specs.Prelude.{ℕ, List, [], ◌∷◌, None, Some, codes}
use Rattle.lard_base.specs.declared.event.Event.TheVariants as event
use Rattle.lard_law_view.specs.Prelude.{Client, EachStep, Front, Node, Rec, request, steps}
use Rattle.lard_law_connections.specs.Motion.{MustMove}
use Rattle.lard_law_connections.specs.Offers.{CarryTheEndpoint}
use Rattle.lard_journal.specs.declared.rec.Rec.TheVariants as rec
use Rattle.lard_refusals.specs.Packets.{client_acknowledgement, end_message, give_without_bytes, offer, offer_without_bytes, refused, syn}
use Rattle.lard_refusals.specs.Refusals.{Law, gave, took}

-- ---- motion

abbrev pub motion : Law
motion config files J = EachStep (MustMove config.nodes) [] (steps J)

-- The front end takes a connection, and no SYN came.
abbrev pub taken_without_a_syn : List Rec
taken_without_a_syn = rec.Event 1 (event.Timer Front 1) ∷ took Front 1 1 ∷ []

-- The front end gives a connection up for which no node was chosen.
abbrev pub given_to_no_node : List Rec
given_to_no_node = rec.Event 1 (event.Timer Front 1) ∷ gave Front 1 1 ∷ []

-- A node was chosen, and no Offer goes to it.
abbrev pub given_with_no_offer : List Rec
given_with_no_offer = rec.Event 1 (event.Timer Front 1) ∷ rec.AssignedFirst 1 1 (codes "/a") 1 (Some 1) None ∷ gave Front 1 1 ∷ []

-- A node takes a connection that was not offered to it.
abbrev pub taken_without_an_offer : List Rec
taken_without_an_offer = rec.Event 1 (event.Timer (Node 1) 1) ∷ took (Node 1) 1 2 ∷ []

-- An Offer comes again, and the node takes the connection again.
abbrev pub repeated_offer_adopted : List Rec
repeated_offer_adopted =
    rec.Event 1 (event.Timer Front 1) ∷ rec.Sent 1 Front (Node 1) offer ∷ rec.Event 2 (event.Deliver 1) ∷ rec.Got 1 ∷ took (Node 1) 1 2
    ∷ rec.Event 3 (event.Deliver 1) ∷ rec.Got 1 ∷ took (Node 1) 1 2 ∷ []

-- An Offer comes, and the node does not take the connection.
abbrev pub offer_passed_over : List Rec
offer_passed_over = rec.Event 1 (event.Timer Front 1) ∷ rec.Sent 1 Front (Node 1) offer ∷ rec.Event 2 (event.Deliver 1) ∷ rec.Got 1 ∷ []

-- A node gives a connection up, and tells nobody.
abbrev pub given_up_in_silence : List Rec
given_up_in_silence = rec.Event 1 (event.Timer (Node 1) 1) ∷ gave (Node 1) 1 2 ∷ []

-- The front end takes a connection again, and nothing came that brings it back.
abbrev pub taken_back_with_no_end : List Rec
taken_back_with_no_end =
    rec.Event 1 (event.Open 1 1000 5000 65535 1460) ∷ rec.Sent 1 (Client 1) Front syn ∷ rec.Event 2 (event.Deliver 1) ∷ rec.Got 1 ∷ took Front 1 1
    ∷ rec.Event 3 (event.Timer Front 1) ∷ took Front 1 3 ∷ []

-- The front end gives a connection up, of which then this message comes, and takes it again in this epoch.
abbrev pub back_by : List ℕ → ℕ → List Rec
back_by bytes epoch =
    rec.Event 1 (event.Open 1 1000 5000 65535 1460) ∷ rec.Sent 1 (Client 1) Front syn ∷ rec.Event 2 (event.Deliver 1) ∷ rec.Got 1 ∷ took Front 1 1
    ∷ rec.Event 3 (event.Timer Front 1) ∷ rec.AssignedFirst 1 1 (codes "/a") 1 (Some 1) None ∷ gave Front 1 1 ∷ rec.Sent 2 Front (Node 1) offer
    ∷ rec.Event 4 (event.Timer (Node 1) 1) ∷ rec.Sent 3 (Node 1) Front bytes ∷ rec.Event 5 (event.Deliver 3) ∷ rec.Got 3 ∷ took Front 1 epoch ∷ []

-- A node refuses a connection, and the front end takes it again in another epoch than the next one.
abbrev pub taken_back_late : List Rec
taken_back_late = back_by refused 4

-- An Ended comes of a connection that no node took, and the front end takes it again, two epochs behind that in which it gave it up.
abbrev pub epoch_passed_over : List Rec
epoch_passed_over = back_by end_message 3

-- A segment of the client comes while the connection is away, and is not forwarded.
abbrev pub segment_not_forwarded : List Rec
segment_not_forwarded =
    rec.Event 1 (event.Timer Front 1) ∷ rec.AssignedFirst 1 1 (codes "/a") 1 (Some 1) None ∷ gave Front 1 1 ∷ rec.Sent 1 Front (Node 1) offer
    ∷ rec.Event 2 (event.Timer (Client 1) 1) ∷ rec.Sent 2 (Client 1) Front client_acknowledgement ∷ rec.Event 3 (event.Deliver 2) ∷ rec.Got 2 ∷ []

-- ---- Offers and Gives

abbrev pub offers : Law
offers config files J = CarryTheEndpoint files J

-- An Offer tells the first numbers of a connection that nobody opened.
abbrev pub offer_of_nobody : List Rec
offer_of_nobody = rec.Sent 1 Front (Node 1) offer ∷ []

-- A client wrote a request, which came and was not read, and the Offer carries none of its bytes.
abbrev pub unread_bytes_left_behind : List Rec
unread_bytes_left_behind = rec.Opened 1 1000 5000 65535 1460 ∷ rec.Wrote 1 (request (codes "/a")) ∷ rec.Sent 1 Front (Node 1) offer_without_bytes ∷ []

-- So does the Give of a node.
abbrev pub unread_bytes_not_given_back : List Rec
unread_bytes_not_given_back = rec.Opened 1 1000 5000 65535 1460 ∷ rec.Wrote 1 (request (codes "/a")) ∷ rec.Sent 1 (Node 1) Front give_without_bytes ∷ []
