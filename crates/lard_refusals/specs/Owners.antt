-- Journals in which a connection has no owner or two, and in which another than its owner sends to the client.
use Rattle.std.specs.Prelude.{List, [], ◌∷◌}
use Rattle.lard_law_view.specs.Prelude.{Client, Front, IsOwnership, IsSoleSender, Node, Rec}
use Rattle.lard_journal.specs.declared.rec.Rec.TheVariants as rec
use Rattle.lard_refusals.specs.Packets.{acknowledgement}
use Rattle.lard_refusals.specs.Refusals.{Law, gave, took}

-- ---- ownership

abbrev pub ownership : Law
ownership config files J = IsOwnership J

-- A node takes a connection again by an Offer that it took before: its epoch is not above that.
abbrev pub adopted_twice : List Rec
adopted_twice = took (Node 1) 1 2 ∷ gave (Node 1) 1 2 ∷ took (Node 1) 1 2 ∷ []

-- By a new Offer it may.
abbrev pub adopted_by_a_new_offer : List Rec
adopted_by_a_new_offer = took (Node 1) 1 2 ∷ gave (Node 1) 1 2 ∷ took (Node 1) 1 4 ∷ []

-- A node gives up what the front end owns.
abbrev pub given_by_another : List Rec
given_by_another = took Front 1 1 ∷ gave (Node 1) 1 1 ∷ []

-- A connection is given up in another epoch than it was taken in.
abbrev pub given_in_another_epoch : List Rec
given_in_another_epoch = took Front 1 1 ∷ gave Front 1 2 ∷ []

-- A connection is given up twice.
abbrev pub given_twice : List Rec
given_twice = took Front 1 1 ∷ gave Front 1 1 ∷ gave Front 1 1 ∷ []

-- Its owner gives it up in its epoch.
abbrev pub given_by_its_owner : List Rec
given_by_its_owner = took Front 1 1 ∷ gave Front 1 1 ∷ []

-- ---- who sends

abbrev pub sole_sender : Law
sole_sender config files J = IsSoleSender J

-- A node takes a connection that the front end still owns.
abbrev pub owned_by_two : List Rec
owned_by_two = took Front 1 1 ∷ took (Node 1) 1 2 ∷ []

-- The front end acknowledges what came behind the moment at which it gave the connection up.
abbrev pub acknowledged_after_the_freeze : List Rec
acknowledged_after_the_freeze = took Front 1 1 ∷ gave Front 1 1 ∷ rec.Sent 1 Front (Client 1) acknowledgement ∷ []

-- Before that moment it may.
abbrev pub acknowledged_before_the_freeze : List Rec
acknowledged_before_the_freeze = took Front 1 1 ∷ rec.Sent 1 Front (Client 1) acknowledgement ∷ gave Front 1 1 ∷ []

-- A node speaks to the client of a connection that the front end owns.
abbrev pub another_speaks : List Rec
another_speaks = took Front 1 1 ∷ rec.Sent 1 (Node 1) (Client 1) acknowledgement ∷ []

-- The front end speaks to the client of another connection than it owns.
abbrev pub spoken_to_another : List Rec
spoken_to_another = took Front 1 1 ∷ rec.Sent 1 Front (Client 2) acknowledgement ∷ []
