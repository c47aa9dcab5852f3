-- Journals that break the laws of the network, of the places that act, and of the clock.
use Rattle.std.specs.Prelude.{List, [], ◌∷◌, codes}
use Rattle.lard_base.specs.declared.event.Event.TheVariants as event
use Rattle.lard_law_view.specs.Prelude.{ActsInPlace, Client, EachMay, Front, IsNetwork, KeepsTime, Node, Rec}
use Rattle.lard_laws.specs.RecordsMessages.{MayBeThere}
use Rattle.lard_journal.specs.declared.rec.Rec.TheVariants as rec
use Rattle.lard_refusals.specs.Packets.{syn}
use Rattle.lard_refusals.specs.Refusals.{Law, took}

-- ---- the network

abbrev pub network : Law
network config files J = IsNetwork J

-- The first packet has the number 2.
abbrev pub numbered_from_two : List Rec
numbered_from_two = rec.Sent 2 (Client 1) Front syn ∷ []

-- A packet comes that nobody sent.
abbrev pub got_and_never_sent : List Rec
got_and_never_sent = rec.Event 1 (event.Deliver 1) ∷ rec.Got 1 ∷ []

-- A packet comes that was lost.
abbrev pub got_though_lost : List Rec
got_though_lost = rec.Sent 1 (Client 1) Front syn ∷ rec.Lost 1 ∷ rec.Event 1 (event.Deliver 1) ∷ rec.Got 1 ∷ []

-- A packet to the front end comes in a step of its client.
abbrev pub got_elsewhere : List Rec
got_elsewhere = rec.Sent 1 (Client 1) Front syn ∷ rec.Event 1 (event.Shut 1) ∷ rec.Got 1 ∷ []

-- A packet is lost twice.
abbrev pub lost_twice : List Rec
lost_twice = rec.Sent 1 (Client 1) Front syn ∷ rec.Lost 1 ∷ rec.Lost 1 ∷ []

-- A packet comes to its place.
abbrev pub sent_and_got : List Rec
sent_and_got = rec.Sent 1 (Client 1) Front syn ∷ rec.Event 1 (event.Deliver 1) ∷ rec.Got 1 ∷ []

-- ---- places

abbrev pub places : Law
places config files J = ActsInPlace J

-- The front end takes a connection in a step in which its client acts.
abbrev pub acts_in_the_step_of_another : List Rec
acts_in_the_step_of_another = rec.Event 1 (event.Shut 1) ∷ took Front 1 1 ∷ []

-- A node sends in a step of the clock, in which nobody acts.
abbrev pub acts_in_a_step_of_nobody : List Rec
acts_in_a_step_of_nobody = rec.Event 1 (event.Clock 5) ∷ rec.Hit 1 (codes "/a") ∷ []

-- The front end takes a connection in a step of its own.
abbrev pub acts_in_its_own_step : List Rec
acts_in_its_own_step = rec.Event 1 (event.Timer Front 1) ∷ took Front 1 1 ∷ []

abbrev pub acts : Law
acts config files J = EachMay (MayBeThere config.nodes) [] J

-- Of three nodes the fourth takes a connection.
abbrev pub fourth_of_three : List Rec
fourth_of_three = took (Node 4) 1 2 ∷ []

-- A node without a number takes it.
abbrev pub node_without_a_number : List Rec
node_without_a_number = took (Node 0) 1 2 ∷ []

-- The third takes it.
abbrev pub third_of_three : List Rec
third_of_three = took (Node 3) 1 2 ∷ []

-- ---- the clock

abbrev pub clock : Law
clock config files J = KeepsTime J

-- The clock moves by five milliseconds, and tells four.
abbrev pub a_millisecond_lost : List Rec
a_millisecond_lost = rec.Event 1 (event.Clock 5) ∷ rec.Clock (record { 0 = 4 }) ∷ []

-- It tells five.
abbrev pub five_milliseconds_told : List Rec
five_milliseconds_told = rec.Event 1 (event.Clock 5) ∷ rec.Clock (record { 0 = 5 }) ∷ []

-- A time is told in another step.
abbrev pub time_of_its_own : List Rec
time_of_its_own = rec.Event 1 (event.Shut 1) ∷ rec.Clock (record { 0 = 5 }) ∷ []
