-- Journals that break the laws of what clients write and take, and of timers.
use Rattle.std.specs.Prelude.{List, [], ◌∷◌, codes}
use Rattle.lard_base.specs.declared.event.Event.TheVariants as event
use Rattle.lard_law_view.specs.Prelude.{ChangesInSteps, Client, Front, KeepsTables, Rec, TakesInOrder, WritesWhileOpen}
use Rattle.lard_base.specs.declared.place.TimerKind.TheVariants.{Tcp}
use Rattle.lard_journal.specs.declared.rec.Rec.TheVariants as rec
use Rattle.lard_refusals.specs.Packets.{acknowledgement, syn, two_bytes}
use Rattle.lard_refusals.specs.Refusals.{Law, took}

-- ---- what clients write

abbrev pub writers : Law
writers config files J = WritesWhileOpen J

-- A client writes after it closed its side.
abbrev pub writes_when_shut : List Rec
writes_when_shut = rec.Event 1 (event.Shut 1) ∷ rec.Wrote 1 (codes "x") ∷ []

-- One writes after it reset its connection.
abbrev pub writes_when_aborted : List Rec
writes_when_aborted = rec.Aborted 1 ∷ rec.Wrote 1 (codes "x") ∷ []

-- One writes, and then closes its side.
abbrev pub writes_and_shuts : List Rec
writes_and_shuts = rec.Wrote 1 (codes "x") ∷ rec.Event 1 (event.Shut 1) ∷ []

-- ---- what they take

abbrev pub takers : Law
takers config files J = TakesInOrder J

-- A client accepts bytes, and no packet came.
abbrev pub accepts_out_of_nothing : List Rec
accepts_out_of_nothing = rec.Opened 1 1000 5000 65535 1460 ∷ rec.Accepted 1 (codes "HT") ∷ []

-- One accepts other bytes than came.
abbrev pub accepts_other_bytes : List Rec
accepts_other_bytes = rec.Opened 1 1000 5000 65535 1460 ∷ rec.Sent 1 Front (Client 1) two_bytes ∷ rec.Got 1 ∷ rec.Accepted 1 (codes "HX") ∷ []

-- One accepts the same bytes again.
abbrev pub accepts_twice : List Rec
accepts_twice = rec.Opened 1 1000 5000 65535 1460 ∷ rec.Sent 1 Front (Client 1) two_bytes ∷ rec.Got 1 ∷ rec.Accepted 1 (codes "HT") ∷ rec.Got 1 ∷ rec.Accepted 1 (codes "HT") ∷ []

-- One accepts what came.
abbrev pub accepts_what_came : List Rec
accepts_what_came = rec.Opened 1 1000 5000 65535 1460 ∷ rec.Sent 1 Front (Client 1) two_bytes ∷ rec.Got 1 ∷ rec.Accepted 1 (codes "HT") ∷ []

-- The same where the schedule put a packet on the way in its name.
abbrev pub accepts_what_came_when_touched : List Rec
accepts_what_came_when_touched = rec.Opened 1 1000 5000 65535 1460 ∷ rec.Injected 1 ∷ rec.Sent 1 Front (Client 1) two_bytes ∷ rec.Got 1 ∷ rec.Accepted 1 (codes "HT") ∷ []

-- There one accepts the same bytes again.
abbrev pub accepts_twice_when_touched : List Rec
accepts_twice_when_touched = rec.Opened 1 1000 5000 65535 1460 ∷ rec.Injected 1 ∷ rec.Sent 1 Front (Client 1) two_bytes ∷ rec.Got 1 ∷ rec.Accepted 1 (codes "HT") ∷ rec.Got 1 ∷ rec.Accepted 1 (codes "HT") ∷ []

-- And there one begins a byte too late.
abbrev pub skips_a_byte_when_touched : List Rec
skips_a_byte_when_touched = rec.Opened 1 1000 5000 65535 1460 ∷ rec.Injected 1 ∷ rec.Sent 1 Front (Client 1) two_bytes ∷ rec.Got 1 ∷ rec.Accepted 1 (codes "T") ∷ []

-- One takes the end of its stream by a segment without FIN.
abbrev pub ends_without_a_fin : List Rec
ends_without_a_fin = rec.Opened 1 1000 5000 65535 1460 ∷ rec.Sent 1 Front (Client 1) acknowledgement ∷ rec.Got 1 ∷ rec.Eof 1 ∷ []

abbrev pub tables : Law
tables config files J = KeepsTables J

-- A client writes that never opened.
abbrev pub writes_before_it_opens : List Rec
writes_before_it_opens = rec.Event 1 (event.Write 1 (codes "x")) ∷ rec.Wrote 1 (codes "x") ∷ []

-- A client opens, and sends a packet more than it needs.
abbrev pub needless_packet : List Rec
needless_packet = rec.Event 1 (event.Open 1 1000 5000 65535 1460) ∷ rec.Opened 1 1000 5000 65535 1460 ∷ rec.Sent 1 (Client 1) Front syn ∷ rec.Sent 2 (Client 1) Front syn ∷ rec.Armed (Client 1) 1 Tcp ∷ []

-- A client opens, and sends nothing.
abbrev pub opens_in_silence : List Rec
opens_in_silence = rec.Event 1 (event.Open 1 1000 5000 65535 1460) ∷ rec.Opened 1 1000 5000 65535 1460 ∷ []

-- ---- timers

abbrev pub timers : Law
timers config files J = ChangesInSteps J

-- A timer is cleared that does not run.
abbrev pub cleared_and_never_armed : List Rec
cleared_and_never_armed = rec.Event 1 (event.Timer Front 1) ∷ rec.Cleared Front 1 Tcp ∷ []

-- A timer that runs is armed again.
abbrev pub armed_twice : List Rec
armed_twice = rec.Event 1 (event.Timer Front 1) ∷ rec.Armed Front 1 Tcp ∷ rec.Event 2 (event.Timer Front 1) ∷ rec.Armed Front 1 Tcp ∷ []

-- A timer is armed before the step is done.
abbrev pub armed_too_early : List Rec
armed_too_early = rec.Event 1 (event.Timer Front 1) ∷ rec.Armed Front 1 Tcp ∷ took Front 1 1 ∷ []
