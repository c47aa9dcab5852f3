-- The client rule as a fold: a client's state is a fold over its own events and the packets that it got, and the records
-- of each of its steps are those that its table gives from that state.
use Rattle.std.specs.Prelude.{◌≡◌, ℕ, Bool, true, false, List, [], ◌∷◌, ◌++◌, map, Option, Some, None}
use Rattle.std.specs.List.{fold}
use Rattle.lard_base.specs.declared.event.Event.{Event}
use Rattle.lard_base.specs.declared.event.Event.TheVariants as event
use Rattle.lard_base.specs.declared.place.Place.{Place}
use Rattle.lard_base.specs.declared.place.Place.TheVariants.{Front, Node, Client}
use Rattle.lard_client.specs.Control.{ClientBlock, is_client_armed}
use Rattle.lard_history.specs.Journal.{request}
use Rattle.lard_history.specs.Own.{Letter, Seen, Row, Came, net_of, own, seen_on}
use Rattle.lard_history.specs.Steps.{EachStep, steps}
use Rattle.lard_journal.specs.declared.rec.Rec.{Rec}
use Rattle.lard_journal.specs.declared.rec.Rec.TheVariants as rec
use Rattle.lard_rules.specs.declared.places.Turn.{Turn}
use Rattle.lard_rules.specs.Client.{client_aborts, client_gets, client_holds, client_injects, client_opens, client_shuts, client_takes, client_timer, client_writes}
use Rattle.lard_rules.specs.Outs.{timer_change}
use Rattle.lard_segment.specs.declared.segment.Dir.TheVariants.{ToClient}
use Rattle.lard_segment.specs.Segment.{decoded}
use Rattle.lard_law_view.specs.Sending.{sending}

-- ---- what its table gives

-- where its timer fires
abbrev pub timer_turn : ClientBlock → Place → Option (ClientBlock × Turn)
timer_turn x (Client d) = Some (client_timer x)
timer_turn x Front = None
timer_turn x (Node n) = None

-- at an event that names it: the client after it, and its turn; nothing where another place acts
abbrev pub event_turn : ClientBlock → Event → Option (ClientBlock × Turn)
event_turn x (event.Get c path) = Some (client_writes x (request path))
event_turn x (event.Write c bytes) = Some (client_writes x bytes)
event_turn x (event.Shut c) = Some (client_shuts x)
event_turn x (event.Abort c) = Some (client_aborts x)
event_turn x (event.Hold c) = Some (client_holds x)
event_turn x (event.Take c) = Some (client_takes x)
event_turn x (event.Timer place c) = timer_turn x place
event_turn x (event.Inject c bytes) = Some (client_injects x bytes)
event_turn x _ = None

-- at a packet that came on its connection
abbrev pub packet_turn : ℕ → ClientBlock → Place → List ℕ → Option (ClientBlock × Turn)
packet_turn c x (Client d) bytes = Some (client_gets x (decoded bytes c ToClient))
packet_turn c x Front bytes = None
packet_turn c x (Node n) bytes = None

-- at an event that opens it
abbrev pub opening_turn : ℕ → Event → Option (ClientBlock × Turn)
opening_turn c (event.Open d isn iss wnd mss) = Some (client_opens c isn wnd mss)
opening_turn c _ = None

abbrev pub row_turn : ℕ → Option ClientBlock → Rec → Option (ClientBlock × Turn)
row_turn c None (rec.Event i e) = opening_turn c e
row_turn c (Some x) (rec.Event i e) = event_turn x e
row_turn c o _ = None

abbrev pub came_turn : ℕ → Option ClientBlock → Letter → Option (ClientBlock × Turn)
came_turn c None l = None
came_turn c (Some x) l = packet_turn c x l.to l.bytes

abbrev pub client_turn : ℕ → Option ClientBlock → Seen → Option (ClientBlock × Turn)
client_turn c o (Row r) = row_turn c o r
client_turn c o (Came l) = came_turn c o l

-- ---- its state

abbrev pub after_turn : Option ClientBlock → Option (ClientBlock × Turn) → Option ClientBlock
after_turn o None = o
after_turn o (Some given) = Some given.0

abbrev pub client_step : ℕ → Option ClientBlock → Seen → Option ClientBlock
client_step c o s = after_turn o (client_turn c o s)

-- the client of connection c, once it opened, after all that was seen of it
abbrev pub client_of : ℕ → List Seen → Option ClientBlock
client_of c seen = fold (client_step c) None seen

-- ---- its records

-- those that stand before its notes
abbrev pub event_rows : ℕ → Event → List Rec
event_rows c (event.Open d isn iss wnd mss) = rec.Opened c isn iss wnd mss ∷ []
event_rows c (event.Inject d bytes) = rec.Injected c ∷ []
event_rows c _ = []

abbrev pub own_rows : ℕ → Seen → List Rec
own_rows c (Row (rec.Event i e)) = event_rows c e
own_rows c _ = []

abbrev pub is_armed_in : Option ClientBlock → Bool
is_armed_in None = false
is_armed_in (Some x) = is_client_armed x

-- what its turn writes: its notes, its segments, and its timer where that changed
abbrev pub turn_rows : ℕ → Option ClientBlock → ClientBlock × Turn → List Rec
turn_rows c o given = given.1.notes ++ map (sending (Client c)) given.1.segments ++ timer_change (Client c) c (is_armed_in o) (is_client_armed given.0)

abbrev pub at_client : Place → Bool
at_client (Client c) = true
at_client Front = false
at_client (Node n) = false

-- a record that a client writes
abbrev pub is_of_client : Rec → Bool
is_of_client (rec.Opened c isn iss wnd mss) = true
is_of_client (rec.Wrote c bytes) = true
is_of_client (rec.Accepted c bytes) = true
is_of_client (rec.Eof c) = true
is_of_client (rec.Aborted c) = true
is_of_client (rec.Injected c) = true
is_of_client (rec.Sent k from to bytes) = at_client from
is_of_client (rec.Armed place c kind) = at_client place
is_of_client (rec.Cleared place c kind) = at_client place
is_of_client _ = false

-- not one of these is a record that the client writes, or a packet that gives it a turn
abbrev pub NoneOfClient : ℕ → Option ClientBlock → List Seen → Type 0
NoneOfClient c o [] = Unit {0}
NoneOfClient c o (Row r ∷ ss) = (is_of_client r ≡ false) × NoneOfClient c o ss
NoneOfClient c o (Came l ∷ ss) = (came_turn c o l ≡ None) × NoneOfClient c o ss

-- ---- the law

-- what stands in a step, by what the first that is seen of it gives the client
abbrev pub IsGiven : ℕ → Option ClientBlock → Seen → List Seen → Option (ClientBlock × Turn) → Type 0
IsGiven c o s later None = NoneOfClient c o (s ∷ later)
IsGiven c o s later (Some given) = later ≡ map Row (own_rows c s ++ turn_rows c o given)

-- A client's event, or a packet that it gets, is the first that its connection sees of the step, and behind it stand
-- exactly the records that its table gives. In any other step stands none that a client writes.
abbrev pub IsClientStep : ℕ → Option ClientBlock → List Seen → Type 0
IsClientStep c o [] = Unit {0}
IsClientStep c o (s ∷ later) = IsGiven c o s later (client_turn c o s)

-- so it is in a step of the journal, for each connection, as it sees the step
abbrev pub MustKeepTables : List Rec → List Rec → Type 0
MustKeepTables past step = (c : ℕ) → IsClientStep c (client_of c (own c past)) (seen_on c (net_of past) step)

abbrev pub KeepsTables : List Rec → Type 0
KeepsTables J = EachStep MustKeepTables [] (steps J)
