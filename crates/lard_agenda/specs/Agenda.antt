-- What a journal leaves to be done: folds over its records, the oldest first.
use Rattle.std.specs.Prelude.{◌≡◌, ℕ, ◌+◌, ◌*◌, ◌≤◌, Bool, true, false, not, if◌then◌else◌, List, [], ◌∷◌, map, filter, length, take, Option, Some, None}
use Rattle.std.specs.List.{fold}
use Rattle.std.specs.FinMap.{FinMap, empty, get, insert, keys, remove, values}
use Rattle.std.specs.Ordering.{nat_cmp}
use Rattle.lard_base.specs.declared.event.Event.{Event}
use Rattle.lard_base.specs.declared.event.Event.TheVariants as event
use Rattle.lard_base.specs.declared.ids.TheConstants.NodeId.{MAX}
use Rattle.lard_base.specs.declared.place.Place.{Place}
use Rattle.lard_base.specs.declared.place.Place.TheVariants.{Front, Node, Client}
use Rattle.lard_base.specs.declared.place.TimerKind.{TimerKind}
use Rattle.lard_dispatch.specs.Books.{Dispatcher}
use Rattle.lard_dispatch.specs.Line.{line_waits}
use Rattle.lard_dispatch.specs.declared.line.Waiting.{Waiting}
use Rattle.lard_journal.specs.declared.rec.Rec.{Rec}
use Rattle.lard_journal.specs.declared.rec.Rec.TheVariants as rec
use Rattle.lard_table.specs.Table.{put_or}
use Rattle.lard_agenda.specs.declared.agenda.Agenda.{Agenda}
use Rattle.lard_agenda.specs.declared.agenda.TheConstants.{SEATS}
use Rattle.lard_agenda.specs.declared.kinds.Kinds.{Kinds}
use Rattle.lard_agenda.specs.declared.kinds.Running.{Running}
use Rattle.lard_agenda.specs.Kinds.{how_many, is_none, kinds_of, with_timer}

-- ---- seats: the order in which timers fire

-- the front end comes first, then the nodes, and then the clients
abbrev pub place_number : Place → ℕ
place_number Front = 0
place_number (Node n) = n
place_number (Client c) = MAX + c

-- a place has a seat for each connection
abbrev pub seat : Place → ℕ → ℕ
seat p c = place_number p * SEATS + c

-- ---- what a record changes

-- a packet is on its way from when it is sent until it is got or lost
abbrev pub way_step : FinMap nat_cmp (Unit {0}) → Rec → FinMap nat_cmp (Unit {0})
way_step way (rec.Sent k from to bytes) = insert way k tt
way_step way (rec.Got k) = remove way k
way_step way (rec.Lost k) = remove way k
way_step way _ = way

-- what is kept of a connection at a place: nothing where no timer runs
abbrev pub entry : Place → ℕ → Kinds → Option Running
entry p c kinds = if is_none kinds then None else Some (record { place = p; c = c; kinds = kinds })

-- the timer of this kind runs there from now on, or no longer
abbrev pub timer_set : FinMap nat_cmp Running → Place → ℕ → TimerKind → Bool → FinMap nat_cmp Running
timer_set running p c kind on = put_or running (seat p c) (entry p c (with_timer (kinds_of (get running (seat p c))) kind on))

abbrev pub running_step : FinMap nat_cmp Running → Rec → FinMap nat_cmp Running
running_step running (rec.Armed p c kind) = timer_set running p c kind true
running_step running (rec.Cleared p c kind) = timer_set running p c kind false
running_step running _ = running

-- a client holds from a `hold` until it takes
abbrev pub held_by : FinMap nat_cmp ℕ → Event → FinMap nat_cmp ℕ
held_by held (event.Hold c) = insert held c c
held_by held (event.Take c) = remove held c
held_by held _ = held

-- an event of a schedule and one of an inner step count alike
abbrev pub held_step : FinMap nat_cmp ℕ → Rec → FinMap nat_cmp ℕ
held_step held (rec.Event i e) = held_by held e
held_step held (rec.Inner e) = held_by held e
held_step held _ = held

abbrev pub changed_by : Agenda → Rec → Agenda
changed_by a r = record a { way = way_step a.way r; running = running_step a.running r; held = held_step a.held r }

-- ---- the agenda of a journal

-- a record is noted
abbrev pub noted_by : Agenda → Rec → Agenda
noted_by a r = record (changed_by a r) { noted = a.noted + 1 }

-- no record was noted
abbrev pub nothing_noted : Agenda
nothing_noted = record { noted = 0; way = empty; running = empty; held = empty }

unfoldable pub agenda_of : List Rec → Agenda
agenda_of J = fold noted_by nothing_noted J

-- The agenda is that of as many of a journal's first records as it noted.
pub record IsAgendaOf (a : Agenda) (J : List Rec) : Type 0 where
  pub within : a.noted ≤ length J
  pub agenda : a ≡ agenda_of (take a.noted J)

-- ---- what it answers

-- the packets on their way, by number
abbrev pub on_way : Agenda → List ℕ
on_way a = keys a.way

-- the clients that hold, by number
abbrev pub holders : Agenda → List ℕ
holders a = values a.held

-- timers at a client are stalled while its connection waits for admission
abbrev pub stalled_at : Place → List Waiting → ℕ → Bool
stalled_at (Client d) line c = line_waits line c
stalled_at Front line c = false
stalled_at (Node n) line c = false

abbrev pub is_stalled : Dispatcher → Running → Bool
is_stalled d r = stalled_at r.place d.books.line r.c

-- where timers run that are not stalled, in the order of seats
abbrev pub free_of : Dispatcher → List Running → List Running
free_of d all = filter (λ r. not (is_stalled d r)) all

abbrev pub firing : Dispatcher → Agenda → List Running
firing d a = free_of d (values a.running)

-- their places and connections
abbrev pub due : Dispatcher → Agenda → List (Place × ℕ)
due d a = map (λ r. (r.place, r.c)) (firing d a)

abbrev pub no_seats : List (Place × ℕ) → Bool
no_seats [] = true
no_seats (s ∷ seats) = false

-- no timer runs that is not stalled
abbrev pub rests : Dispatcher → Agenda → Bool
rests d a = no_seats (due d a)

-- how many timers run in all of these
abbrev pub kinds_in : List Running → ℕ
kinds_in [] = 0
kinds_in (r ∷ rs) = how_many r.kinds + kinds_in rs

-- how many timers run that are not stalled
abbrev pub timers_left : Dispatcher → Agenda → ℕ
timers_left d a = kinds_in (firing d a)
