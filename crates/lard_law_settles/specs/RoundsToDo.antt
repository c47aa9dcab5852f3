-- What a journal leaves to be done, for a settle to do: clients that hold, packets on their way, jobs, and timers that run.
use Rattle.std.specs.Prelude.{ℕ, zero, suc, ◌+◌, ◌==◌, not, Bool, false, List, filter, length, map, replicate, Option, Some, None}
use Rattle.std.specs.FinMap.{values}
use Rattle.std.specs.List.{list_any}
use Rattle.lard_agenda.specs.Agenda.{agenda_of, holders, kinds_in, on_way}
use Rattle.lard_agenda.specs.declared.kinds.Running.{Running}
use Rattle.lard_law_view.specs.Prelude.{Client, ClientBlock, Event, Front, Node, Place, Rec, client_of, is_holding, own}
use Rattle.lard_base.specs.declared.event.Event.TheVariants as event
use Rattle.lard_law_connections.specs.Line.{waiting_line}
use Rattle.lard_counts.specs.Stores.{jobs}
use Rattle.lard_settling.specs.Settling.{is_own_seat}
use Rattle.lard_settling.specs.Written.{written_out}

-- ---- clients

abbrev pub is_holder_now : Option ClientBlock → Bool
is_holder_now None = false
is_holder_now (Some x) = is_holding x

-- Client c was told to hold last, and was neither aborted nor reset since: by its table, which counts inner steps as events.
abbrev pub holds_in : List Rec → ℕ → Bool
holds_in J c = is_holder_now (client_of c (own c (written_out J)))

-- each client that holds takes, by number
abbrev pub takes_in : List Rec → List Event
takes_in J = map event.Take (filter (holds_in J) (holders (agenda_of J)))

-- ---- packets and jobs

-- each packet that is on its way is delivered, by number
abbrev pub deliveries_in : List Rec → List Event
deliveries_in J = map event.Deliver (on_way (agenda_of J))

-- how many jobs wait at node n
abbrev pub jobs_in : List Rec → ℕ → ℕ
jobs_in J n = length (jobs J n)

-- it completes its first job as often as it has jobs
abbrev pub completions_in : List Rec → ℕ → List Event
completions_in J n = replicate (jobs_in J n) (event.Disk n 1)

-- how many jobs wait at so many nodes, the first of which is n
abbrev pub all_jobs : List Rec → ℕ → ℕ → ℕ
all_jobs J n zero = 0
all_jobs J n (suc more) = jobs_in J n + all_jobs J (n + 1) more

-- ---- timers

-- those of a client are stalled while it is in the line
abbrev pub is_stalled_at : Place → List ℕ → ℕ → Bool
is_stalled_at (Client d) line c = list_any (λ w. w == c) line
is_stalled_at Front line c = false
is_stalled_at (Node n) line c = false

-- where timers run that are not stalled: the front end's, the nodes', the clients', each by connections
abbrev pub firing_in : List Rec → List Running
firing_in J = filter (λ r. not (is_stalled_at r.place (waiting_line J) r.c)) (values (agenda_of J).running)

abbrev pub seats_of : List Running → List (Place × ℕ)
seats_of rs = map (λ r. (r.place, r.c)) rs

-- each fires, once for each place and connection
abbrev pub firings_in : List Rec → List Event
firings_in J = map (λ seat. event.Timer seat.0 seat.1) (filter is_own_seat (seats_of (firing_in J)))

-- ---- what is left

-- how many timers run that are not stalled, and how many jobs wait at so many nodes
abbrev pub left_in : ℕ → List Rec → ℕ
left_in nodes J = kinds_in (firing_in J) + all_jobs J 1 nodes
