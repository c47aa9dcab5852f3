-- An agenda is what the journal says.
use Rattle.std.specs.Prelude.{◌≡◌, ℕ, ◌<◌, ◌≤◌, ◌*◌, ◌^◌, Bool, true, false, nat_eq, if◌then◌else◌, List, ◌++◌, Some, None, ◌↔◌}
use Rattle.std.specs.List.{AllByRecursion, fold}
use Rattle.std.specs.FinMap.{contains_key, get}
use Rattle.lard_base.specs.declared.event.Event.{Event}
use Rattle.lard_base.specs.declared.event.Event.TheVariants as event
use Rattle.lard_base.specs.declared.ids.TheConstants.NodeId.{MAX}
use Rattle.lard_base.specs.declared.place.Place.{Place}
use Rattle.lard_base.specs.declared.place.Place.TheVariants.{Front, Node, Client}
use Rattle.lard_base.specs.declared.place.TimerKind.{TimerKind}
use Rattle.lard_dispatch.specs.Books.{Dispatcher}
use Rattle.lard_history.specs.Journal.{is_running}
use Rattle.lard_journal.specs.declared.rec.Rec.{Rec}
use Rattle.lard_journal.specs.declared.rec.Rec.TheVariants as rec
use Rattle.lard_agenda.specs.declared.agenda.Agenda.{Agenda}
use Rattle.lard_agenda.specs.declared.kinds.Running.{Running}
use Rattle.lard_agenda.specs.Agenda.{IsAgendaOf, agenda_of, due, holders, nothing_noted, on_way, rests, seat, stalled_at, timers_left}
use Rattle.lard_agenda.specs.Kinds.{is_none, kinds_of, runs}

-- ---- packets

abbrev pub way_flag : ℕ → Bool → Rec → Bool
way_flag k was (rec.Sent j from to bytes) = if nat_eq j k then true else was
way_flag k was (rec.Got j) = if nat_eq j k then false else was
way_flag k was (rec.Lost j) = if nat_eq j k then false else was
way_flag k was _ = was

-- packet k was sent, and neither got nor lost since
abbrev pub is_on_way : List Rec → ℕ → Bool
is_on_way J k = fold (way_flag k) false J

-- The packets of a journal's agenda are those that are on their way.
abbrev pub AgendasTellPackets : Type 0
AgendasTellPackets = (J : List Rec) (k : ℕ) → contains_key (agenda_of J).way k ≡ is_on_way J k

-- ---- timers

-- a place that has seats of its own
abbrev pub IsSeatedPlace : Place → Type 0
IsSeatedPlace Front = Unit {0}
IsSeatedPlace (Node n) = (1 ≤ n) × (n ≤ MAX)
IsSeatedPlace (Client c) = 1 ≤ c

-- a connection that has a seat of its own there
abbrev pub IsSeated : Place → ℕ → Type 0
IsSeated p c = IsSeatedPlace p × (c < 2 ^ 16)

-- a record of a timer names a place and a connection that have a seat of their own
abbrev pub NamesSeat : Rec → Type 0
NamesSeat (rec.Armed p c kind) = IsSeated p c
NamesSeat (rec.Cleared p c kind) = IsSeated p c
NamesSeat _ = Unit {0}

-- What is kept at a seat is which timers of its connection run at its place.
abbrev pub AgendasTellTimers : Type 0
AgendasTellTimers = (J : List Rec) (p : Place) (c : ℕ) (kind : TimerKind) → AllByRecursion NamesSeat J → IsSeated p c
    → runs kind (kinds_of (get (agenda_of J).running (seat p c))) ≡ is_running J p c kind

-- What is kept at a seat is of that seat, and has a timer that runs.
abbrev pub AgendasKeepNothingIdle : Type 0
AgendasKeepNothingIdle = (J : List Rec) (at : ℕ) (r : Running) → get (agenda_of J).running at ≡ Some r → (at ≡ seat r.place r.c) × (is_none r.kinds ≡ false)

-- the seat that a record of a timer names is below 2^32
abbrev pub NamesLowSeat : Rec → Type 0
NamesLowSeat (rec.Armed p c kind) = seat p c < 2 ^ 32
NamesLowSeat (rec.Cleared p c kind) = seat p c < 2 ^ 32
NamesLowSeat _ = Unit {0}

-- At each seat six timers run at most, one of each kind, and there are no more seats than that.
abbrev pub AgendasTellFewTimers : Type 0
AgendasTellFewTimers = (d : Dispatcher) (J : List Rec) → AllByRecursion NamesLowSeat J → timers_left d (agenda_of J) ≤ 6 * 2 ^ 32

-- ---- clients that hold

abbrev pub event_flag : ℕ → Bool → Event → Bool
event_flag c was (event.Hold d) = if nat_eq d c then true else was
event_flag c was (event.Take d) = if nat_eq d c then false else was
event_flag c was _ = was

abbrev pub holds_flag : ℕ → Bool → Rec → Bool
holds_flag c was (rec.Event i e) = event_flag c was e
holds_flag c was (rec.Inner e) = event_flag c was e
holds_flag c was _ = was

-- the last `hold` or `take` of client c is `hold`
abbrev pub is_held : List Rec → ℕ → Bool
is_held J c = fold (holds_flag c) false J

-- The clients of a journal's agenda are those that hold.
abbrev pub AgendasTellHolders : Type 0
AgendasTellHolders = (J : List Rec) (c : ℕ) → get (agenda_of J).held c ≡ (if is_held J c then Some c else None)

-- ---- what is listed

-- Each packet that is listed is on its way.
abbrev pub AgendasListPackets : Type 0
AgendasListPackets = (J : List Rec) → AllByRecursion (λ k. is_on_way J k ≡ true) (on_way (agenda_of J))

-- Each client that is listed holds.
abbrev pub AgendasListHolders : Type 0
AgendasListHolders = (J : List Rec) → AllByRecursion (λ c. is_held J c ≡ true) (holders (agenda_of J))

-- a timer of the connection runs at the place
abbrev pub RunsAt : List Rec → Place → ℕ → Type 0
RunsAt J p c = (kind : TimerKind) × (is_running J p c kind ≡ true)

-- and is not stalled
abbrev pub IsDue : Dispatcher → List Rec → Place × ℕ → Type 0
IsDue d J at = IsSeated at.0 at.1 × RunsAt J at.0 at.1 × (stalled_at at.0 d.books.line at.1 ≡ false)

-- Of each place and connection that is listed a timer runs that is not stalled.
abbrev pub AgendasListTimers : Type 0
AgendasListTimers = (d : Dispatcher) (J : List Rec) → AllByRecursion NamesSeat J → AllByRecursion (IsDue d J) (due d (agenda_of J))

-- Nothing is due exactly where each timer that runs is stalled.
abbrev pub AgendasRest : Type 0
AgendasRest = (d : Dispatcher) (J : List Rec) → AllByRecursion NamesSeat J → (rests d (agenda_of J) ≡ true)
    ↔ ((p : Place) (c : ℕ) (kind : TimerKind) → IsSeated p c → is_running J p c kind ≡ true → stalled_at p d.books.line c ≡ true)

-- ---- a journal goes on

-- The agenda that has noted nothing is one of each journal.
abbrev pub AgendasBegin : Type 0
AgendasBegin = (J : List Rec) → IsAgendaOf nothing_noted J

-- An agenda of a journal is one of each journal that goes on from there.
abbrev pub AgendasGoOn : Type 0
AgendasGoOn = (a : Agenda) (J more : List Rec) → IsAgendaOf a J → IsAgendaOf a (J ++ more)

-- The agenda that has noted all records of a journal is one of it.
abbrev pub AgendasAreOfTheirJournals : Type 0
AgendasAreOfTheirJournals = (J : List Rec) → IsAgendaOf (agenda_of J) J
