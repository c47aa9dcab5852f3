-- What a settle does: rounds of inner steps, until nothing is left to do or so many rounds were done.
use Rattle.std.specs.Prelude.{◌≡◌, ℕ, zero, suc, ◌+◌, ◌==◌, ◌&&◌, Bool, true, false, nat_eq, if◌then◌else◌, List, [], ◌∷◌, ◌++◌, filter, length, map, replicate, Result, Ok, Err}
use Rattle.lard_agenda.specs.Agenda.{agenda_of, due, holders, on_way, rests, timers_left}
use Rattle.lard_law_view.specs.Prelude.{Client, Event, Front, Machine, Node, Place, Rec, StepFault}
use Rattle.lard_base.specs.declared.event.Event.TheVariants as event
use Rattle.lard_rules.specs.declared.fault.StepFault.TheVariants.{NoMemory}
use Rattle.lard_journal.specs.declared.rec.Rec.TheVariants as rec
use Rattle.lard_settling.specs.declared.settled.Settled.{Settled}
use Rattle.lard_settling.specs.declared.settled.Settled.TheVariants.{Open, Quiet}
use Rattle.lard_settling.specs.Left.{is_holder, jobs_at, jobs_from}
use Rattle.lard_settling.specs.Steps.{inner_step, settle_begun, settle_closed}

-- ---- inner steps

-- how far a settle came, and the fault of the step that was not done
abbrev pub Stop : Type 0
Stop = Machine × StepFault

-- inner steps of these events, one after another, up to one that is not done
unfoldable pub all_inner : Machine → List Event → Result Machine Stop
all_inner m [] = Ok m
all_inner m (e ∷ es) = elim (inner_step m e) [ Err fault ↦ Err (m, fault) | Ok n ↦ all_inner n es ]

-- ---- what is left

-- how many jobs wait at the disks of all nodes
abbrev pub jobs_left : Machine → ℕ
jobs_left m = jobs_from m 1 m.config.nodes

-- no timer runs but those that are stalled, and no job waits
abbrev pub is_quiet : Machine → Bool
is_quiet m = rests m.front.dispatch (agenda_of m.journal) && jobs_left m == 0

-- how many timers run that are not stalled, and how many jobs wait
abbrev pub settle_left : Machine → ℕ
settle_left m = timers_left m.front.dispatch (agenda_of m.journal) + jobs_left m

-- ---- a round

-- each packet that is on its way is delivered, by number
abbrev pub deliveries : Machine → List Event
deliveries m = map event.Deliver (on_way (agenda_of m.journal))

-- node n completes its first job as often as it has jobs
abbrev pub completions : Machine → ℕ → List Event
completions m n = replicate (jobs_at m n) (event.Disk n 1)

-- so many nodes, the first of which is n, by number
unfoldable pub nodes_complete : Machine → ℕ → ℕ → Result Machine Stop
nodes_complete m n zero = Ok m
nodes_complete m n (suc more) = elim (all_inner m (completions m n)) [ Err stop ↦ Err stop | Ok k ↦ nodes_complete k (n + 1) more ]

-- a client has the timers of its own connection; no others ever run at it
abbrev pub is_own_at : Place → ℕ → Bool
is_own_at (Client d) c = nat_eq d c
is_own_at Front c = true
is_own_at (Node n) c = true

abbrev pub is_own_seat : Place × ℕ → Bool
is_own_seat seat = is_own_at seat.0 seat.1

-- each timer fires that runs and is not stalled, once for each place and connection: the front end's, the nodes', the clients'
abbrev pub firings : Machine → List Event
firings m = map (λ seat. event.Timer seat.0 seat.1) (filter is_own_seat (due m.front.dispatch (agenda_of m.journal)))

-- where the journal has no more than so many records, so that no packet was delivered and no job completed, the timers fire
abbrev pub fired_since : ℕ → Machine → Result Machine Stop
fired_since records m = if length m.journal == records then all_inner m (firings m) else Ok m

abbrev pub completed_since : ℕ → Machine → Result Machine Stop
completed_since records m = elim (nodes_complete m 1 m.config.nodes) [ Err stop ↦ Err stop | Ok n ↦ fired_since records n ]

unfoldable pub round : Machine → Result Machine Stop
round m = elim (all_inner m (deliveries m)) [ Err stop ↦ Err stop | Ok n ↦ completed_since (length m.journal) n ]

-- rounds until nothing is left or so many more were done, behind those that were done before: the state, and how many in all
unfoldable pub rounds_from : ℕ → ℕ → Machine → Result (Machine × ℕ) Stop
rounds_from zero done m = Ok (m, done)
rounds_from (suc more) done m = if is_quiet m then Ok (m, done) else elim (round m) [ Err stop ↦ Err stop | Ok n ↦ rounds_from more (done + 1) n ]

-- ---- a settle

-- so many rounds were done, and this was left
abbrev pub settle_answer : ℕ → ℕ → Settled
settle_answer rounds zero = Quiet rounds
settle_answer rounds (suc left) = Open rounds (suc left)

-- first each client that holds takes, by number
abbrev pub takes : Machine → List Event
takes m = map event.Take (filter (is_holder m) (holders (agenda_of m.journal)))

abbrev pub closed_by : Result (Machine × ℕ) Stop → Result (Machine × Settled) Stop
closed_by (Err stop) = Err stop
closed_by (Ok (m, done)) = Ok (settle_closed m done (settle_left m), settle_answer done (settle_left m))

abbrev pub settled_from : Machine → ℕ → Result (Machine × Settled) Stop
settled_from m rounds = elim (all_inner m (takes m)) [ Err stop ↦ Err stop | Ok n ↦ closed_by (rounds_from rounds 0 n) ]

-- the event, the takes, the rounds, and the closing record
unfoldable pub settled : Machine → ℕ → Result (Machine × Settled) Stop
settled m rounds = elim (settle_begun m rounds) [ Err fault ↦ Err (m, fault) | Ok n ↦ settled_from n rounds ]

-- ---- what a call does

-- it begins a step, or closes a settle
abbrev pub is_mark : Rec → Bool
is_mark (rec.Event i e) = true
is_mark (rec.Inner e) = true
is_mark (rec.Settled rounds) = true
is_mark (rec.Unsettled rounds left) = true
is_mark _ = false

-- nothing, or what begins so
abbrev pub BeginsByMark : List Rec → Type 0
BeginsByMark [] = Unit {0}
BeginsByMark (r ∷ rs) = is_mark r ≡ true

-- K begins with J, and J ends where a step of K does: what stands behind it begins the next one, or closes the settle.
abbrev pub IsFrontOf : List Rec → List Rec → Type 0
IsFrontOf J K = (more : List Rec) × (K ≡ J ++ more) × BeginsByMark more

-- the journal that steps come to, all of them or not
abbrev pub come : Result Machine Stop → List Rec
come (Ok n) = n.journal
come (Err stop) = stop.0.journal

-- The steps were done, or came to one that is not done; where memory ran out, the journal is a front of what it would have been, at a step's end.
abbrev pub DoesSettle : Result Machine Stop → Machine → Result (Unit {0}) StepFault → Type 0
DoesSettle given new (Ok _) = given ≡ Ok new
DoesSettle given new (Err NoMemory) = IsFrontOf new.journal (come given)
DoesSettle given new (Err fault) = given ≡ Err (new, fault)

-- the journal that rounds come to
abbrev pub rounds_journal : Result (Machine × ℕ) Stop → List Rec
rounds_journal (Ok (n, done)) = n.journal
rounds_journal (Err stop) = stop.0.journal

-- The same of rounds, and how many were done.
abbrev pub DoesRounds : Result (Machine × ℕ) Stop → Machine → Result ℕ StepFault → Type 0
DoesRounds given new (Ok done) = given ≡ Ok (new, done)
DoesRounds given new (Err NoMemory) = IsFrontOf new.journal (rounds_journal given)
DoesRounds given new (Err fault) = given ≡ Err (new, fault)

-- the journal that a settle comes to, to its end or not
abbrev pub outcome : Result (Machine × Settled) Stop → List Rec
outcome (Ok (n, s)) = n.journal
outcome (Err stop) = stop.0.journal

-- The settle was done, or came to a step that is not done; where memory ran out, the journal is a front of what it would have been, at a step's end.
abbrev pub Settles : Result (Machine × Settled) Stop → Machine → Result Settled StepFault → Type 0
Settles given new (Ok s) = given ≡ Ok (new, s)
Settles given new (Err NoMemory) = IsFrontOf new.journal (outcome given)
Settles given new (Err fault) = given ≡ Err (new, fault)
