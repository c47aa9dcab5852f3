-- The machine: one step of the whole, as a function of its state and the event. It looks up what the event is about, does the
-- step of the place that acts, and appends what the place did, kind by kind.
use Rattle.std.specs.Prelude.{◌≡◌, ℕ, zero, suc, ◌+◌, ◌-◌, ◌||◌, ◌==◌, nat_lt, Bool, false, if◌then◌else◌, List, [], ◌∷◌, ◌++◌, length, replicate, slice_get, slice_set, Option, Some, None, Result, Ok, Err}
use Rattle.std.specs.FinMap as table
use Rattle.lard_base.specs.declared.config.Config.{Config}
use Rattle.lard_base.specs.declared.event.Event.{Event}
use Rattle.lard_base.specs.declared.event.Event.TheVariants as event
use Rattle.lard_base.specs.declared.place.Place.{Place}
use Rattle.lard_base.specs.declared.place.Place.TheVariants as place
use Rattle.lard_client.specs.Control.{ClientBlock, written_len, is_client_armed}
use Rattle.lard_rules.specs.declared.fault.StepFault.{StepFault}
use Rattle.lard_rules.specs.declared.fault.Refusal.TheVariants.{NoClient, Used, NoNode, LastNode, NotSent, WasLost, NoJob}
use Rattle.lard_rules.specs.declared.fault.StepFault.TheVariants.{Limit, NoMemory, Refused}
use Rattle.lard_rules.specs.declared.machine.Machine.{Machine}
use Rattle.lard_rules.specs.Bounds.{HasRule}
use Rattle.lard_files.specs.Files.{file_at}
use Rattle.lard_rules.specs.declared.front.FrontState.{FrontState}
use Rattle.lard_rules.specs.FrontPlace.{FrontSetting, front_step, no_connections}
use Rattle.lard_history.specs.Journal.{request}
use Rattle.lard_journal.specs.declared.rec.Rec.{Rec}
use Rattle.lard_journal.specs.declared.rec.Rec.TheVariants as rec
use Rattle.lard_rules.specs.declared.fault.What.{What}
use Rattle.lard_rules.specs.declared.fault.What.TheVariants.{Stream}
use Rattle.lard_rules.specs.Limits.{limit_of}
use Rattle.lard_rules.specs.Sent.{packets_of, sent_records}
use Rattle.lard_loads.specs.Tally.{has_other_open}
use Rattle.lard_net.specs.Net.{Packet, bytes_in, lose_at, packet_at}
use Rattle.lard_rules.specs.declared.node.BackIn.{BackIn}
use Rattle.lard_rules.specs.declared.node.BackIn.TheVariants as back
use Rattle.lard_rules.specs.declared.node.NodeState.{NodeState}
use Rattle.lard_rules.specs.NodePlace.{NodeSetting, no_stays, node_step}
use Rattle.lard_rules.specs.declared.front.FrontIn.{FrontIn}
use Rattle.lard_rules.specs.declared.front.FrontIn.TheVariants as input
use Rattle.lard_rules.specs.declared.places.Out.{Out}
use Rattle.lard_rules.specs.declared.places.Station.{Station}
use Rattle.lard_rules.specs.declared.places.Turn.{Turn}
use Rattle.lard_rules.specs.Client.{client_opens, client_writes, client_shuts, client_holds, client_takes, client_aborts, client_timer, client_gets, client_injects}
use Rattle.lard_rules.specs.Outs.{out_of}
use Rattle.lard_segment.specs.declared.segment.Dir.TheVariants.{ToClient}
use Rattle.lard_segment.specs.Segment.{decoded}

-- nobody has opened, and nothing was sent
abbrev pub machine_start : Config → List (List ℕ × List ℕ) → Machine
machine_start config files = record {
  config = config;
  files = files;
  clients = table.empty;
  front = no_connections config;
  nodes = replicate config.nodes (no_stays config.cache);
  net = [];
  now = 0;
  answered = 0;
  events = 0;
  journal = [];
}

-- ---- a step's records

abbrev pub segments_sent : Machine → Place → Out → List Packet
segments_sent m p out = m.net ++ packets_of p out.segments

-- the records of a step: the event, its own, the place's notes, the segments sent, what was given up, the messages sent, the timers
-- that changed
abbrev pub told_rows : Machine → Event → List Rec → Place → Out → List Rec
told_rows m e own p out =
    rec.Event (m.events + 1) e ∷ own ++ out.notes ++ sent_records (length m.net + 1) p out.segments
    ++ out.gave ++ sent_records (length (segments_sent m p out) + 1) p out.messages ++ out.timers

-- the machine after a step in which a place acted
unfoldable pub machine_told : Machine → Event → List Rec → Place → Out → Machine
machine_told m e own p out = record m {
  net = segments_sent m p out ++ packets_of p out.messages;
  answered = m.answered + out.answered;
  events = m.events + 1;
  journal = m.journal ++ told_rows m e own p out;
}

-- the machine after a step in which no place acted
abbrev pub passed : Machine → Event → List Rec → Machine
passed m e own = record m { events = m.events + 1; journal = m.journal ++ rec.Event (m.events + 1) e ∷ own }

-- ---- clients

abbrev pub client_put : Machine → ℕ → Station → Machine
client_put m c x = record m { clients = table.insert m.clients c x }

-- a client acted: its rule gave this, and its timer was so
abbrev pub client_acted : Machine → Event → List Rec → ℕ → ℕ → Bool → ClientBlock × Turn → Machine
client_acted m e own c iss was given =
    machine_told (client_put m c (record { client = given.0; iss = iss })) e own (place.Client c) (out_of (place.Client c) c was (is_client_armed given.0) given.1)

-- one that opened before acts again
abbrev pub client_goes_on : Machine → Event → List Rec → ℕ → Station → ClientBlock × Turn → Machine
client_goes_on m e own c x given = client_acted m e own c x.iss (is_client_armed x.client) given

unfoldable pub machine_opened : Machine → ℕ → ℕ → ℕ → ℕ → ℕ → Option Station → Result Machine StepFault
machine_opened m c isn iss wnd mss None =
    Ok (client_acted m (event.Open c isn iss wnd mss) (rec.Opened c isn iss wnd mss ∷ []) c iss false (client_opens c isn wnd mss))
machine_opened m c isn iss wnd mss (Some x) = Err (Refused (Used c))

-- bytes are written unless they pass the stream limit
unfoldable pub machine_wrote : Machine → Event → ℕ → List ℕ → Option Station → Result Machine StepFault
machine_wrote m e c bytes None = Err (Refused (NoClient c))
machine_wrote m e c bytes (Some x) =
    if nat_lt m.config.stream (written_len x.client bytes)
    then Err (Limit Stream)
    else Ok (client_goes_on m e [] c x (client_writes x.client bytes))

-- one that opened does what its rule gives
unfoldable pub client_acts : Machine → Event → List Rec → ℕ → (ClientBlock → ClientBlock × Turn) → Option Station → Result Machine StepFault
client_acts m e own c rule None = Err (Refused (NoClient c))
client_acts m e own c rule (Some x) = Ok (client_goes_on m e own c x (rule x.client))

-- ---- the front end

abbrev pub front_setting : Machine → FrontSetting
front_setting m = record { files = file_at m.files; stream = m.config.stream; now = record { 0 = m.now } }

abbrev pub front_gave : Machine → Event → List Rec → FrontState × Out → Machine
front_gave m e own given = machine_told (record m { front = given.0 }) e own place.Front given.1

abbrev pub front_acts : Machine → Event → List Rec → FrontIn → Machine
front_acts m e own i = front_gave m e own (front_step (front_setting m) m.front i)

-- ---- nodes

-- what node n keeps
abbrev pub node_at : List NodeState → ℕ → Option NodeState
node_at nodes zero = None
node_at nodes (suc i) = slice_get nodes i

abbrev pub node_setting : Machine → ℕ → NodeSetting
node_setting m n = record { n = n; files = file_at m.files; stream = m.config.stream }

abbrev pub node_gave : Machine → Event → List Rec → ℕ → NodeState × Out → Machine
node_gave m e own n given = machine_told (record m { nodes = slice_set m.nodes (n - 1) given.0 }) e own (place.Node n) given.1

abbrev pub node_acts : Machine → Event → List Rec → ℕ → BackIn → Option NodeState → Machine
node_acts m e own n i None = passed m e own
node_acts m e own n i (Some s) = node_gave m e own n (node_step (node_setting m n) s i)

-- ---- timers

abbrev pub is_no_node : ℕ → ℕ → Bool
is_no_node nodes n = n == 0 || nat_lt nodes n

abbrev pub timer_at : Machine → Place → ℕ → Station → Result Machine StepFault
timer_at m place.Front c x = Ok (front_acts m (event.Timer place.Front c) [] (input.Timer c))
timer_at m (place.Client d) c x = Ok (client_goes_on m (event.Timer (place.Client d) c) [] c x (client_timer x.client))
timer_at m (place.Node n) c x =
    if is_no_node m.config.nodes n then Err (Refused (NoNode n m.config.nodes)) else Ok (node_acts m (event.Timer (place.Node n) c) [] n (back.Timer c) (node_at m.nodes n))

unfoldable pub timer : Machine → Place → ℕ → Option Station → Result Machine StepFault
timer m p c None = Err (Refused (NoClient c))
timer m p c (Some x) = timer_at m p c x

-- ---- packets

-- a packet of client c comes to the front end
abbrev pub machine_to_front : Machine → ℕ → List ℕ → ℕ → Option Station → Machine
machine_to_front m k bytes c None = passed m (event.Deliver k) (rec.Got k ∷ [])
machine_to_front m k bytes c (Some x) = front_acts m (event.Deliver k) (rec.Got k ∷ []) (input.Segment c (record { 0 = x.iss }) bytes)

-- a packet comes to client c
abbrev pub machine_to_client : Machine → ℕ → List ℕ → ℕ → Option Station → Machine
machine_to_client m k bytes c None = passed m (event.Deliver k) (rec.Got k ∷ [])
machine_to_client m k bytes c (Some x) = client_goes_on m (event.Deliver k) (rec.Got k ∷ []) c x (client_gets x.client (decoded bytes c ToClient))

-- a packet comes to the front end from a place
abbrev pub from_place : Machine → ℕ → List ℕ → Place → Machine
from_place m k bytes (place.Client c) = machine_to_front m k bytes c (table.get m.clients c)
from_place m k bytes place.Front = passed m (event.Deliver k) (rec.Got k ∷ [])
from_place m k bytes (place.Node n) = front_acts m (event.Deliver k) (rec.Got k ∷ []) (input.Message n bytes)

abbrev pub to_place : Machine → ℕ → Packet → Place → Machine
to_place m k p place.Front = from_place m k p.bytes p.from
to_place m k p (place.Client c) = machine_to_client m k p.bytes c (table.get m.clients c)
to_place m k p (place.Node n) = node_acts m (event.Deliver k) (rec.Got k ∷ []) n (back.Message p.from p.bytes) (node_at m.nodes n)

unfoldable pub delivered : Machine → ℕ → Option Packet → Result Machine StepFault
delivered m k None = Err (Refused (NotSent k (length m.net)))
delivered m k (Some p) = if p.lost then Err (Refused (WasLost k)) else Ok (to_place m k p p.to)

unfoldable pub lost : Machine → ℕ → Option Packet → Result Machine StepFault
lost m k None = Err (Refused (NotSent k (length m.net)))
lost m k (Some p) =
    if p.lost then Err (Refused (WasLost k)) else Ok (passed (record m { net = lose_at (k - 1) m.net }) (event.Lose k) (rec.Lost k ∷ []))

-- ---- nodes that close

-- a node is closed where another one is open
unfoldable pub drained : Machine → ℕ → Result Machine StepFault
drained m n =
    if is_no_node m.config.nodes n then Err (Refused (NoNode n m.config.nodes))
    else if has_other_open m.front.dispatch.books.loads n then Ok (front_acts m (event.Drain n) [] (input.Drain n))
    else Err (Refused (LastNode n))

-- ---- disks, and the clock

abbrev pub is_no_job : NodeState → ℕ → Bool
is_no_job s j = j == 0 || nat_lt (length s.disk) j

abbrev pub disk_at : Machine → ℕ → ℕ → Option NodeState → Result Machine StepFault
disk_at m n j None = Err (Refused (NoNode n m.config.nodes))
disk_at m n j (Some s) =
    if is_no_job s j then Err (Refused (NoJob n j (length s.disk))) else Ok (node_gave m (event.Disk n j) [] n (node_step (node_setting m n) s (back.Disk j)))

unfoldable pub completes : Machine → ℕ → ℕ → Result Machine StepFault
completes m n j = if is_no_node m.config.nodes n then Err (Refused (NoNode n m.config.nodes)) else disk_at m n j (node_at m.nodes n)

-- the time moves on
unfoldable pub clocked : Machine → ℕ → Machine
clocked m ms = passed (record m { now = m.now + ms }) (event.Clock ms) (rec.Clock (record { 0 = m.now + ms }) ∷ [])

-- ---- one step

abbrev pub limit_reached : Machine → Option What
limit_reached m = limit_of (length m.net) (bytes_in m.net) (length m.journal) m.answered

-- the step of an event; that of settling has no rule yet
abbrev pub happens : Machine → Event → Result Machine StepFault
happens m (event.Open c isn iss wnd mss) = machine_opened m c isn iss wnd mss (table.get m.clients c)
happens m (event.Get c path) = machine_wrote m (event.Get c path) c (request path) (table.get m.clients c)
happens m (event.Write c bytes) = machine_wrote m (event.Write c bytes) c bytes (table.get m.clients c)
happens m (event.Shut c) = client_acts m (event.Shut c) [] c client_shuts (table.get m.clients c)
happens m (event.Abort c) = client_acts m (event.Abort c) [] c client_aborts (table.get m.clients c)
happens m (event.Hold c) = client_acts m (event.Hold c) [] c client_holds (table.get m.clients c)
happens m (event.Take c) = client_acts m (event.Take c) [] c client_takes (table.get m.clients c)
happens m (event.Inject c bytes) = client_acts m (event.Inject c bytes) (rec.Injected c ∷ []) c (λ x. client_injects x bytes) (table.get m.clients c)
happens m (event.Deliver k) = delivered m k (packet_at m.net k)
happens m (event.Lose k) = lost m k (packet_at m.net k)
happens m (event.Timer p c) = timer m p c (table.get m.clients c)
happens m (event.Disk n j) = completes m n j
happens m (event.Drain n) = drained m n
happens m (event.Clock ms) = Ok (clocked m ms)
happens m (event.Settle rounds) = Ok m

abbrev pub unless_limit : Option What → Result Machine StepFault → Result Machine StepFault
unless_limit None given = given
unless_limit (Some what) given = Err (Limit what)

unfoldable pub machine_step : Machine → Event → Result Machine StepFault
machine_step m e = unless_limit (limit_reached m) (happens m e)

-- ---- runs

-- events that have rules pass one after another, from a state to a state
abbrev pub Passes : Machine → List Event → Machine → Type 0
Passes m [] n = n ≡ m
Passes m (e ∷ es) n = (k : Machine) × HasRule e × (machine_step m e ≡ Ok k) × Passes k es n

-- a state that some events lead to
abbrev pub IsReached : Config → List (List ℕ × List ℕ) → Machine → Type 0
IsReached config files m = (es : List Event) × Passes (machine_start config files) es m

-- ---- what a call does

-- A step does what the rules give. After a fault everything is as before; where memory ran out, only the journal is.
abbrev pub Steps : Result Machine StepFault → Machine → Machine → Result (Unit {0}) StepFault → Type 0
Steps given old new (Ok _) = given ≡ Ok new
Steps given old new (Err NoMemory) = new.journal ≡ old.journal
Steps given old new (Err fault) = (new ≡ old) × (given ≡ Err fault)
