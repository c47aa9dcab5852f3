-- What a connection sees of a journal: the records that are about it, and the packets that came on it.
use Rattle.std.specs.Prelude.{◌≡◌, ◌⊎◌, ℕ, ◌+◌, ◌-◌, ◌*◌, false, List, [], ◌∷◌, ◌++◌, Option, Some, None, nat_eq, if◌then◌else◌}
use Rattle.std.specs.List.{fold}
use Rattle.lard_base.specs.declared.event.Event.{Event}
use Rattle.lard_base.specs.declared.event.Event.TheVariants as event
use Rattle.lard_base.specs.declared.place.Place.{Place}
use Rattle.lard_base.specs.declared.place.Place.TheVariants.{Front, Node, Client}
use Rattle.lard_history.specs.Journal.{Tale, tale_step, untold}
use Rattle.lard_journal.specs.declared.rec.Rec.{Rec}
use Rattle.lard_journal.specs.declared.rec.Rec.TheVariants as rec
use Rattle.lard_net.specs.Net.{Packet, lose_at, packet_at}

-- ---- packets

-- the packets that a journal tells of, each lost or not
abbrev pub net_step : List Packet → Rec → List Packet
net_step net (rec.Sent k from to bytes) = net ++ record { from = from; to = to; bytes = bytes; lost = false } ∷ []
net_step net (rec.Lost k) = lose_at (k - 1) net
net_step net _ = net

abbrev pub net_of : List Rec → List Packet
net_of J = fold net_step [] J

-- A packet as it was sent: whether it was lost is forgotten.
pub record Letter : Type 0 where
  pub from : Place
  pub to : Place
  pub bytes : List ℕ

abbrev pub letter_of : Packet → Letter
letter_of p = record { from = p.from; to = p.to; bytes = p.bytes }

-- ---- of which connection something is

-- the connection that a message between two machines of the cluster names, in its third and fourth byte
abbrev pub named_in : List ℕ → Option ℕ
named_in (version ∷ kind ∷ high ∷ low ∷ rest) = Some (256 * high + low)
named_in _ = None

abbrev pub named_to : Place → List ℕ → Option ℕ
named_to (Client c) bytes = Some c
named_to Front bytes = named_in bytes
named_to (Node n) bytes = named_in bytes

-- the connection of a packet: that of the client at one of its ends, or the one that it names
abbrev pub conn_of : Place → Place → List ℕ → Option ℕ
conn_of (Client c) to bytes = Some c
conn_of Front to bytes = named_to to bytes
conn_of (Node n) to bytes = named_to to bytes

-- the connection that an event names
abbrev pub event_conn : Event → Option ℕ
event_conn (event.Open c isn iss wnd mss) = Some c
event_conn (event.Get c path) = Some c
event_conn (event.Write c bytes) = Some c
event_conn (event.Shut c) = Some c
event_conn (event.Abort c) = Some c
event_conn (event.Hold c) = Some c
event_conn (event.Take c) = Some c
event_conn (event.Timer place c) = Some c
event_conn (event.Inject c bytes) = Some c
event_conn _ = None

-- the connection of a record
abbrev pub whose : Rec → Option ℕ
whose (rec.Event i e) = event_conn e
whose (rec.Inner e) = event_conn e
whose (rec.Opened c isn iss wnd mss) = Some c
whose (rec.Wrote c bytes) = Some c
whose (rec.Sent k from to bytes) = conn_of from to bytes
whose (rec.Accepted c bytes) = Some c
whose (rec.Eof c) = Some c
whose (rec.Took place c epoch) = Some c
whose (rec.Gave place c epoch) = Some c
whose (rec.Waits c) = Some c
whose (rec.Admitted c) = Some c
whose (rec.Released c) = Some c
whose (rec.AssignedFirst c r path n add remove) = Some c
whose (rec.AssignedLater c r path n add size queue) = Some c
whose (rec.BatchOver c) = Some c
whose (rec.Served place c r code length via) = Some c
whose (rec.Queued n m c r path) = Some c
whose (rec.Read n m c r path) = Some c
whose (rec.Armed place c kind) = Some c
whose (rec.Cleared place c kind) = Some c
whose (rec.Reset place c total) = Some c
whose (rec.Aborted c) = Some c
whose (rec.Injected c) = Some c
whose _ = None

-- ---- what a connection sees

-- A record, or a packet that came.
pub data Seen : Type 0 where
  Row : Rec → Seen
  Came : Letter → Seen

-- a record without the numbers of events and packets, which count those of other connections too
abbrev pub plain : Rec → Rec
plain (rec.Event i e) = rec.Event 0 e
plain (rec.Sent k from to bytes) = rec.Sent 0 from to bytes
plain r = r

-- it is one of the list
abbrev pub Has : {A : Type 0} → A → List A → Type 0
Has a [] = ⊥
Has a (x ∷ xs) = (x ≡ a) ⊎ Has a xs

-- this one, where it is of connection q
abbrev pub one_of : {B : Type 0} → ℕ → Option ℕ → B → List B
one_of q None b = []
one_of q (Some c) b = if nat_eq c q then b ∷ [] else []

abbrev pub came_seen : ℕ → Option Packet → List Seen
came_seen q None = []
came_seen q (Some p) = one_of q (conn_of p.from p.to p.bytes) (Came (letter_of p))

-- what connection q sees of a record, where these packets were sent before
abbrev pub seen_of : ℕ → List Packet → Rec → List Seen
seen_of q net (rec.Got k) = came_seen q (packet_at net k)
seen_of q net r = one_of q (whose r) (Row (plain r))

-- of records
abbrev pub seen_on : ℕ → List Packet → List Rec → List Seen
seen_on q net [] = []
seen_on q net (r ∷ rs) = seen_of q net r ++ seen_on q (net_step net r) rs

-- of a whole journal
unfoldable pub own : ℕ → List Rec → List Seen
own q J = seen_on q [] J

-- the packets of connection q, as it sees them
abbrev pub letters_in : ℕ → List Packet → List Letter
letters_in q [] = []
letters_in q (p ∷ ps) = one_of q (conn_of p.from p.to p.bytes) (letter_of p) ++ letters_in q ps

unfoldable pub letters : ℕ → List Packet → List Letter
letters q ps = letters_in q ps

-- ---- folds of what a connection sees

-- a fold of records goes past what came
abbrev pub seen_step : {A : Type 0} → (A → Rec → A) → A → Seen → A
seen_step step a (Row r) = step a r
seen_step step a (Came l) = a

-- its tale
abbrev pub tale_of : ℕ → List Seen → Tale
tale_of c ss = fold (seen_step (tale_step c)) untold ss

-- ---- laws of what a connection sees

-- each record may stand where it does, after what was seen of the past
abbrev pub EachRow : (List Seen → Rec → Type 0) → List Seen → List Seen → Type 0
EachRow mine past [] = Unit {0}
EachRow mine past (Row r ∷ ss) = mine past r × EachRow mine (past ++ Row r ∷ []) ss
EachRow mine past (Came l ∷ ss) = EachRow mine (past ++ Came l ∷ []) ss
