-- The machine of the cluster seen from one connection: its part of the state, its packets, and what it sees of the journal; and
-- what one move makes of them.
use Rattle.std.specs.Prelude.{◌≡◌, ◌⊎◌, ℕ, nat_lt, ◌==◌, Bool, true, false, if◌then◌else◌, List, [], ◌∷◌, ◌++◌, length, map, filter, is_some, Option, Some, None, Ok}
use Rattle.std.specs.FinMap as table
use Rattle.std.specs.List.{AllByRecursion}
use Rattle.lard_answers.specs.Answers.{FilesAt}
use Rattle.lard_base.specs.declared.event.Event.{Event}
use Rattle.lard_base.specs.declared.event.Event.TheVariants as event
use Rattle.lard_base.specs.declared.parts.EndpointParts.{EndpointParts}
use Rattle.lard_base.specs.declared.place.Place.{Place}
use Rattle.lard_base.specs.declared.place.Place.TheVariants.{Front, Node, Client}
use Rattle.lard_base.specs.declared.place.Reason.{Reason}
use Rattle.lard_client.specs.Control.{ClientBlock, is_client_armed, written_len}
use Rattle.lard_rules.specs.declared.machine.Machine.{Machine}
use Rattle.lard_rules.specs.Bounds.{HasRule, IsConnNumber}
use Rattle.lard_rules.specs.Machine.{is_no_node, node_at}
use Rattle.lard_disk.specs.declared.disk.Job.{Job}
use Rattle.lard_files.specs.Files.{file_at}
use Rattle.lard_rules.specs.declared.front.FrontTurn.{FrontTurn}
use Rattle.lard_rules.specs.Front as front
use Rattle.lard_rules.specs.Front.{FrontEnv, FrontPart, ask_of, front_admitted, front_asked, front_ended, front_gets, front_returned, front_taken, front_timer}
use Rattle.lard_rules.specs.FrontPlace as front_place
use Rattle.lard_rules.specs.FrontPlace.{front_part}
use Rattle.lard_handoff_back.specs.Table.{nothing_beside}
use Rattle.lard_history.specs.Journal.{request}
use Rattle.lard_history.specs.Own.{Has, Letter, Seen, Row, Came, letters, named_in, net_of, own, whose}
use Rattle.lard_journal.specs.declared.rec.Rec.{Rec}
use Rattle.lard_journal.specs.declared.rec.Rec.TheVariants as rec
use Rattle.lard_message.specs.declared.kind.Kind.{Kind}
use Rattle.lard_message.specs.declared.kind.Kind.TheVariants as kind
use Rattle.lard_message.specs.declared.message.Body.{Body}
use Rattle.lard_message.specs.declared.message.Body.TheVariants as body
use Rattle.lard_message.specs.declared.message.Message.{Message}
use Rattle.lard_message.specs.Message.{kind_of}
use Rattle.lard_message.specs.Reading.{decoded_message}
use Rattle.lard_rules.specs.declared.node.NodeState.{NodeState}
use Rattle.lard_rules.specs.declared.node.NodeTurn.{NodeTurn}
use Rattle.lard_rules.specs.Node as node
use Rattle.lard_rules.specs.Node.{NodePart, message, node_acknowledged, node_content, node_forwarded, node_offered, node_read, node_tagged, node_timer}
use Rattle.lard_rules.specs.NodePlace as node_place
use Rattle.lard_rules.specs.NodePlace.{content_bytes, leaves_at, node_leaves, node_part}
use Rattle.lard_rules.specs.Stay.{NodeEnv}
pub use Rattle.lard_law_view.specs.Sending.{sending}
use Rattle.lard_policy.specs.declared.first.FirstChoice.{FirstChoice}
use Rattle.lard_resend.specs.declared.kept.Kept.{Kept}
use Rattle.lard_rules.specs.declared.places.Station.{Station}
use Rattle.lard_rules.specs.declared.places.Turn.{Turn}
use Rattle.lard_rules.specs.Client.{client_opens, client_writes, client_shuts, client_holds, client_takes, client_aborts, client_timer, client_gets, client_injects}
use Rattle.lard_rules.specs.Outs.{timer_change}
use Rattle.lard_segment.specs.declared.segment.Dir.TheVariants.{ToClient, ToCluster}
use Rattle.lard_segment.specs.Segment.{decoded}

-- ---- one connection

-- What no rule of a connection changes: in a run all of it stays but which nodes leave.
pub record Setting : Type 0 where
  pub files : FilesAt
  pub stream : ℕ  -- the most bytes of responses on one connection
  pub nodes : ℕ  -- how many nodes the cluster has
  pub leaving : ℕ → Bool  -- whether this node leaves

-- the same where these nodes leave
abbrev pub with_leaving : Setting → (ℕ → Bool) → Setting
with_leaving k l = record k { leaving = l }

-- whether a node of the machine leaves
abbrev pub which_leave : Machine → ℕ → Bool
which_leave m n = leaves_at (node_at m.nodes n)

abbrev pub setting_of : Machine → Setting
setting_of m = record { files = file_at m.files; stream = m.config.stream; nodes = m.config.nodes; leaving = which_leave m }

-- What all places keep of a connection: its client's place, the front end, and each node.
pub record Part : Type 0 where
  pub station : Option Station
  pub front : FrontPart
  pub nodes : ℕ → NodePart

-- a node that is not there keeps nothing
abbrev pub nothing_kept : NodePart
nothing_kept = record { row = None; stay = None; kept = []; fetches = []; beside = nothing_beside }

abbrev pub kept_at : ℕ → Option NodeState → NodePart
kept_at c None = nothing_kept
kept_at c (Some s) = node_part s c

unfoldable pub part_of : Machine → ℕ → Part
part_of m q = record { station = table.get m.clients q; front = front_part m.front q; nodes = λ n. kept_at q (node_at m.nodes n) }

-- All of one connection.
pub record Conn : Type 0 where
  pub c : ℕ
  pub part : Part
  pub letters : List Letter
  pub seen : List Seen

unfoldable pub conn : Machine → ℕ → Conn
conn m q = record { c = q; part = part_of m q; letters = letters q m.net; seen = own q m.journal }

-- before anything
abbrev pub blank_conn : ℕ → Conn
blank_conn c = record { c = c; part = record { station = None; front = record { row = None; rest = None; kept = [] }; nodes = λ n. nothing_kept }; letters = []; seen = [] }

-- ---- a move

-- What a place does on a connection in a step, without the timers.
pub record TurnSaid : Type 0 where
  pub notes : List Rec
  pub segments : List (Place × List ℕ)
  pub gave : List Rec
  pub messages : List (Place × List ℕ)

-- What a connection does in a step: at which place, what is seen before all notes, what the place does, its part after it.
pub record Move : Type 0 where
  pub place : Place
  pub heads : List Seen
  pub said : TurnSaid
  pub part : Part

abbrev pub station_armed : Option Station → Bool
station_armed None = false
station_armed (Some s) = is_client_armed s.client

-- the records of a place's timers that changed, from the part before and after the step
unfoldable pub timer_rows : Place → ℕ → Part → Part → List Rec
timer_rows (Client d) c p q = timer_change (Client d) c (station_armed p.station) (station_armed q.station)
timer_rows Front c p q = front_place.front_timers c p.front q.front
timer_rows (Node n) c p q = node_place.node_timers n c (p.nodes n) (q.nodes n)

abbrev pub letter : Place → Place × List ℕ → Letter
letter from s = record { from = from; to = s.0; bytes = s.1 }

-- the move's records, behind its heads
abbrev pub rows_of : Conn → Move → List Rec
rows_of x v = v.said.notes ++ map (sending v.place) v.said.segments ++ v.said.gave ++ map (sending v.place) v.said.messages ++ timer_rows v.place x.c x.part v.part

-- all that the connection sees of the step
abbrev pub seen_in : Conn → Move → List Seen
seen_in x v = v.heads ++ map Row (rows_of x v)

abbrev pub letters_of : Move → List Letter
letters_of v = map (letter v.place) v.said.segments ++ map (letter v.place) v.said.messages

-- the connection after a move
abbrev pub grown : Conn → Move → Conn
grown x v = record { c = x.c; part = v.part; letters = x.letters ++ letters_of v; seen = x.seen ++ seen_in x v }

-- a connection stays as it is, or makes a move of which P is so
abbrev pub GoesBy : (Conn → Move → Type 0) → Conn → Conn → Type 0
GoesBy P x y = (y ≡ x) ⊎ ((v : Move) × P x v × (y ≡ grown x v))

-- ---- what each place does, as a move

abbrev pub nothing_said : TurnSaid
nothing_said = record { notes = []; segments = []; gave = []; messages = [] }

abbrev pub by_client : Turn → TurnSaid
by_client t = record { notes = t.notes; segments = t.segments; gave = []; messages = [] }

abbrev pub by_front : FrontTurn → TurnSaid
by_front t = record { notes = t.notes; segments = t.segments; gave = t.gave; messages = t.messages }

-- those of a connection; a path that goes to the front of a cache names none
abbrev pub named_records : List Rec → List Rec
named_records rs = filter (λ r. is_some (whose r)) rs

abbrev pub by_node : NodeTurn → TurnSaid
by_node t = record { notes = named_records t.notes; segments = t.segments; gave = t.gave; messages = t.messages }

-- this packet was sent
abbrev pub Was : Conn → Place → Place → List ℕ → Type 0
Was x from to bytes = Has (record { from = from; to = to; bytes = bytes }) x.letters

-- nobody is at a place: it is not that of a client that opened
abbrev pub IsNobody : Option Station → Place → Type 0
IsNobody station (Client d) = station ≡ None
IsNobody station _ = Unit {0}

-- what a node hears of the front end, and the front end of a node
abbrev pub IsForNode : Kind → Type 0
IsForNode kind.Offer = Unit {0}
IsForNode kind.Forward = Unit {0}
IsForNode kind.Tag = Unit {0}
IsForNode kind.EndedAck = Unit {0}
IsForNode kind.Given = Unit {0}
IsForNode _ = ⊥

abbrev pub IsForFront : Kind → Type 0
IsForFront kind.Taken = Unit {0}
IsForFront kind.Ask = Unit {0}
IsForFront kind.Ended = Unit {0}
IsForFront kind.Refused = Unit {0}
IsForFront kind.Give = Unit {0}
IsForFront _ = ⊥

-- and a node of another one, each time: a Fetch it may pass over
abbrev pub IsForOtherNode : Kind → Type 0
IsForOtherNode kind.Content = Unit {0}
IsForOtherNode _ = ⊥

-- A packet that no rule hears: of a client that has not opened, to a node that is not there, or no message of a kind that is heard.
abbrev pub IsUnheard : ℕ → Option Station → Place → Place → List ℕ → Type 0
IsUnheard nodes station (Client d) Front bytes = station ≡ None
IsUnheard nodes station Front (Node n) bytes = (m : Message) → decoded_message bytes ≡ Ok m → IsForNode (kind_of m.body) → is_no_node nodes n ≡ true
IsUnheard nodes station (Node n) Front bytes = (m : Message) → decoded_message bytes ≡ Ok m → IsForFront (kind_of m.body) → ⊥
IsUnheard nodes station (Node i) (Node n) bytes = (m : Message) → decoded_message bytes ≡ Ok m → IsForOtherNode (kind_of m.body) → is_no_node nodes n ≡ true
IsUnheard nodes station _ _ bytes = Unit {0}

-- an event is seen, and nothing else before the notes
abbrev pub event_seen : Event → List Seen
event_seen e = Row (rec.Event 0 e) ∷ []

-- a packet is seen as it comes
abbrev pub packet_seen : Place → Place → List ℕ → List Seen
packet_seen from to bytes = Came (record { from = from; to = to; bytes = bytes }) ∷ []

abbrev pub with_station : Part → Station → Part
with_station p s = record p { station = Some s }

abbrev pub with_front : Part → FrontPart → Part
with_front p f = record p { front = f }

-- nothing but what it sees changes
abbrev pub stands : Conn → Place → List Seen → TurnSaid → Move
stands x place heads said = record { place = place; heads = heads; said = said; part = x.part }

-- a client that opened does what its rule gave
abbrev pub client_does : Conn → Station → List Seen → ClientBlock × Turn → Move
client_does x s heads given = record { place = Client x.c; heads = heads; said = by_client given.1; part = with_station x.part (record { client = given.0; iss = s.iss }) }

abbrev pub front_does : Conn → List Seen → front.FrontDeed → Move
front_does x heads front.Drops = stands x Front heads nothing_said
front_does x heads (front.Says turn) = stands x Front heads (by_front turn)
front_does x heads (front.Does did) = record { place = Front; heads = heads; said = by_front did.turn; part = with_front x.part did.part }

-- what one node keeps is put back
abbrev pub node_put_back : (ℕ → NodePart) → ℕ → NodePart → ℕ → NodePart
node_put_back nodes n q k = if k == n then q else nodes k

abbrev pub with_node : Part → ℕ → NodePart → Part
with_node p n q = record p { nodes = node_put_back p.nodes n q }

abbrev pub node_does : Conn → ℕ → List Seen → node.NodeDeed → Move
node_does x n heads node.Drops = stands x (Node n) heads nothing_said
node_does x n heads (node.Says messages) = stands x (Node n) heads (record nothing_said { messages = messages })
node_does x n heads (node.Does given) = record { place = Node n; heads = heads; said = by_node given.1; part = with_node x.part n given.0 }

-- a waiting connection is handed off in the step of another
abbrev pub front_admits : Conn → FrontPart × FrontTurn → Move
front_admits x given = record { place = Front; heads = []; said = by_front given.1; part = with_front x.part given.0 }

-- a client opens
abbrev pub client_begins : Conn → ℕ → ℕ → ℕ → ℕ → Move
client_begins x isn iss wnd mss = record {
  place = Client x.c;
  heads = Row (rec.Event 0 (event.Open x.c isn iss wnd mss)) ∷ Row (rec.Opened x.c isn iss wnd mss) ∷ [];
  said = by_client (client_opens x.c isn wnd mss).1;
  part = with_station x.part (record { client = (client_opens x.c isn wnd mss).0; iss = iss });
}

-- a packet is put on the way
abbrev pub inject_seen : ℕ → List ℕ → List Seen
inject_seen c bytes = Row (rec.Event 0 (event.Inject c bytes)) ∷ Row (rec.Injected c) ∷ []

-- the record of a job that was completed stands before all that it leads to
abbrev pub reads_first : Rec → Move → Move
reads_first r v = record v { said = record v.said { notes = r ∷ [] ++ v.said.notes } }

-- the content of a file goes to the node that serves the request
abbrev pub content_said : Setting → ℕ → ℕ → ℕ → ℕ → ℕ → List ℕ → TurnSaid
content_said k n to c epoch r path = record nothing_said { messages = (Node to, message c epoch (body.Content r (content_bytes (k.files path)))) ∷ [] }

abbrev pub brought_said : Setting → ℕ → ℕ → ℕ → ℕ → ℕ → List ℕ → TurnSaid
brought_said k n to c epoch r path = record (content_said k n to c epoch r path) { notes = rec.Read n to c r path ∷ [] }

-- ---- the rules, each of one connection

-- What the front end's rules rest on is its own numbers and whatever the dispatcher answers then.
pub record IsFrontEnv (k : Setting) (c : ℕ) (env : FrontEnv) : Type 0 where
  pub place : env.serve.place ≡ Front
  pub number : env.serve.c ≡ c
  pub files : env.serve.files ≡ k.files
  pub stream : env.serve.stream ≡ k.stream

-- Those of a node are its own numbers, and whatever its cache and its disk have then.
pub record IsNodeEnv (k : Setting) (c n epoch : ℕ) (env : NodeEnv) : Type 0 where
  pub place : env.serve.place ≡ Node n
  pub number : env.serve.c ≡ c
  pub files : env.serve.files ≡ k.files
  pub stream : env.serve.stream ≡ k.stream
  pub node : env.n ≡ n
  pub epoch_is : env.epoch ≡ epoch
  pub leaves : env.leaving ≡ k.leaving n
  pub remains : env.leaving ≡ false  -- INTERIM: no node leaves yet

-- the epoch of the connection's stay at a node, if it is here or its end is not acknowledged
abbrev pub epoch_in : NodePart → ℕ
epoch_in p = elim p.row [ None ↦ 0 | Some row ↦ row.epoch.0 ]

-- the bytes are a message of the connection, in this epoch
abbrev pub SpellsMessage : ℕ → ℕ → Body → List ℕ → Type 0
SpellsMessage c epoch b bytes = decoded_message bytes ≡ Ok (record { c = c; epoch = record { 0 = epoch }; body = b })

-- how a node says that a connection comes back: it refuses it, or gives it back with these parts
abbrev pub back_body : Option EndpointParts → Body
back_body None = body.Refused
back_body (Some parts) = body.Give parts

-- what answers that a stay is over: that it ended, or went back
abbrev pub ack_body : Bool → Body
ack_body false = body.EndedAck
ack_body true = body.Given

-- P is so of each move of a client's rule
pub record ClientRules (k : Setting) (P : Conn → Move → Type 0) : Type 0 where
  pub opens : (x : Conn) (isn iss wnd mss : ℕ) → HasRule (event.Open x.c isn iss wnd mss) → x.part.station ≡ None → P x (client_begins x isn iss wnd mss)
  pub gets : (x : Conn) (s : Station) (path : List ℕ) → x.part.station ≡ Some s → nat_lt k.stream (written_len s.client (request path)) ≡ false
      → P x (client_does x s (event_seen (event.Get x.c path)) (client_writes s.client (request path)))
  pub writes : (x : Conn) (s : Station) (bytes : List ℕ) → x.part.station ≡ Some s → nat_lt k.stream (written_len s.client bytes) ≡ false
      → P x (client_does x s (event_seen (event.Write x.c bytes)) (client_writes s.client bytes))
  pub shuts : (x : Conn) (s : Station) → x.part.station ≡ Some s → P x (client_does x s (event_seen (event.Shut x.c)) (client_shuts s.client))
  pub aborts : (x : Conn) (s : Station) → x.part.station ≡ Some s → P x (client_does x s (event_seen (event.Abort x.c)) (client_aborts s.client))
  pub holds : (x : Conn) (s : Station) → x.part.station ≡ Some s → P x (client_does x s (event_seen (event.Hold x.c)) (client_holds s.client))
  pub takes : (x : Conn) (s : Station) → x.part.station ≡ Some s → P x (client_does x s (event_seen (event.Take x.c)) (client_takes s.client))
  pub fires : (x : Conn) (s : Station) → x.part.station ≡ Some s → P x (client_does x s (event_seen (event.Timer (Client x.c) x.c)) (client_timer s.client))
  pub hears : (x : Conn) (s : Station) (from : Place) (bytes : List ℕ) → x.part.station ≡ Some s → Was x from (Client x.c) bytes
      → P x (client_does x s (packet_seen from (Client x.c) bytes) (client_gets s.client (decoded bytes x.c ToClient)))

-- of each move of a rule of the front end
pub record FrontRules (k : Setting) (P : Conn → Move → Type 0) : Type 0 where
  pub hears : (x : Conn) (s : Station) (env : FrontEnv) (bytes : List ℕ) → x.part.station ≡ Some s → IsFrontEnv k x.c env → env.iss ≡ s.iss → Was x (Client x.c) Front bytes
      → P x (front_does x (packet_seen (Client x.c) Front bytes) (front_gets env x.part.front bytes (decoded bytes x.c ToCluster)))
  pub fires : (x : Conn) (s : Station) (env : FrontEnv) → x.part.station ≡ Some s → IsFrontEnv k x.c env
      → P x (front_does x (event_seen (event.Timer Front x.c)) (front_timer env x.part.front))
  pub taken : (x : Conn) (env : FrontEnv) (n epoch : ℕ) (bytes : List ℕ) → IsFrontEnv k x.c env → SpellsMessage x.c epoch body.Taken bytes → Was x (Node n) Front bytes
      → P x (front_does x (packet_seen (Node n) Front bytes) (front_taken x.part.front epoch))
  pub asked : (x : Conn) (env : FrontEnv) (n epoch number queue size : ℕ) (paths : List (List ℕ)) (bytes : List ℕ) → IsFrontEnv k x.c env
      → SpellsMessage x.c epoch (body.Ask number queue size paths) bytes → Was x (Node n) Front bytes
      → P x (front_does x (packet_seen (Node n) Front bytes) (front_asked env x.part.front n epoch (ask_of x.c n number queue size paths)))
  pub ended : (x : Conn) (env : FrontEnv) (n epoch : ℕ) (reason : Reason) (snd rcv count : ℕ) (bytes : List ℕ) → IsFrontEnv k x.c env
      → SpellsMessage x.c epoch (body.Ended reason snd rcv count) bytes → Was x (Node n) Front bytes
      → P x (front_does x (packet_seen (Node n) Front bytes) (front_ended env x.part.front n epoch (record { reason = reason; snd = record { 0 = snd }; rcv = record { 0 = rcv } })))
  pub returned : (x : Conn) (env : FrontEnv) (n epoch : ℕ) (given : Option EndpointParts) (bytes : List ℕ) → IsFrontEnv k x.c env
      → SpellsMessage x.c epoch (back_body given) bytes → Was x (Node n) Front bytes
      → P x (front_does x (packet_seen (Node n) Front bytes) (front_returned env x.part.front n epoch given))
  pub admitted : (x : Conn) (env : FrontEnv) (choice : FirstChoice) (given : FrontPart × FrontTurn) → IsFrontEnv k x.c env → front_admitted env x.part.front choice ≡ Some given
      → P x (front_admits x given)

-- of each move of a rule of a node
pub record NodeRules (k : Setting) (P : Conn → Move → Type 0) : Type 0 where
  pub offered : (x : Conn) (n epoch : ℕ) (env : NodeEnv) (parts : EndpointParts) (bytes : List ℕ) → IsNodeEnv k x.c n epoch env → SpellsMessage x.c epoch (body.Offer parts) bytes → Was x Front (Node n) bytes
      → P x (node_does x n (packet_seen Front (Node n) bytes) (node_offered env (x.part.nodes n) parts))
  pub forwarded : (x : Conn) (n epoch : ℕ) (env : NodeEnv) (segment bytes : List ℕ) → IsNodeEnv k x.c n epoch env → SpellsMessage x.c epoch (body.Forward segment) bytes → Was x Front (Node n) bytes
      → P x (node_does x n (packet_seen Front (Node n) bytes) (node_forwarded env (x.part.nodes n) (decoded segment x.c ToCluster)))
  pub tagged : (x : Conn) (n epoch number : ℕ) (nodes : List ℕ) (env : NodeEnv) (bytes : List ℕ) → IsNodeEnv k x.c n epoch env → SpellsMessage x.c epoch (body.Tag number nodes) bytes → Was x Front (Node n) bytes
      → P x (node_does x n (packet_seen Front (Node n) bytes) (node_tagged env (x.part.nodes n) number nodes))
  pub content : (x : Conn) (n from epoch r : ℕ) (env : NodeEnv) (file bytes : List ℕ) → IsNodeEnv k x.c n epoch env → SpellsMessage x.c epoch (body.Content r file) bytes → Was x (Node from) (Node n) bytes
      → P x (node_does x n (packet_seen (Node from) (Node n) bytes) (node_content env (x.part.nodes n) from r))
  pub acknowledged : (x : Conn) (n epoch : ℕ) (back : Bool) (env : NodeEnv) (bytes : List ℕ) → IsNodeEnv k x.c n epoch env
      → SpellsMessage x.c epoch (ack_body back) bytes → Was x Front (Node n) bytes
      → P x (node_does x n (packet_seen Front (Node n) bytes) (node_acknowledged env back (x.part.nodes n)))
  pub read : (x : Conn) (n epoch r : ℕ) (env : NodeEnv) (path : List ℕ) → IsNodeEnv k x.c n epoch env
      → P x (reads_first (rec.Read n n x.c r path) (node_does x n [] (node_read env (x.part.nodes n) r)))
  pub fires : (x : Conn) (s : Station) (n : ℕ) (env : NodeEnv) → x.part.station ≡ Some s → IsNodeEnv k x.c n (epoch_in (x.part.nodes n)) env
      → P x (node_does x n (event_seen (event.Timer (Node n) x.c)) (node_timer env (x.part.nodes n)))
  -- what a node does for another one: it answers a Fetch, or queues a job for it, and sends the content that the job read
  pub answers : (x : Conn) (n from epoch r : ℕ) (path file bytes : List ℕ) → k.files path ≡ Some file → SpellsMessage x.c epoch (body.Fetch r path) bytes → Was x (Node from) (Node n) bytes
      → P x (stands x (Node n) (packet_seen (Node from) (Node n) bytes) (content_said k n from x.c epoch r path))
  pub queues : (x : Conn) (n from epoch r : ℕ) (path file bytes : List ℕ) → k.files path ≡ Some file → SpellsMessage x.c epoch (body.Fetch r path) bytes → Was x (Node from) (Node n) bytes
      → P x (stands x (Node n) (packet_seen (Node from) (Node n) bytes) (record nothing_said { notes = rec.Queued n from x.c r path ∷ [] }))
  pub brings : (x : Conn) (n from epoch r : ℕ) (path : List ℕ) → P x (stands x (Node n) [] (brought_said k n from x.c epoch r path))

-- P is so of each move that a rule makes which leaves a connection untouched
pub record UntouchedRules (k : Setting) (P : Conn → Move → Type 0) : Type 0 where
  pub client : ClientRules k P
  pub front : FrontRules k P
  pub node : NodeRules k P
  -- a packet comes, and nothing is done: a client that opened has its rule, and a message that is heard has one
  pub ignores : (x : Conn) (from to : Place) (bytes : List ℕ) → Was x from to bytes × IsNobody x.part.station to × IsUnheard k.nodes x.part.station from to bytes → P x (stands x to (packet_seen from to bytes) nothing_said)

-- P is so of each move that a rule makes
pub record Rules (k : Setting) (P : Conn → Move → Type 0) : Type 0 where
  pub untouched : UntouchedRules k P
  pub injects : (x : Conn) (s : Station) (bytes : List ℕ) → x.part.station ≡ Some s → HasRule (event.Inject x.c bytes)
      → P x (client_does x s (inject_seen x.c bytes) (client_injects s.client bytes))

-- ---- what the view itself rests on

abbrev pub IsMachine : Place → Type 0
IsMachine Front = Unit {0}
IsMachine (Node n) = Unit {0}
IsMachine (Client d) = ⊥

-- a packet of connection c goes between its client and the cluster, or between two machines of the cluster, and names it then
abbrev pub GoesBetween : ℕ → Place → Place → List ℕ → Type 0
GoesBetween c (Client d) Front bytes = d ≡ c
GoesBetween c Front (Client d) bytes = d ≡ c
GoesBetween c (Node n) (Client d) bytes = d ≡ c
GoesBetween c Front (Node n) bytes = named_in bytes ≡ Some c
GoesBetween c (Node n) Front bytes = named_in bytes ≡ Some c
GoesBetween c (Node n) (Node m) bytes = named_in bytes ≡ Some c
GoesBetween c _ _ _ = ⊥

abbrev pub AreBetween : ℕ → List Letter → Type 0
AreBetween c [] = Unit {0}
AreBetween c (l ∷ ls) = GoesBetween c l.from l.to l.bytes × AreBetween c ls

-- what a place holds until it is answered was sent, to another machine of the cluster
abbrev pub AreSent : Conn → Place → List Kept → Type 0
AreSent x place ks = AllByRecursion (λ k. IsMachine k.to × Was x place k.to k.bytes) ks

-- It has the number of a connection, or nothing happened on it. Its packets are its own, so is its client, and what its places hold
-- was sent.
pub record IsConnSound (x : Conn) : Type 0 where
  pub number : IsConnNumber x.c ⊎ (x ≡ blank_conn x.c)
  pub between : AreBetween x.c x.letters
  pub client : (s : Station) → x.part.station ≡ Some s → s.client.c ≡ x.c
  pub front : AreSent x Front x.part.front.kept
  pub kept : (n : ℕ) → AreSent x (Node n) (x.part.nodes n).kept
  pub fetches : (n : ℕ) → AreSent x (Node n) (x.part.nodes n).fetches

-- each job of a disk is of a connection
abbrev pub AreNumbered : List Job → Type 0
AreNumbered jobs = AllByRecursion (λ job. IsConnNumber job.c) jobs

-- Each connection is sound, the journal tells of the packets that there are, and the nodes are as many as there are to be.
pub record IsViewed (m : Machine) : Type 0 where
  pub sound : (q : ℕ) → IsConnSound (conn m q)
  pub told : net_of m.journal ≡ m.net
  pub nodes : length m.nodes ≡ m.config.nodes
  pub jobs : (n : ℕ) (s : NodeState) → node_at m.nodes n ≡ Some s → AreNumbered s.disk
  pub remain : (n : ℕ) (s : NodeState) → node_at m.nodes n ≡ Some s → node_leaves s ≡ false  -- INTERIM: no node leaves yet
