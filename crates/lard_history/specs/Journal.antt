-- What a journal says: folds over its records, the oldest first.
use Rattle.std.specs.Prelude.{ℕ, ◌+◌, ◌-◌, Bool, true, false, ◌||◌, ◌&&◌, List, [], ◌∷◌, ◌++◌, length, take, codes, Option, Some, None, Result, Ok, Err, nat_eq, if◌then◌else◌}
use Rattle.std.specs.List.{concat, fold, slice_get}
use Rattle.lard_answers.specs.Answers.{FilesAt, answers, verdicts}
use Rattle.lard_base.specs.declared.event.Event.{Event}
use Rattle.lard_base.specs.declared.event.Event.TheVariants as event
use Rattle.lard_base.specs.declared.place.Place.{Place}
use Rattle.lard_base.specs.declared.place.Place.TheVariants.{Front, Node, Client}
use Rattle.lard_base.specs.declared.place.TimerKind.{TimerKind}
use Rattle.lard_base.specs.declared.place.TimerKind.TheVariants.{Tcp, Offer, Ask, Fetch, Ended, Give}
use Rattle.lard_journal.specs.declared.rec.Rec.{Rec}
use Rattle.lard_journal.specs.declared.rec.Rec.TheVariants as rec
use Rattle.lard_request.specs.declared.verdict.Verdict.{Verdict}
use Rattle.lard_segment.specs.declared.fault.SegFault.{SegFault}
use Rattle.lard_segment.specs.declared.segment.Dir.TheVariants.{ToClient}
use Rattle.lard_segment.specs.Segment.{Said, decoded}

-- what the line `get` has a client write: a plain request for a path (RFC 9112, 3)
abbrev pub request : List ℕ → List ℕ
request path = codes "GET " ++ path ++ codes " HTTP/1.1\r\nHost: lard\r\n\r\n"

-- ---- packets

abbrev pub sent_step : ℕ → Rec → ℕ
sent_step n (rec.Sent k from to bytes) = n + 1
sent_step n _ = n

-- how many packets were sent
abbrev pub sent_count : List Rec → ℕ
sent_count J = fold sent_step 0 J

abbrev pub goal_step : ℕ → Option Place → Rec → Option Place
goal_step k goal (rec.Sent j from to bytes) = if nat_eq j k then Some to else goal
goal_step k goal _ = goal

-- where packet k was sent to, if it was sent
abbrev pub goal_of : List Rec → ℕ → Option Place
goal_of J k = fold (goal_step k) None J

abbrev pub lost_step : ℕ → Bool → Rec → Bool
lost_step k lost (rec.Lost j) = if nat_eq j k then true else lost
lost_step k lost _ = lost

-- packet k was lost
abbrev pub is_lost : List Rec → ℕ → Bool
is_lost J k = fold (lost_step k) false J

abbrev pub bytes_step : ℕ → Rec → ℕ
bytes_step n (rec.Sent k from to bytes) = n + length bytes
bytes_step n _ = n

-- the bytes of all packets that were sent
abbrev pub packet_bytes : List Rec → ℕ
packet_bytes J = fold bytes_step 0 J

-- ---- steps

abbrev pub last_event_step : Option Event → Rec → Option Event
last_event_step last (rec.Event i e) = Some e
last_event_step last (rec.Inner e) = Some e
last_event_step last _ = last

-- the event of the last step
abbrev pub last_event : List Rec → Option Event
last_event J = fold last_event_step None J

-- the place that acts in a step of this event: that to which the packet was sent, or that which the event names, or the node whose
-- disk is done with a job
abbrev pub acting_in : List Rec → Event → Option Place
acting_in J (event.Open c isn iss wnd mss) = Some (Client c)
acting_in J (event.Get c path) = Some (Client c)
acting_in J (event.Write c bytes) = Some (Client c)
acting_in J (event.Shut c) = Some (Client c)
acting_in J (event.Abort c) = Some (Client c)
acting_in J (event.Hold c) = Some (Client c)
acting_in J (event.Take c) = Some (Client c)
acting_in J (event.Deliver k) = goal_of J k
acting_in J (event.Timer place c) = Some place
acting_in J (event.Inject c bytes) = Some (Client c)
acting_in J (event.Lose k) = None
acting_in J (event.Disk n j) = Some (Node n)
acting_in J (event.Drain n) = Some Front
acting_in J (event.Clock ms) = None
acting_in J (event.Settle rounds) = None

abbrev pub acting_at : List Rec → Option Event → Option Place
acting_at J None = None
acting_at J (Some e) = acting_in J e

-- the place that acts in the last step, where one does
abbrev pub acting : List Rec → Option Place
acting J = acting_at J (last_event J)

-- ---- the clock

abbrev pub time_step : ℕ → Rec → ℕ
time_step now (rec.Clock time) = time.0
time_step now _ = now

-- the time that was told last, in milliseconds, or 0
abbrev pub time_of : List Rec → ℕ
time_of J = fold time_step 0 J

-- ---- owners

abbrev pub owner_step : ℕ → Option Place → Rec → Option Place
owner_step c owner (rec.Took place d epoch) = if nat_eq d c then Some place else owner
owner_step c owner (rec.Gave place d epoch) = if nat_eq d c then None else owner
owner_step c owner _ = owner

-- the place that owns the send side of connection c, if one does
abbrev pub owner : List Rec → ℕ → Option Place
owner J c = fold (owner_step c) None J

abbrev pub epoch_step : ℕ → ℕ → Rec → ℕ
epoch_step c last (rec.Took place d epoch) = if nat_eq d c then epoch.0 else last
epoch_step c last _ = last

-- the epoch in which c was taken last, or 0
abbrev pub last_epoch : List Rec → ℕ → ℕ
last_epoch J c = fold (epoch_step c) 0 J

-- ---- what clients write and accept

abbrev pub wrote_step : ℕ → List ℕ → Rec → List ℕ
wrote_step c bytes (rec.Wrote d more) = if nat_eq d c then bytes ++ more else bytes
wrote_step c bytes _ = bytes

-- all that client c wrote
abbrev pub wrote : List Rec → ℕ → List ℕ
wrote J c = fold (wrote_step c) [] J

abbrev pub accepted_step : ℕ → List ℕ → Rec → List ℕ
accepted_step c bytes (rec.Accepted d more) = if nat_eq d c then bytes ++ more else bytes
accepted_step c bytes _ = bytes

-- all that client c accepted
abbrev pub accepted : List Rec → ℕ → List ℕ
accepted J c = fold (accepted_step c) [] J

-- ---- who opened

-- the first numbers of a connection: the client's and the cluster's
pub record Numbers : Type 0 where
  pub isn : ℕ
  pub iss : ℕ

abbrev pub numbers_step : ℕ → Option Numbers → Rec → Option Numbers
numbers_step c known (rec.Opened d isn iss wnd mss) = if nat_eq d c then Some (record { isn = isn; iss = iss }) else known
numbers_step c known _ = known

-- those of connection c, once its client opened
abbrev pub numbers_of : List Rec → ℕ → Option Numbers
numbers_of J c = fold (numbers_step c) None J

-- ---- what is answered

abbrev pub served_step : ℕ → ℕ → Rec → ℕ
served_step c n (rec.Served place d r code size via) = if nat_eq d c then n + 1 else n
served_step c n _ = n

-- how many responses were queued on connection c
abbrev pub served : List Rec → ℕ → ℕ
served J c = fold (served_step c) 0 J

abbrev pub served_bytes_step : ℕ → ℕ → Rec → ℕ
served_bytes_step c n (rec.Served place d r code size via) = if nat_eq d c then n + size else n
served_bytes_step c n _ = n

-- the bytes of these responses
abbrev pub served_bytes : List Rec → ℕ → ℕ
served_bytes J c = fold (served_bytes_step c) 0 J

abbrev pub answered_step : ℕ → Rec → ℕ
answered_step n (rec.Served place c r code size via) = n + size
answered_step n _ = n

-- the bytes of all responses that were queued
abbrev pub answered_bytes : List Rec → ℕ
answered_bytes J = fold answered_step 0 J

-- the responses that were queued on connection c, joined: as many of its answers as were served
abbrev pub said_to : FilesAt → List Rec → ℕ → List ℕ
said_to files J c = concat (take (served J c) (answers files (wrote J c)))

-- the verdict on the next request of client c, the first that is not answered, if it wrote one more
abbrev pub next_verdict : List Rec → ℕ → Option Verdict
next_verdict J c = slice_get (verdicts (wrote J c)) (served J c)

-- the response to it
abbrev pub next_answer : FilesAt → List Rec → ℕ → Option (List ℕ)
next_answer files J c = slice_get (answers files (wrote J c)) (served J c)

-- ---- resets, and the end of a stream

abbrev pub reset_step : ℕ → Bool → Rec → Bool
reset_step c was (rec.Reset place d total) = if nat_eq d c then true else was
reset_step c was _ = was

-- the stream limit reset connection c
abbrev pub was_reset : List Rec → ℕ → Bool
was_reset J c = fold (reset_step c) false J

-- a place of the cluster
abbrev pub is_cluster : Place → Bool
is_cluster Front = true
is_cluster (Node n) = true
is_cluster (Client c) = false

abbrev pub said_fin : Result Said SegFault → Bool
said_fin (Ok s) = s.flags.fin
said_fin (Err fault) = false

abbrev pub fin_to : ℕ → Place → List ℕ → Bool
fin_to c (Client d) bytes = nat_eq d c && said_fin (decoded bytes c ToClient)
fin_to c Front bytes = false
fin_to c (Node n) bytes = false

abbrev pub fin_step : ℕ → Bool → Rec → Bool
fin_step c was (rec.Sent k from to bytes) = was || (is_cluster from && fin_to c to bytes)
fin_step c was _ = was

-- the cluster's FIN was sent to client c
abbrev pub fin_sent : List Rec → ℕ → Bool
fin_sent J c = fold (fin_step c) false J

-- ---- timers

abbrev pub is_place : Place → Place → Bool
is_place Front Front = true
is_place (Node n) (Node m) = nat_eq n m
is_place (Client c) (Client d) = nat_eq c d
is_place _ _ = false

abbrev pub is_kind : TimerKind → TimerKind → Bool
is_kind Tcp Tcp = true
is_kind Offer Offer = true
is_kind Ask Ask = true
is_kind Fetch Fetch = true
is_kind Ended Ended = true
is_kind Give Give = true
is_kind _ _ = false

abbrev pub armed_step : Place → ℕ → TimerKind → Bool → Rec → Bool
armed_step p c kind was (rec.Armed q d k) = if is_place q p && (nat_eq d c && is_kind k kind) then true else was
armed_step p c kind was (rec.Cleared q d k) = if is_place q p && (nat_eq d c && is_kind k kind) then false else was
armed_step p c kind was _ = was

-- the timer of this kind of connection c at a place runs: it was armed, and not cleared since
abbrev pub is_running : List Rec → Place → ℕ → TimerKind → Bool
is_running J p c kind = fold (armed_step p c kind) false J

-- ---- nodes that are closed

abbrev pub node_closed_step : ℕ → Bool → Rec → Bool
node_closed_step n was (rec.Closed m) = if nat_eq m n then true else was
node_closed_step n was _ = was

-- node n is closed: no first choice and no new share goes there
abbrev pub is_node_closed : List Rec → ℕ → Bool
is_node_closed J n = fold (node_closed_step n) false J

-- ---- clients that close their side

abbrev pub event_shuts : ℕ → Event → Bool
event_shuts c (event.Shut d) = nat_eq d c
event_shuts c _ = false

abbrev pub closed_step : ℕ → Bool → Rec → Bool
closed_step c was (rec.Event i e) = was || event_shuts c e
closed_step c was (rec.Inner e) = was || event_shuts c e
closed_step c was (rec.Aborted d) = was || nat_eq d c
closed_step c was (rec.Eof d) = was || nat_eq d c
closed_step c was _ = was

-- client c was shut or aborted, or took the end of its stream
abbrev pub has_closed : List Rec → ℕ → Bool
has_closed J c = fold (closed_step c) false J

-- ---- nodes, and admission

abbrev pub home_step : ℕ → Option ℕ → Rec → Option ℕ
home_step c home (rec.AssignedFirst d r path n add remove) = if nat_eq d c then Some n else home
home_step c home (rec.Released d) = if nat_eq d c then None else home
home_step c home _ = home

-- the node to which the first request of connection c was assigned, until its admission ended
abbrev pub home_told : List Rec → ℕ → Option ℕ
home_told J c = fold (home_step c) None J

-- What was assigned to a connection, each by its path and node, and whether the last of it is a first assignment that no node took.
pub record Assignments : Type 0 where
  pub list : List (List ℕ × ℕ)
  pub fresh : Bool

-- all but the last
abbrev pub without_last : List (List ℕ × ℕ) → List (List ℕ × ℕ)
without_last chosen = take (length chosen - 1) chosen

-- where the front end takes the connection again, a first assignment that no node took is void
abbrev pub assignments_taken : Place → Assignments → Assignments
assignments_taken Front s = record { list = if s.fresh then without_last s.list else s.list; fresh = false }
assignments_taken (Node n) s = record { list = s.list; fresh = false }
assignments_taken (Client d) s = s

abbrev pub assignments_step : ℕ → Assignments → Rec → Assignments
assignments_step c s (rec.AssignedFirst d r path n add remove) = if nat_eq d c then record { list = s.list ++ (path, n) ∷ []; fresh = true } else s
assignments_step c s (rec.AssignedLater d r path n add size queue) = if nat_eq d c then record { list = s.list ++ (path, n) ∷ []; fresh = false } else s
assignments_step c s (rec.Took place d epoch) = if nat_eq d c then assignments_taken place s else s
assignments_step c s _ = s

abbrev pub assignments : List Rec → ℕ → Assignments
assignments J c = fold (assignments_step c) (record { list = []; fresh = false }) J

-- the requests of connection c that were assigned, the first and all later ones in order, each by its path and node, but for those that
-- are void
abbrev pub assigned : List Rec → ℕ → List (List ℕ × ℕ)
assigned J c = (assignments J c).list

abbrev pub in_step : ℕ → Bool → Rec → Bool
in_step c was (rec.Admitted d) = if nat_eq d c then true else was
in_step c was (rec.Released d) = if nat_eq d c then false else was
in_step c was _ = was

-- connection c was admitted, and its admission has not ended
abbrev pub is_in : List Rec → ℕ → Bool
is_in J c = fold (in_step c) false J

abbrev pub waits_step : ℕ → Bool → Rec → Bool
waits_step c was (rec.Waits d) = if nat_eq d c then true else was
waits_step c was (rec.Admitted d) = if nat_eq d c then false else was
waits_step c was _ = was

-- connection c was to wait, and was not admitted since
abbrev pub waits : List Rec → ℕ → Bool
waits J c = fold (waits_step c) false J

-- ---- packets that a schedule puts on the way

abbrev pub touched_step : ℕ → Bool → Rec → Bool
touched_step c was (rec.Injected d) = if nat_eq d c then true else was
touched_step c was _ = was

-- a packet was put on the way from client c that its table did not give
abbrev pub is_touched : List Rec → ℕ → Bool
is_touched J c = fold (touched_step c) false J

-- ---- one connection

-- What a journal says of one connection.
pub record Tale : Type 0 where
  pub numbers : Option Numbers
  pub wrote : List ℕ
  pub accepted : List ℕ
  pub owner : Option Place
  pub epoch : ℕ
  pub served : ℕ
  pub served_bytes : ℕ
  pub was_reset : Bool
  pub fin_sent : Bool
  pub has_closed : Bool
  pub home : Option ℕ
  pub assigned : List (List ℕ × ℕ)
  pub fresh : Bool
  pub is_in : Bool
  pub waits : Bool
  pub touched : Bool

abbrev pub untold : Tale
untold = record {
  numbers = None;
  wrote = [];
  accepted = [];
  owner = None;
  epoch = 0;
  served = 0;
  served_bytes = 0;
  was_reset = false;
  fin_sent = false;
  has_closed = false;
  home = None;
  assigned = [];
  fresh = false;
  is_in = false;
  waits = false;
  touched = false;
}

-- what it says was assigned
abbrev pub assignments_of : Tale → Assignments
assignments_of t = record { list = t.assigned; fresh = t.fresh }

abbrev pub tale_step : ℕ → Tale → Rec → Tale
tale_step c t r = record {
  numbers = numbers_step c t.numbers r;
  wrote = wrote_step c t.wrote r;
  accepted = accepted_step c t.accepted r;
  owner = owner_step c t.owner r;
  epoch = epoch_step c t.epoch r;
  served = served_step c t.served r;
  served_bytes = served_bytes_step c t.served_bytes r;
  was_reset = reset_step c t.was_reset r;
  fin_sent = fin_step c t.fin_sent r;
  has_closed = closed_step c t.has_closed r;
  home = home_step c t.home r;
  assigned = (assignments_step c (assignments_of t) r).list;
  fresh = (assignments_step c (assignments_of t) r).fresh;
  is_in = in_step c t.is_in r;
  waits = waits_step c t.waits r;
  touched = touched_step c t.touched r;
}

-- a tale goes on by records
abbrev pub told_on : ℕ → Tale → List Rec → Tale
told_on c t rs = fold (tale_step c) t rs

unfoldable pub tale : List Rec → ℕ → Tale
tale J c = told_on c untold J

-- ---- records about one connection

abbrev pub goes_to : ℕ → Place → Bool
goes_to c (Client d) = nat_eq d c
goes_to c Front = false
goes_to c (Node n) = false

-- the record may change what is told of connection c
abbrev pub about : ℕ → Rec → Bool
about c (rec.Event i e) = event_shuts c e
about c (rec.Inner e) = event_shuts c e
about c (rec.Opened d isn iss wnd mss) = nat_eq d c
about c (rec.Wrote d bytes) = nat_eq d c
about c (rec.Accepted d bytes) = nat_eq d c
about c (rec.Eof d) = nat_eq d c
about c (rec.Aborted d) = nat_eq d c
about c (rec.Took place d epoch) = nat_eq d c
about c (rec.Gave place d epoch) = nat_eq d c
about c (rec.Waits d) = nat_eq d c
about c (rec.Admitted d) = nat_eq d c
about c (rec.Released d) = nat_eq d c
about c (rec.AssignedFirst d r path n add remove) = nat_eq d c
about c (rec.AssignedLater d r path n add size queue) = nat_eq d c
about c (rec.Served place d r code size via) = nat_eq d c
about c (rec.Reset place d total) = nat_eq d c
about c (rec.Injected d) = nat_eq d c
about c (rec.Sent k from to bytes) = is_cluster from && goes_to c to
about c _ = false
