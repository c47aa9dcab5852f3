-- The rules of the front end, each over what it keeps of one connection.
use Rattle.std.specs.Prelude.{ℕ, ◌+◌, ◌==◌, nat_lt, ◌&&◌, Bool, true, false, not, if◌then◌else◌, List, [], ◌∷◌, ◌++◌, length, map, Option, Some, None, Result, Ok, Err}
use Rattle.std.specs.List.{list_any}
use Rattle.lard_base.specs.declared.ids.Epoch.{Epoch}
use Rattle.lard_base.specs.declared.ids.Millis.{Millis}
use Rattle.lard_base.specs.declared.parts.EndpointParts.{EndpointParts}
use Rattle.lard_base.specs.declared.place.Place.{Place}
use Rattle.lard_base.specs.declared.place.Place.TheVariants as place
use Rattle.lard_base.specs.declared.place.TimerKind.{TimerKind}
use Rattle.lard_base.specs.declared.place.TimerKind.TheVariants as kind
use Rattle.lard_costs.specs.declared.later.LaterChoice.{LaterChoice}
use Rattle.lard_dispatch.specs.declared.dispatch.Ask.{Ask}
use Rattle.lard_dispatch.specs.declared.dispatch.First.{First}
use Rattle.lard_dispatch.specs.declared.dispatch.First.TheVariants as first
use Rattle.lard_dispatch.specs.declared.dispatch.Later.{Later}
use Rattle.lard_dispatch.specs.Laws.{Call}
use Rattle.lard_dispatch.specs.Laws as call
use Rattle.lard_endpoint.specs.declared.control.moving.Final.{Final}
use Rattle.lard_endpoint.specs.Arriving.{on_segment}
use Rattle.lard_endpoint.specs.Control.{ControlBlock, listening}
use Rattle.lard_endpoint.specs.Leaving.{timed, after_timer}
use Rattle.lard_endpoint.specs.Moving.{adopted, parts_of}
use Rattle.lard_rules.specs.declared.front.FrontRest.{FrontRest}
use Rattle.lard_rules.specs.declared.front.FrontTurn.{FrontTurn}
use Rattle.lard_rules.specs.FrontReading.{Reading, front_reads}
use Rattle.lard_handoff_front.specs.declared.row.FrontConn.{FrontConn}
use Rattle.lard_handoff_front.specs.declared.row.FrontConn.TheVariants as stage
use Rattle.lard_handoff_front.specs.declared.row.FrontRow.{FrontRow}
use Rattle.lard_handoff_front.specs.declared.table.OnEnded.{OnEnded}
use Rattle.lard_handoff_front.specs.declared.table.OnEnded.TheVariants.{New, Again, Stale}
use Rattle.lard_handoff_front.specs.declared.table.returns.Back.{Back}
use Rattle.lard_handoff_front.specs.declared.table.returns.Back.TheVariants as back
use Rattle.lard_handoff_front.specs.Front.{asked_node, end_answer, ended_row, next_epoch}
use Rattle.lard_handoff_front.specs.Returns.{give_answer, refused_answer, returned_row}
use Rattle.lard_journal.specs.declared.rec.Rec.{Rec}
use Rattle.lard_journal.specs.declared.rec.Rec.TheVariants as rec
use Rattle.lard_message.specs.declared.fault.MsgFault.{MsgFault}
use Rattle.lard_message.specs.declared.message.Body.{Body}
use Rattle.lard_message.specs.declared.message.Body.TheVariants as body
use Rattle.lard_message.specs.declared.message.Message.{Message}
use Rattle.lard_message.specs.Message.{spelled_message}
use Rattle.lard_message.specs.Reading.{decoded_message}
use Rattle.lard_policy.specs.declared.first.FirstChoice.{FirstChoice}
use Rattle.lard_resend.specs.declared.kept.Kept.{Kept}
use Rattle.lard_resend.specs.Kept.{kind_rank, without}
use Rattle.lard_resend.specs.Pending.{sent_of}
use Rattle.lard_rules.specs.declared.places.Ending.{Ending}
use Rattle.lard_rules.specs.declared.places.Ending.TheVariants.{Here, Over}
use Rattle.lard_rules.specs.declared.places.Turn.{Turn}
use Rattle.lard_rules.specs.Tombstone.{is_plain_syn, last_words, tombstone}
use Rattle.lard_rules.specs.Serving.{ServeEnv, Service, serving_ready_of, serving, serving_settled, spoken}
use Rattle.lard_segment.specs.declared.fault.SegFault.{SegFault}
use Rattle.lard_segment.specs.Segment.{Said}
use Rattle.lard_send.specs.Send.{is_clear}

-- What the rules rest on beside what is kept of the connection: the dispatcher's answers, at this time, come in as functions.
pub record FrontEnv : Type 0 where
  pub serve : ServeEnv  -- the place that serves is the front end
  pub iss : ℕ  -- the sequence number with which the cluster begins
  pub now : Millis
  pub first : List ℕ → First  -- what becomes of the connection with its first request, for this path
  pub later : Ask → Later

-- ---- what is kept of one connection

pub record FrontPart : Type 0 where
  pub row : Option FrontRow
  pub rest : Option FrontRest
  pub kept : List Kept  -- its Offer, where that awaits an answer

-- What a rule gives: what is kept then, the turn, and what the dispatcher was asked and told, in order.
pub record Did : Type 0 where
  pub part : FrontPart
  pub turn : FrontTurn
  pub calls : List Call

-- What a rule comes to: it drops what came, or does this and keeps what it kept, or does and keeps this.
pub data FrontDeed : Type 0 where
  Drops : FrontDeed
  Says : FrontTurn → FrontDeed
  Does : Did → FrontDeed

-- ---- turns

-- a turn of an endpoint that is here
abbrev pub turn_here : Turn → FrontTurn
turn_here t = record { notes = t.notes; segments = t.segments; gave = []; messages = []; answered = t.answered }

-- messages go out, and nothing else is done
abbrev pub front_saying : List (Place × List ℕ) → FrontTurn
front_saying messages = record { notes = []; segments = []; gave = []; messages = messages; answered = 0 }

abbrev pub message : ℕ → ℕ → Body → List ℕ
message c epoch b = spelled_message (record { c = c; epoch = record { 0 = epoch }; body = b })

-- ---- an endpoint that is here

-- nothing is known of what was done before a connection began
abbrev pub front_rest : Option FrontRest → FrontRest
front_rest None = record { count = 0; asks = 0; tag = []; assigned = 0; target = None }
front_rest (Some rest) = rest

-- it stays in this stage, or it ended
abbrev pub stage_after : (ControlBlock → FrontConn) → Ending → FrontConn
stage_after stays (Here b count) = stays b
stage_after stays (Over last) = stage.Closed last

abbrev pub rest_after : FrontRest → Ending → Option FrontRest
rest_after rest (Here b count) = Some (record rest { count = count })
rest_after rest (Over last) = None

abbrev pub front_rests : FrontPart → FrontRow → FrontRest → (ControlBlock → FrontConn) → Ending → FrontPart
front_rests p row rest stays e = record p { row = Some (record row { stage = stage_after stays e }); rest = rest_after rest e }

-- A held connection goes on, or ends; the dispatcher knows nothing of it.
abbrev pub holds : FrontPart → FrontRow → FrontRest → Ending × Turn → FrontDeed
holds p row rest given = Does (record { part = front_rests p row rest stage.Held given.0; turn = turn_here given.1; calls = [] })

-- A waiting one goes on to wait, or ends, and leaves the line then.
abbrev pub leaves_by : ℕ → Ending → List Call
leaves_by c (Here b count) = []
leaves_by c (Over last) = call.Leave c ∷ []

abbrev pub waits_on : FrontEnv → FrontPart → FrontRow → FrontRest → Ending × Turn → FrontDeed
waits_on env p row rest given = Does (record { part = front_rests p row rest stage.Waiting given.0; turn = turn_here given.1; calls = leaves_by env.serve.c given.0 })

-- ---- the hand-off

abbrev pub offer_kept : ℕ → FrontRow → ControlBlock → ℕ → ℕ → Kept
offer_kept c row b count node = record { kind = kind.Offer; r = 0; to = place.Node node; bytes = message c (next_epoch row).0 (body.Offer (parts_of b count)) }

-- It is on its way to the node, in the next epoch.
abbrev pub offering : FrontEnv → FrontRow → Service → List ℕ → ℕ → FrontPart
offering env row w path node = record {
  row = Some (record { stage = stage.Offering node (next_epoch row); epoch = next_epoch row; ended_by = None });
  rest = Some (record { count = w.count; asks = 0; tag = []; assigned = w.count + 1; target = None });
  kept = offer_kept env.serve.c row w.block w.count node ∷ [];
}

-- The endpoint is frozen as it is, with its unread bytes: nothing is sent of it any more, also no ACK that is owed, since the
-- one that goes on from it owes one. The front end gives the connection up, and offers it until the node answers.
abbrev pub handed_off : FrontEnv → FrontRow → Service → List ℕ → FirstChoice → FrontPart × FrontTurn
handed_off env row w path choice = (
  offering env row w path choice.node,
  record {
    notes = w.notes ++ rec.Admitted env.serve.c ∷ rec.AssignedFirst env.serve.c (w.count + 1) path choice.node choice.add choice.remove ∷ [];
    segments = [];
    gave = rec.Gave place.Front env.serve.c row.epoch ∷ [];
    messages = sent_of (offer_kept env.serve.c row w.block w.count choice.node) ∷ [];
    answered = w.answered;
  },
)

-- The dispatcher admits it to a node, or it waits, last of the line, and says what it may.
abbrev pub placed : FrontEnv → FrontPart → FrontRow → FrontRest → Service → List ℕ → First → Did
placed env p row rest w path (first.Go choice) =
    record { part = (handed_off env row w path choice).0; turn = (handed_off env row w path choice).1; calls = call.First env.serve.c path env.now ∷ [] }
placed env p row rest w path first.Waits =
    let given = spoken env.serve (record w { notes = w.notes ++ rec.Waits env.serve.c ∷ [] }) [] in
    record {
      part = front_rests p row (record rest { target = Some path }) stage.Waiting given.0;
      turn = turn_here given.1;
      calls = call.First env.serve.c path env.now ∷ leaves_by env.serve.c given.0;
    }

-- ---- segments

-- what was read is said, or the connection is placed
abbrev pub settled_by : FrontEnv → FrontPart → FrontRow → FrontRest → Service → Option (List ℕ) → FrontDeed
settled_by env p row rest w None = holds p row rest (serving_settled env.serve w)
settled_by env p row rest w (Some path) = Does (placed env p row rest w path (env.first path))

abbrev pub front_read_by : FrontEnv → FrontPart → FrontRow → FrontRest → Reading → FrontDeed
front_read_by env p row rest x = settled_by env p row rest x.service x.target

-- The endpoint takes a segment, and the front end reads what it may.
abbrev pub heard : FrontEnv → FrontPart → FrontRow → FrontRest → ControlBlock → FrontDeed
heard env p row rest b = front_read_by env p row rest (front_reads env.serve (record { service = serving b rest.count []; target = None }))

-- The front end listens to every client (RFC 9293, 3.10.7.2), and is the first owner of the connection.
abbrev pub front_begun : FrontEnv → FrontPart → Said → FrontDeed
front_begun env p s = holds p (record { stage = stage.Lent; epoch = record { 0 = 1 }; ended_by = None }) (front_rest None)
    (spoken env.serve (serving (listening s env.iss) 0 (rec.Took place.Front env.serve.c (record { 0 = 1 }) ∷ [])) [])

abbrev pub met : FrontEnv → FrontPart → Said → FrontDeed
met env p s = if is_plain_syn s then front_begun env p s else Drops

-- A segment of a connection that is away goes to its node, as it came.
abbrev pub forwarded : FrontEnv → ℕ → Epoch → List ℕ → FrontDeed
forwarded env node epoch bytes = Says (front_saying ((place.Node node, message env.serve.c epoch.0 (body.Forward bytes)) ∷ []))

abbrev pub hears_at : FrontEnv → FrontPart → FrontRow → List ℕ → Said → FrontConn → FrontDeed
hears_at env p row bytes s (stage.Held b) = heard env p row (front_rest p.rest) (on_segment b s).1
hears_at env p row bytes s (stage.Waiting b) = waits_on env p row (front_rest p.rest) (spoken env.serve (serving (on_segment b s).1 (front_rest p.rest).count []) [])
hears_at env p row bytes s stage.Lent = Drops
hears_at env p row bytes s (stage.Offering node epoch) = forwarded env node epoch bytes
hears_at env p row bytes s (stage.Moved node epoch) = forwarded env node epoch bytes
hears_at env p row bytes s (stage.Closed last) = Says (turn_here (tombstone env.serve (last_words last.reason last s)))

abbrev pub front_hears : FrontEnv → FrontPart → List ℕ → Said → Option FrontRow → FrontDeed
front_hears env p bytes s None = met env p s
front_hears env p bytes s (Some row) = hears_at env p row bytes s row.stage

-- What does not decode is dropped.
abbrev pub front_gets : FrontEnv → FrontPart → List ℕ → Result Said SegFault → FrontDeed
front_gets env p bytes (Err fault) = Drops
front_gets env p bytes (Ok s) = front_hears env p bytes s p.row

-- ---- messages of nodes

-- A node took the connection: the Offer is not told again.
abbrev pub taken_by : FrontPart → ℕ → Option FrontRow → Option ℕ → FrontDeed
taken_by p epoch None asked = Drops
taken_by p epoch (Some row) None = Drops
taken_by p epoch (Some row) (Some node) =
    Does (record { part = record p { row = Some (record row { stage = stage.Moved node (record { 0 = epoch }) }); kept = without kind.Offer 0 p.kept }; turn = front_saying []; calls = [] })

abbrev pub front_taken : FrontPart → ℕ → FrontDeed
front_taken p epoch = taken_by p epoch p.row (asked_node epoch p.row)

-- the connection is with this node, in this epoch
abbrev pub is_with : ℕ → ℕ → FrontConn → Bool
is_with from epoch (stage.Offering node e) = node == from && e.0 == epoch
is_with from epoch (stage.Moved node e) = node == from && e.0 == epoch
is_with from epoch (stage.Held b) = false
is_with from epoch (stage.Waiting b) = false
is_with from epoch stage.Lent = false
is_with from epoch (stage.Closed last) = false

abbrev pub is_row_at : ℕ → ℕ → Option FrontRow → Bool
is_row_at from epoch None = false
is_row_at from epoch (Some row) = is_with from epoch row.stage

abbrev pub tag_sent : FrontEnv → ℕ → ℕ → ℕ → List ℕ → List (Place × List ℕ)
tag_sent env from epoch number nodes = (place.Node from, message env.serve.c epoch (body.Tag number nodes)) ∷ []

-- the requests of an Ask are assigned, in order, with numbers that go on from the last
abbrev pub assigned_notes : ℕ → Ask → ℕ → List (List ℕ) → List LaterChoice → List Rec
assigned_notes c ask r [] choices = []
assigned_notes c ask r (path ∷ paths) [] = []
assigned_notes c ask r (path ∷ paths) (choice ∷ choices) =
    rec.AssignedLater c (r + 1) path choice.node choice.add ask.size ask.queue ∷ assigned_notes c ask (r + 1) paths choices

-- shares of the batch before are over, where some were open
abbrev pub over_note : ℕ → Bool → List Rec
over_note c true = rec.BatchOver c ∷ []
over_note c false = []

abbrev pub assigns : FrontEnv → FrontPart → FrontRest → ℕ → ℕ → Ask → Later → Did
assigns env p rest from epoch ask l = record {
  part = record p { rest = Some (record rest { asks = ask.number; tag = map (λ x. x.node) l.choices; assigned = rest.assigned + length l.choices }) };
  turn = record (front_saying (tag_sent env from epoch ask.number (map (λ x. x.node) l.choices))) { notes = over_note env.serve.c l.over ++ assigned_notes env.serve.c ask rest.assigned ask.paths l.choices };
  calls = call.Later ask env.now ∷ [];
}

-- An Ask of the connection's node in its epoch: the last that was answered gets the same Tag again, the next one is new, and any
-- other is dropped.
abbrev pub asked_by : FrontEnv → FrontPart → ℕ → ℕ → Ask → Option FrontRest → FrontDeed
asked_by env p from epoch ask None = Drops
asked_by env p from epoch ask (Some rest) =
    if ask.number == rest.asks + 1 then Does (assigns env p rest from epoch ask (env.later ask)) else
    if ask.number == rest.asks && nat_lt 0 rest.asks then Says (front_saying (tag_sent env from epoch rest.asks rest.tag)) else
    Drops

abbrev pub ask_of : ℕ → ℕ → ℕ → ℕ → ℕ → List (List ℕ) → Ask
ask_of c home number queue size paths = record { c = c; home = home; number = number; queue = queue; size = size; paths = paths }

abbrev pub front_asked : FrontEnv → FrontPart → ℕ → ℕ → Ask → FrontDeed
front_asked env p from epoch ask = if is_row_at from epoch p.row then asked_by env p from epoch ask p.rest else Drops

-- The connection ended at its node: the front end takes it in the next epoch, keeps its last numbers, and releases it. The first
-- of the line is admitted in the same step. Told again, it acknowledges again.
abbrev pub ack_sent : FrontEnv → ℕ → ℕ → List (Place × List ℕ)
ack_sent env from epoch = (place.Node from, message env.serve.c epoch body.EndedAck) ∷ []

abbrev pub front_ends : FrontEnv → FrontPart → ℕ → ℕ → Final → FrontRow → Epoch → Did
front_ends env p from epoch last row next = record {
  part = record { row = Some (ended_row (record { 0 = epoch }) last row); rest = None; kept = without kind.Offer 0 p.kept };
  turn = record (front_saying (ack_sent env from epoch)) { notes = rec.Took place.Front env.serve.c next ∷ rec.Released env.serve.c ∷ [] };
  calls = call.Ended env.serve.c env.now ∷ [];
}

abbrev pub front_ended_by : FrontEnv → FrontPart → ℕ → ℕ → Final → Option FrontRow → OnEnded → FrontDeed
front_ended_by env p from epoch last None given = Drops
front_ended_by env p from epoch last (Some row) (New next) = Does (front_ends env p from epoch last row next)
front_ended_by env p from epoch last (Some row) Again = Says (front_saying (ack_sent env from epoch))
front_ended_by env p from epoch last (Some row) Stale = Drops

abbrev pub front_ended : FrontEnv → FrontPart → ℕ → ℕ → Final → FrontDeed
front_ended env p from epoch last = front_ended_by env p from epoch last p.row (end_answer epoch p.row)

-- ---- a connection that comes back

-- the endpoint that an Offer carries
abbrev pub parts_in : Body → Option EndpointParts
parts_in (body.Offer parts) = Some parts
parts_in _ = None

abbrev pub parts_read : Result Message MsgFault → Option EndpointParts
parts_read (Err fault) = None
parts_read (Ok m) = parts_in m.body

-- that of the Offer that is kept until its node answers
abbrev pub parts_kept : List Kept → Option EndpointParts
parts_kept [] = None
parts_kept (k ∷ ks) = parts_read (decoded_message k.bytes)

-- Its node refused it, and the front end goes on from the Offer that it keeps; or gives it back, with the endpoint as it is now.
abbrev pub parts_back : FrontPart → Option EndpointParts → Option EndpointParts
parts_back p None = parts_kept p.kept
parts_back p (Some parts) = Some parts

-- a Give is answered, a refusal is not
abbrev pub given_sent : ℕ → ℕ → ℕ → Option EndpointParts → List (Place × List ℕ)
given_sent c from epoch None = []
given_sent c from epoch (Some parts) = (place.Node from, message c epoch body.Given) ∷ []

-- the front end is past this epoch of the connection
abbrev pub is_behind : ℕ → Option FrontRow → Bool
is_behind epoch None = false
is_behind epoch (Some row) = nat_lt epoch row.epoch.0

-- It counts from the node where the connection is, in its epoch. Told again, a Give is answered again.
abbrev pub back_answer : ℕ → ℕ → Option EndpointParts → Option FrontRow → Back
back_answer from epoch None o = if is_row_at from epoch o then refused_answer epoch o else back.Stale
back_answer from epoch (Some parts) o = if is_row_at from epoch o then give_answer epoch o else if is_behind epoch o then back.Again else back.Stale

-- It is held again, in the next epoch, with the responses that it had; no answer to its Offer is awaited.
abbrev pub back_rest : EndpointParts → FrontRest
back_rest parts = record (front_rest None) { count = parts.served }

abbrev pub back_part : FrontPart → FrontRow → EndpointParts → FrontPart
back_part p row parts = record { row = Some (returned_row parts row); rest = Some (back_rest parts); kept = without kind.Offer 0 p.kept }

-- that the front end takes it and releases it
abbrev pub back_notes : ℕ → FrontRow → List Rec
back_notes c row = rec.Took place.Front c (next_epoch row) ∷ rec.Released c ∷ []

-- these notes and messages stand before all others
abbrev pub stands_first : List Rec → List (Place × List ℕ) → FrontTurn → FrontTurn
stands_first notes messages t = record t { notes = notes ++ t.notes; messages = messages ++ t.messages }

abbrev pub does_first : List Rec → List (Place × List ℕ) → FrontDeed → FrontDeed
does_first notes messages Drops = Drops
does_first notes messages (Says t) = Says (stands_first notes messages t)
does_first notes messages (Does x) = Does (record x { turn = stands_first notes messages x.turn })

-- what was read behind its return is said, or it is placed anew
abbrev pub reads_on : FrontEnv → FrontPart → FrontRow → EndpointParts → FrontDeed
reads_on env p row parts = heard env (back_part p row parts) (returned_row parts row) (back_rest parts) (adopted parts)

abbrev pub returned_by : FrontEnv → FrontPart → List (Place × List ℕ) → Option FrontRow → Back → Option EndpointParts → FrontDeed
returned_by env p said (Some row) (back.New next) (Some parts) = does_first (back_notes env.serve.c row) said (reads_on env p row parts)
returned_by env p said (Some row) (back.New next) None = Drops
returned_by env p said (Some row) back.Again parts = Says (front_saying said)
returned_by env p said (Some row) back.Stale parts = Drops
returned_by env p said None answer parts = Drops

-- The front end takes it in the next epoch, and releases it; where an Offer of it awaits an answer, it does so no longer. It reads on, so
-- that the next good request is placed anew.
abbrev pub front_returned : FrontEnv → FrontPart → ℕ → ℕ → Option EndpointParts → FrontDeed
front_returned env p from epoch given = returned_by env p (given_sent env.serve.c from epoch given) p.row (back_answer from epoch given p.row) (parts_back p given)

-- ---- the head of the line

-- A waiting connection is handed off as the dispatcher says, in the step in which another one ended.
abbrev pub front_admitted_with : FrontEnv → FrontRow → FrontRest → ControlBlock → FirstChoice → Option (List ℕ) → Option (FrontPart × FrontTurn)
front_admitted_with env row rest b choice None = None
front_admitted_with env row rest b choice (Some path) = Some (handed_off env row (serving b rest.count []) path choice)

abbrev pub admitted_at : FrontEnv → FrontPart → FirstChoice → FrontRow → FrontConn → Option (FrontPart × FrontTurn)
admitted_at env p choice row (stage.Waiting b) = front_admitted_with env row (front_rest p.rest) b choice (front_rest p.rest).target
admitted_at env p choice row (stage.Held b) = None
admitted_at env p choice row stage.Lent = None
admitted_at env p choice row (stage.Offering node epoch) = None
admitted_at env p choice row (stage.Moved node epoch) = None
admitted_at env p choice row (stage.Closed last) = None

abbrev pub admitted_by : FrontEnv → FrontPart → FirstChoice → Option FrontRow → Option (FrontPart × FrontTurn)
admitted_by env p choice None = None
admitted_by env p choice (Some row) = admitted_at env p choice row row.stage

abbrev pub front_admitted : FrontEnv → FrontPart → FirstChoice → Option (FrontPart × FrontTurn)
front_admitted env p choice = admitted_by env p choice p.row

-- ---- timers

-- The endpoint's timer fires (RFC 9293, 3.10.8), or the Offer that awaits an answer is sent again.
abbrev pub front_fired : FrontEnv → FrontRest → ControlBlock → Ending × Turn
front_fired env rest b = spoken env.serve (serving (after_timer b) rest.count []) (serving_ready_of env.serve (after_timer b) (timed b))

abbrev pub fires_at : FrontEnv → FrontPart → FrontRow → FrontConn → FrontDeed
fires_at env p row (stage.Held b) = holds p row (front_rest p.rest) (front_fired env (front_rest p.rest) b)
fires_at env p row (stage.Waiting b) = waits_on env p row (front_rest p.rest) (front_fired env (front_rest p.rest) b)
fires_at env p row stage.Lent = Drops
fires_at env p row (stage.Offering node epoch) = Says (front_saying (map sent_of p.kept))
fires_at env p row (stage.Moved node epoch) = Drops
fires_at env p row (stage.Closed last) = Drops

abbrev pub front_fired_by : FrontEnv → FrontPart → Option FrontRow → FrontDeed
front_fired_by env p None = Drops
front_fired_by env p (Some row) = fires_at env p row row.stage

abbrev pub front_timer : FrontEnv → FrontPart → FrontDeed
front_timer env p = front_fired_by env p p.row

-- what is armed at the front end for the connection
abbrev pub stage_armed : FrontConn → Bool
stage_armed (stage.Held b) = not (is_clear b.send)
stage_armed (stage.Waiting b) = not (is_clear b.send)
stage_armed stage.Lent = false
stage_armed (stage.Offering node epoch) = false
stage_armed (stage.Moved node epoch) = false
stage_armed (stage.Closed last) = false

abbrev pub row_armed : Option FrontRow → Bool
row_armed None = false
row_armed (Some row) = stage_armed row.stage

abbrev pub front_armed : FrontPart → TimerKind → Bool
front_armed p kind.Tcp = row_armed p.row
front_armed p kind.Offer = list_any (λ x. kind_rank x.kind == kind_rank kind.Offer) p.kept
front_armed p kind.Ask = false
front_armed p kind.Fetch = false
front_armed p kind.Ended = false
front_armed p kind.Give = false

-- ---- the rules as data

-- What comes to the front end for a connection: a segment of its client, its timer, a message of a node, or its turn as the head of the line.
pub data FrontGets : Type 0 where
  FrontHears : List ℕ → Result Said SegFault → FrontGets  -- these bytes, as they are read
  FrontFires : FrontGets
  TakenBy : ℕ → ℕ → FrontGets  -- from this node, in this epoch, as the next two
  AskedBy : ℕ → ℕ → Ask → FrontGets
  EndedBy : ℕ → ℕ → Final → FrontGets
  ReturnedBy : ℕ → ℕ → Option EndpointParts → FrontGets  -- refused, or given back with these parts
  FrontAdmits : FirstChoice → FrontPart × FrontTurn → FrontGets  -- and what comes of that

abbrev pub front_rule : FrontEnv → FrontPart → FrontGets → FrontDeed
front_rule env p (FrontHears bytes given) = front_gets env p bytes given
front_rule env p FrontFires = front_timer env p
front_rule env p (TakenBy from epoch) = front_taken p epoch
front_rule env p (AskedBy from epoch ask) = front_asked env p from epoch ask
front_rule env p (EndedBy from epoch last) = front_ended env p from epoch last
front_rule env p (ReturnedBy from epoch given) = front_returned env p from epoch given
front_rule env p (FrontAdmits choice given) = Does (record { part = given.0; turn = given.1; calls = [] })
