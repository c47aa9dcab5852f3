-- The front end's step: it looks up what it keeps of the connection, does the rule of what came, puts it back, and tells the
-- dispatcher; where a connection ended, the first of the line is admitted behind it.
use Rattle.std.specs.Prelude.{ℕ, nat_lt, if◌then◌else◌, List, [], ◌∷◌, ◌++◌, Option, Some, None, Result, Ok, Err}
use Rattle.std.specs.FinMap as table
use Rattle.std.specs.List.{flat_map}
use Rattle.lard_answers.specs.Answers.{FilesAt}
use Rattle.lard_base.specs.declared.config.Config.{Config}
use Rattle.lard_base.specs.declared.ids.Millis.{Millis}
use Rattle.lard_base.specs.declared.parts.EndpointParts.{EndpointParts}
use Rattle.lard_base.specs.declared.place.Place.{Place}
use Rattle.lard_base.specs.declared.place.Place.TheVariants as place
use Rattle.lard_dispatch.specs.declared.dispatch.First.{First}
use Rattle.lard_dispatch.specs.declared.dispatch.First.TheVariants as first
use Rattle.lard_dispatch.specs.Books as books
use Rattle.lard_dispatch.specs.Books.{Dispatcher}
use Rattle.lard_dispatch.specs.Calls.{after_close, ended_answer, first_answer, later_answer}
use Rattle.lard_dispatch.specs.Laws.{Call, after_calls}
use Rattle.lard_dispatch.specs.Laws as call
use Rattle.lard_handoff_front.specs.Front.{next_epoch}
use Rattle.lard_handoff_front.specs.declared.row.FrontRow.{FrontRow}
use Rattle.lard_handoff_front.specs.declared.table.returns.Back.{Back}
use Rattle.lard_handoff_front.specs.declared.table.returns.Back.TheVariants as back
use Rattle.lard_rules.specs.declared.front.FrontState.{FrontState}
use Rattle.lard_rules.specs.declared.front.FrontTurn.{FrontTurn}
use Rattle.lard_rules.specs.Front.{FrontDeed, Drops, Says, Does, Did, FrontEnv, FrontPart, ask_of, back_answer, back_part, front_admitted, front_armed, front_asked, front_ended, front_gets, front_saying, front_taken, front_timer, given_sent, parts_back, reads_on}
use Rattle.lard_journal.specs.declared.rec.Rec.{Rec}
use Rattle.lard_journal.specs.declared.rec.Rec.TheVariants as rec
use Rattle.lard_loads.specs.Tally.{is_open}
use Rattle.lard_message.specs.declared.fault.MsgFault.{MsgFault}
use Rattle.lard_message.specs.declared.message.Body.{Body}
use Rattle.lard_message.specs.declared.message.Body.TheVariants as body
use Rattle.lard_message.specs.declared.message.Message.{Message}
use Rattle.lard_message.specs.Reading.{decoded_message}
use Rattle.lard_policy.specs.declared.first.FirstChoice.{FirstChoice}
use Rattle.lard_resend.specs.Pending.{held, put_list}
use Rattle.lard_rules.specs.declared.front.FrontIn.{FrontIn}
use Rattle.lard_rules.specs.declared.front.FrontIn.TheVariants as input
use Rattle.lard_rules.specs.declared.places.Out.{Out}
use Rattle.lard_rules.specs.Outs.{kind_change, timer_kinds, nothing_done}
use Rattle.lard_segment.specs.declared.segment.Dir.TheVariants.{ToCluster}
use Rattle.lard_segment.specs.Segment.{decoded}
use Rattle.lard_table.specs.Table.{put_or}

-- What never changes in a run, and the time.
pub record FrontSetting : Type 0 where
  pub files : FilesAt
  pub stream : ℕ  -- the most bytes of responses on one connection
  pub now : Millis

-- ---- what is kept

abbrev pub front_part : FrontState → ℕ → FrontPart
front_part s c = record { row = table.get s.conns c; rest = table.get s.rests c; kept = held s.kept c }

abbrev pub front_put : FrontState → ℕ → FrontPart → FrontState
front_put s c p = record s { conns = put_or s.conns c p.row; rests = put_or s.rests c p.rest; kept = put_list s.kept c p.kept }

-- no connection was taken, and nobody waits
abbrev pub no_connections : Config → FrontState
no_connections cfg = record { conns = table.empty; rests = table.empty; kept = table.empty; dispatch = books.dispatch_begun cfg }

abbrev pub front_env : FrontSetting → FrontState → ℕ → ℕ → FrontEnv
front_env k s c iss = record {
  serve = record { place = place.Front; c = c; files = k.files; stream = k.stream };
  iss = iss;
  now = k.now;
  first = λ path. first_answer s.dispatch path k.now;
  later = λ ask. later_answer s.dispatch ask k.now;
}

-- ---- what a turn comes to in a step

-- the records of the timers that changed, from what was kept before the step and after it
abbrev pub front_timers : ℕ → FrontPart → FrontPart → List Rec
front_timers c p q = flat_map (λ kind. kind_change place.Front c kind (front_armed p kind) (front_armed q kind)) timer_kinds

abbrev pub front_out_of : FrontTurn → List Rec → Out
front_out_of t timers = record { notes = t.notes; segments = t.segments; gave = t.gave; messages = t.messages; timers = timers; answered = t.answered }

-- connection c is put back, and the dispatcher was called so
abbrev pub put_back : FrontState → ℕ → Did → FrontState
put_back s c x = record (front_put s c x.part) { dispatch = after_calls s.dispatch x.calls }

abbrev pub front_did : FrontState → ℕ → Did → FrontState × Out
front_did s c x = (put_back s c x, front_out_of x.turn (front_timers c (front_part s c) x.part))

abbrev pub front_deed : FrontState → ℕ → FrontDeed → FrontState × Out
front_deed s c Drops = (s, nothing_done)
front_deed s c (Says turn) = (s, front_out_of turn [])
front_deed s c (Does x) = front_did s c x

-- ---- where a connection ended, the first of the line is admitted

abbrev pub front_joined : FrontTurn → FrontTurn → FrontTurn
front_joined t u = record { notes = t.notes ++ u.notes; segments = t.segments ++ u.segments; gave = t.gave ++ u.gave; messages = t.messages ++ u.messages; answered = t.answered }

-- timers stand in the order of the connections' numbers
abbrev pub in_order : ℕ → ℕ → List Rec → List Rec → List Rec
in_order c d cs ds = if nat_lt d c then ds ++ cs else cs ++ ds

-- the head d is handed off as well
abbrev pub admits_too : FrontState → FrontState → ℕ → Did → ℕ → Option (FrontPart × FrontTurn) → FrontState × Out
admits_too old s c x d None = (s, front_out_of x.turn (front_timers c (front_part old c) x.part))
admits_too old s c x d (Some y) =
    (front_put s d y.0, front_out_of (front_joined x.turn y.1) (in_order c d (front_timers c (front_part old c) x.part) (front_timers d (front_part s d) y.0)))

abbrev pub admits : FrontSetting → FrontState → FrontState → ℕ → Did → Option (ℕ × FirstChoice) → FrontState × Out
admits k old s c x None = (s, front_out_of x.turn (front_timers c (front_part old c) x.part))
admits k old s c x (Some next) = admits_too old s c x next.0 (front_admitted (front_env k s next.0 0) (front_part s next.0) next.1)

-- what an end comes to: its connection is put back and released, and the head is admitted by the books after that
abbrev pub ended_deed : FrontSetting → FrontState → ℕ → FrontDeed → FrontState × Out
ended_deed k s c Drops = (s, nothing_done)
ended_deed k s c (Says turn) = (s, front_out_of turn [])
ended_deed k s c (Does x) = admits k s (put_back s c x) c x (ended_answer s.dispatch c k.now)

-- ---- nodes that close

-- the note that a node is closed, where it was open
abbrev pub closed_note : Dispatcher → ℕ → List Rec
closed_note d n = if is_open d.books.loads n then rec.Closed n ∷ [] else []

-- no new connection and no new share goes to node n from now on; what is there stays
abbrev pub front_drains : FrontState → ℕ → FrontState × Out
front_drains s n = (record s { dispatch = after_close s.dispatch n }, record nothing_done { notes = closed_note s.dispatch n })

-- ---- a connection that comes back

-- the node that it comes from is closed, and it is released
abbrev pub back_calls : ℕ → ℕ → Millis → List Call
back_calls from c now = call.Close from ∷ call.Ended c now ∷ []

-- The first of the line, where it is handed off: the state behind that, what it does, and where the records of its timers stand.
pub record HeadTurn : Type 0 where
  pub state : FrontState
  pub turn : FrontTurn
  pub timers : List Rec → List Rec  -- among those of the connection that made room
  pub first : List ℕ → First  -- what becomes of a connection behind it, with its first request for this path

abbrev pub no_head : FrontSetting → FrontState → HeadTurn
no_head k s = record { state = s; turn = front_saying []; timers = λ rs. rs; first = λ path. first_answer s.dispatch path k.now }

-- a line stands only where there is no room, and its head takes what came free
abbrev pub handed_head : FrontSetting → FrontState → ℕ → ℕ → Option (FrontPart × FrontTurn) → HeadTurn
handed_head k s c d None = no_head k s
handed_head k s c d (Some y) = record {
  state = front_put s d y.0;
  turn = y.1;
  timers = λ rs. in_order c d rs (front_timers d (front_part s d) y.0);
  first = λ path. first.Waits;
}

abbrev pub head_turn : FrontSetting → FrontState → ℕ → Option (ℕ × FirstChoice) → HeadTurn
head_turn k s c None = no_head k s
head_turn k s c (Some next) = handed_head k s c next.0 (front_admitted (front_env k s next.0 0) (front_part s next.0) next.1)

abbrev pub env_behind : FrontSetting → HeadTurn → ℕ → FrontEnv
env_behind k h c = record (front_env k h.state c 0) { first = h.first }

-- taken by the front end, released, and between the two the node is closed
abbrev pub returned_notes : Dispatcher → ℕ → ℕ → FrontRow → List Rec
returned_notes d from c row = rec.Took place.Front c (next_epoch row) ∷ closed_note d from ++ rec.Released c ∷ []

-- behind these notes and messages stands the head of the line, and behind that the rest
abbrev pub returned_turn : List Rec → List (Place × List ℕ) → FrontTurn → FrontTurn → FrontTurn
returned_turn notes said h t = record {
  notes = notes ++ h.notes ++ t.notes;
  segments = h.segments ++ t.segments;
  gave = h.gave ++ t.gave;
  messages = said ++ h.messages ++ t.messages;
  answered = t.answered;
}

-- what it reads on to, behind the head
abbrev pub goes_behind : FrontState → ℕ → List Rec → List (Place × List ℕ) → HeadTurn → FrontDeed → FrontState × Out
goes_behind old c notes said h Drops = (h.state, front_out_of (returned_turn notes said h.turn (front_saying [])) (h.timers []))
goes_behind old c notes said h (Says t) = (h.state, front_out_of (returned_turn notes said h.turn t) (h.timers []))
goes_behind old c notes said h (Does x) = (put_back h.state c x, front_out_of (returned_turn notes said h.turn x.turn) (h.timers (front_timers c (front_part old c) x.part)))

-- the connection as it comes back, by the books after its release
abbrev pub put_returned : FrontSetting → FrontState → ℕ → ℕ → FrontRow → EndpointParts → FrontState
put_returned k s from c row parts = record (front_put s c (back_part (front_part s c) row parts)) { dispatch = after_calls s.dispatch (back_calls from c k.now) }

abbrev pub returns : FrontSetting → FrontState → ℕ → ℕ → List (Place × List ℕ) → FrontRow → EndpointParts → FrontState × Out
returns k s from c said row parts =
    let h = head_turn k (put_returned k s from c row parts) c (ended_answer (after_close s.dispatch from) c k.now) in
    goes_behind s c (returned_notes s.dispatch from c row) said h (reads_on (env_behind k h c) (front_part s c) row parts)

abbrev pub returned_deed : FrontSetting → FrontState → ℕ → ℕ → List (Place × List ℕ) → Option FrontRow → Back → Option EndpointParts → FrontState × Out
returned_deed k s from c said (Some row) (back.New next) (Some parts) = returns k s from c said row parts
returned_deed k s from c said (Some row) (back.New next) None = (s, nothing_done)
returned_deed k s from c said (Some row) back.Again parts = (s, front_out_of (front_saying said) [])
returned_deed k s from c said (Some row) back.Stale parts = (s, nothing_done)
returned_deed k s from c said None answer parts = (s, nothing_done)

abbrev pub comes_back : FrontSetting → FrontState → ℕ → ℕ → ℕ → Option EndpointParts → FrontState × Out
comes_back k s from c epoch given =
    let p = front_part s c in
    returned_deed k s from c (given_sent c from epoch given) p.row (back_answer from epoch given p.row) (parts_back p given)

-- ---- messages

-- each kind of message that a node sends to the front end; any other is dropped
abbrev pub front_told : FrontSetting → FrontState → ℕ → ℕ → ℕ → Body → FrontState × Out
front_told k s from c epoch body.Taken = front_deed s c (front_taken (front_part s c) epoch)
front_told k s from c epoch (body.Ask number queue size paths) = front_deed s c (front_asked (front_env k s c 0) (front_part s c) from epoch (ask_of c from number queue size paths))
front_told k s from c epoch (body.Ended reason snd rcv count) =
    ended_deed k s c (front_ended (front_env k s c 0) (front_part s c) from epoch (record { reason = reason; snd = record { 0 = snd }; rcv = record { 0 = rcv } }))
front_told k s from c epoch body.Refused = comes_back k s from c epoch None
front_told k s from c epoch (body.Give parts) = comes_back k s from c epoch (Some parts)
front_told k s from c epoch _ = (s, nothing_done)

-- what does not decode is dropped
abbrev pub message_comes : FrontSetting → FrontState → ℕ → Result Message MsgFault → FrontState × Out
message_comes k s from (Err fault) = (s, nothing_done)
message_comes k s from (Ok m) = front_told k s from m.c m.epoch.0 m.body

-- ---- one step

abbrev pub front_step : FrontSetting → FrontState → FrontIn → FrontState × Out
front_step k s (input.Segment c iss bytes) = front_deed s c (front_gets (front_env k s c iss.0) (front_part s c) bytes (decoded bytes c ToCluster))
front_step k s (input.Message from bytes) = message_comes k s from (decoded_message bytes)
front_step k s (input.Drain n) = front_drains s n
front_step k s (input.Timer c) = front_deed s c (front_timer (front_env k s c 0) (front_part s c))
