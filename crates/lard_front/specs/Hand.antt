-- What the code of the front end has in hand, as the rules have it.
use Rattle.std.specs.Prelude.{◌≡◌, ℕ, ◌<◌, ◌++◌, Bool, List, [], false, ◌∷◌, Option, Some, None}
use Rattle.std.specs.FinMap as table
use Rattle.lard_base.specs.declared.ids.Millis.{Millis}
use Rattle.lard_base.specs.declared.place.Place.TheVariants as place
use Rattle.lard_base.specs.declared.place.TimerKind.TheVariants as kind
use Rattle.lard_dispatch.specs.Books.{Dispatcher}
use Rattle.lard_dispatch.specs.Calls.{ended_answer, first_answer, later_answer}
use Rattle.lard_dispatch.specs.Laws.{after_calls}
use Rattle.lard_dispatch.specs.Line.{line_waits}
use Rattle.lard_dispatch.specs.Sound.{AreBefore}
use Rattle.lard_endpoint.specs.Control.{ControlBlock}
use Rattle.lard_endpoint.specs.Arriving.{on_segment}
use Rattle.lard_rules.specs.declared.front.FrontRest.{FrontRest}
use Rattle.lard_rules.specs.declared.front.FrontState.{FrontState}
use Rattle.lard_rules.specs.declared.front.FrontTurn.{FrontTurn}
use Rattle.lard_rules.specs.Front.{FrontDeed, Drops, Says, Does, FrontEnv, FrontPart, front_fired, front_armed, front_read_by, handed_off, heard, holds, leaves_by, front_rest, front_rests, front_saying, settled_by, turn_here, waits_on}
use Rattle.lard_rules.specs.FrontPlace.{front_part, front_put, front_out_of, put_back}
use Rattle.lard_rules.specs.FrontReading.{MayMove, Reading, front_reads}
use Rattle.lard_rules.specs.FrontSound.{OpenNodes, Serves, Waits}
use Rattle.lard_front.specs.declared.reading.Going.{Going}
use Rattle.lard_front.specs.declared.reading.Going.TheVariants.{On, Last}
use Rattle.lard_front.specs.declared.turns.Armed.{Armed}
use Rattle.lard_front.specs.declared.turns.Around.{Around}
use Rattle.lard_handoff_front.specs.declared.row.FrontConn.TheVariants as stage
use Rattle.lard_handoff_front.specs.declared.row.FrontRow.{FrontRow}
use Rattle.lard_handoff_front.specs.Front.{in_stage, with_stage}
use Rattle.lard_handoff_front.specs.Row.{held_in}
use Rattle.lard_journal.specs.declared.rec.Rec.{Rec}
use Rattle.lard_journal.specs.declared.rec.Rec.TheVariants as rec
use Rattle.lard_loads.specs.Tally.{home}
use Rattle.lard_policy.specs.declared.first.FirstChoice.{FirstChoice}
use Rattle.lard_resend.specs.Pending.{held}
use Rattle.lard_rules.specs.declared.places.Out.{Out}
use Rattle.lard_rules.specs.declared.places.Ending.{Ending}
use Rattle.lard_rules.specs.declared.places.Ending.TheVariants.{Here, Over}
use Rattle.lard_rules.specs.declared.places.Turn.{Turn}
use Rattle.lard_rules.specs.Loop.{Step}
use Rattle.lard_rules.specs.Loop as loop
use Rattle.lard_rules.specs.Outs.{kind_change}
use Rattle.lard_rules.specs.Serving.{Service, serving, spoken}
use Rattle.lard_segment.specs.Segment.{Said}
use Rattle.lard_serving.specs.declared.answering.Service.{Service as Served}
use Rattle.lard_serving.specs.Serving.{env_seen, service_of}

-- ---- reading

-- an endpoint and what was served of it, and the path of the next request where it is to be placed
abbrev pub reading_of : ControlBlock → Served → Option (List ℕ) → Reading
reading_of b w target = record { service = service_of b w; target = target }

-- what a turn of reading comes to
abbrev pub step_seen : ControlBlock → Served → Going → Step Reading
step_seen b w On = loop.More (reading_of b w None)
step_seen b w (Last target) = loop.Done (reading_of b w target)

abbrev pub MayGo : ControlBlock → Going → Type 0
MayGo b On = Unit {0}
MayGo b (Last target) = MayMove b target

-- ---- a turn

-- what the rules rest on, with the dispatcher as it is
abbrev pub front_env_of : Around → FrontState → FrontEnv
front_env_of e s = record {
  serve = env_seen e.serve;
  iss = e.iss.0;
  now = e.time;
  first = λ path. first_answer s.dispatch path e.time;
  later = λ ask. later_answer s.dispatch ask e.time;
}

-- nothing is done
abbrev pub front_silent : FrontTurn
front_silent = front_saying []

-- what a rule comes to: the state, and the turn
abbrev pub deed_turn : FrontState → ℕ → FrontDeed → FrontState × FrontTurn
deed_turn s c Drops = (s, front_silent)
deed_turn s c (Says turn) = (s, turn)
deed_turn s c (Does x) = (put_back s c x, x.turn)

-- the timers of a connection that run
abbrev pub armed_of : FrontPart → Armed
armed_of p = record { tcp = front_armed p kind.Tcp; offer = front_armed p kind.Offer }

-- the records of those that changed
abbrev pub changes : ℕ → Armed → Armed → List Rec
changes c was is = kind_change place.Front c kind.Tcp was.tcp is.tcp ++ kind_change place.Front c kind.Offer was.offer is.offer

-- what a turn on connection c comes to
abbrev pub out_by : ℕ → Armed → Armed → FrontTurn → Out
out_by c was is turn = front_out_of turn (changes c was is)

-- ---- an endpoint in hand

-- the endpoint of connection c is in hand
abbrev pub front_lent : FrontState → ℕ → FrontState
front_lent s c = record s { conns = with_stage s.conns c stage.Lent (table.get s.conns c) }

abbrev pub front_count_of : Option FrontRest → ℕ
front_count_of rest = (front_rest rest).count

-- it is put back where its turn ended, to wait or not
abbrev pub front_rested_in : FrontState → ℕ → Bool → Ending → FrontState
front_rested_in s c waiting (Here b count) = record s {
  conns = with_stage s.conns c (in_stage waiting b) (table.get s.conns c);
  rests = table.insert s.rests c (record (front_rest (table.get s.rests c)) { count = count });
}
front_rested_in s c waiting (Over last) = record s { conns = with_stage s.conns c (stage.Closed last) (table.get s.conns c); rests = table.remove s.rests c }

-- ---- a connection whose endpoint is here

-- Its endpoint waits or not, it is the front end's, and nothing that is kept offers it.
pub record Holds (s : FrontState) (c : ℕ) (waiting : Bool) : Type 0 where
  pub row : FrontRow
  pub block : ControlBlock
  pub rest : FrontRest
  pub found : table.get s.conns c ≡ Some row
  pub stage : row.stage ≡ in_stage waiting block
  pub found_rest : table.get s.rests c ≡ Some rest
  pub small : row.epoch.0 < 65000
  pub serves : Serves rest.count block.recv block.send
  pub none_kept : held s.kept c ≡ []
  pub some_kept : table.get s.kept c ≡ Some [] → ⊥

-- Its endpoint is in hand.
pub record Lends (s : FrontState) (c : ℕ) : Type 0 where
  pub row : FrontRow
  pub rest : FrontRest
  pub found : table.get s.conns c ≡ Some row
  pub stage : row.stage ≡ stage.Lent
  pub found_rest : table.get s.rests c ≡ Some rest
  pub small : row.epoch.0 < 65000
  pub none_kept : held s.kept c ≡ []
  pub some_kept : table.get s.kept c ≡ Some [] → ⊥

-- what was read of an endpoint in hand is said, or the connection is placed
abbrev pub read_deed : FrontEnv → FrontPart → Service → Option (List ℕ) → Option FrontRow → FrontDeed
read_deed env p w target None = Drops
read_deed env p w target (Some row) = settled_by env p row (front_rest p.rest) w target

-- ---- the hand-off

abbrev pub gives : FrontState → ℕ → FrontPart × FrontTurn → FrontState × FrontTurn
gives s c x = (front_put s c x.0, x.1)

abbrev pub handed_by : FrontEnv → FrontState → Served → List ℕ → FirstChoice → FrontRow → Option ControlBlock → Option (FrontState × FrontTurn)
handed_by env s w path choice row None = None
handed_by env s w path choice row (Some b) = Some (gives s env.serve.c (handed_off env row (service_of b w) path choice))

-- a connection whose endpoint is here is handed off
abbrev pub handed_at : FrontEnv → FrontState → Served → List ℕ → FirstChoice → Option FrontRow → Option (FrontState × FrontTurn)
handed_at env s w path choice None = None
handed_at env s w path choice (Some row) = handed_by env s w path choice row (held_in row.stage)

-- ---- the line

-- an endpoint in hand is put back to wait with this path, and says what it may
abbrev pub waits_with : FrontEnv → FrontState → Service → List ℕ → FrontRow → Ending × Turn → FrontState × FrontTurn
waits_with env s w path row given = (
  record (front_put s env.serve.c (front_rests (front_part s env.serve.c) row (record (front_rest (table.get s.rests env.serve.c)) { target = Some path }) stage.Waiting given.0)) { dispatch = after_calls s.dispatch (leaves_by env.serve.c given.0) },
  turn_here given.1,
)

abbrev pub waits_at : FrontEnv → FrontState → Service → List ℕ → Option FrontRow → FrontState × FrontTurn
waits_at env s w path None = (s, front_silent)
waits_at env s w path (Some row) = waits_with env s w path row (spoken env.serve (record w { notes = w.notes ++ rec.Waits env.serve.c ∷ [] }) [])

-- neither admitted nor in the line, and no server set was changed after this time
pub record IsFree (d : Dispatcher) (c time : ℕ) : Type 0 where
  pub home : home d.books.loads c ≡ None
  pub away : line_waits d.books.line c ≡ false
  pub clock : AreBefore time d.books.sets

-- ---- a segment of a connection whose endpoint is here

abbrev pub front_heard_by : FrontEnv → FrontPart → Said → FrontRow → Option ControlBlock → FrontDeed
front_heard_by env p s row None = Drops
front_heard_by env p s row (Some b) = heard env p row (front_rest p.rest) (on_segment b s).1

-- it is held: the endpoint takes the segment, and what may be read is read
abbrev pub heard_at : FrontEnv → FrontPart → Said → Option FrontRow → FrontDeed
heard_at env p s None = Drops
heard_at env p s (Some row) = front_heard_by env p s row (held_in row.stage)

-- what may be read of an endpoint in hand is read, behind so many responses
abbrev pub reads_with : FrontEnv → FrontPart → ControlBlock → ℕ → Option FrontRow → FrontDeed
reads_with env p b count None = Drops
reads_with env p b count (Some row) =
    front_read_by env p row (front_rest p.rest) (front_reads env.serve (record { service = serving b count []; target = None }))

abbrev pub reads_by : FrontEnv → FrontPart → FrontRow → Option ControlBlock → FrontDeed
reads_by env p row None = Drops
reads_by env p row (Some b) = heard env p row (front_rest p.rest) b

-- it is held, and reads on
abbrev pub reads_at : FrontEnv → FrontPart → Option FrontRow → FrontDeed
reads_at env p None = Drops
reads_at env p (Some row) = reads_by env p row (held_in row.stage)

abbrev pub waits_heard_by : FrontEnv → FrontPart → Said → FrontRow → Option ControlBlock → FrontDeed
waits_heard_by env p s row None = Drops
waits_heard_by env p s row (Some b) = waits_on env p row (front_rest p.rest) (spoken env.serve (serving (on_segment b s).1 (front_rest p.rest).count []) [])

-- it waits: the endpoint takes the segment, and nothing is read
abbrev pub waits_heard : FrontEnv → FrontPart → Said → Option FrontRow → FrontDeed
waits_heard env p s None = Drops
waits_heard env p s (Some row) = waits_heard_by env p s row (held_in row.stage)

-- its timer fires
abbrev pub fires_held_by : FrontEnv → FrontPart → FrontRow → Option ControlBlock → FrontDeed
fires_held_by env p row None = Drops
fires_held_by env p row (Some b) = holds p row (front_rest p.rest) (front_fired env (front_rest p.rest) b)

abbrev pub fires_held : FrontEnv → FrontPart → Option FrontRow → FrontDeed
fires_held env p None = Drops
fires_held env p (Some row) = fires_held_by env p row (held_in row.stage)

abbrev pub fires_waiting_by : FrontEnv → FrontPart → FrontRow → Option ControlBlock → FrontDeed
fires_waiting_by env p row None = Drops
fires_waiting_by env p row (Some b) = waits_on env p row (front_rest p.rest) (front_fired env (front_rest p.rest) b)

abbrev pub fires_waiting : FrontEnv → FrontPart → Option FrontRow → FrontDeed
fires_waiting env p None = Drops
fires_waiting env p (Some row) = fires_waiting_by env p row (held_in row.stage)

-- ---- an end

-- who is admitted in the place of one that ended
abbrev pub next_admitted_by : Dispatcher → ℕ → Millis → FrontDeed → Option (ℕ × FirstChoice)
next_admitted_by d c time Drops = None
next_admitted_by d c time (Says turn) = None
next_admitted_by d c time (Does x) = ended_answer d c time

-- The first of the line waits.
pub record HeadWaits (s : FrontState) (d : ℕ) : Type 0 where
  pub nodes : OpenNodes
  pub waits : Waits nodes (front_part s d)
  pub small : waits.row.epoch.0 < 65000
  pub some : table.get s.kept d ≡ Some [] → ⊥

-- the path with which a connection waits
abbrev pub target_of : Option FrontRest → Option (List ℕ)
target_of rest = (front_rest rest).target
