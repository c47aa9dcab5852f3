-- The rules of a node, each over what it keeps of one connection.
use Rattle.std.specs.Prelude.{ℕ, Bool, true, false, ◌==◌, ◌&&◌, not, if◌then◌else◌, List, [], ◌∷◌, ◌++◌, length, map, Option, Some, None, is_some, Result, Ok, Err}
use Rattle.std.specs.List.{find, list_any}
use Rattle.lard_base.specs.declared.parts.EndpointParts.{EndpointParts}
use Rattle.lard_base.specs.declared.place.Place.{Place}
use Rattle.lard_base.specs.declared.place.Place.TheVariants as place
use Rattle.lard_base.specs.declared.place.TimerKind.{TimerKind}
use Rattle.lard_base.specs.declared.place.TimerKind.TheVariants as kind
use Rattle.lard_endpoint.specs.declared.control.moving.Final.{Final}
use Rattle.lard_endpoint.specs.Arriving.{on_segment}
use Rattle.lard_endpoint.specs.Control.{ControlBlock}
use Rattle.lard_endpoint.specs.Leaving.{timed, after_timer}
use Rattle.lard_endpoint.specs.Moving.{adopted, may_freeze, parts_of}
use Rattle.lard_handoff_back.specs.declared.row.BackConn.TheVariants as stage
use Rattle.lard_handoff_back.specs.declared.row.BackRow.{BackRow}
use Rattle.lard_handoff_back.specs.declared.table.Adopt.{Adopt}
use Rattle.lard_handoff_back.specs.declared.table.Adopt.TheVariants.{New, Again, Stale, Refuse}
use Rattle.lard_handoff_back.specs.Back.{back_endpoint, staying}
use Rattle.lard_handoff_back.specs.Leaving.{awaits_ended, awaits_given, offer_decision}
use Rattle.lard_handoff_back.specs.Table.{Beside}
use Rattle.lard_journal.specs.declared.rec.Rec.{Rec}
use Rattle.lard_journal.specs.declared.rec.Rec.TheVariants as rec
use Rattle.lard_lateral.specs.Lateral.{fetch_kept, is_from}
use Rattle.lard_message.specs.declared.message.Body.{Body}
use Rattle.lard_message.specs.declared.message.Body.TheVariants as body
use Rattle.lard_rules.specs.declared.node.NodeTurn.{NodeTurn}
use Rattle.lard_rules.specs.declared.stay.Asked.{Asked}
use Rattle.lard_rules.specs.declared.stay.Next.{Next}
use Rattle.lard_rules.specs.declared.stay.Next.TheVariants as next
use Rattle.lard_rules.specs.declared.stay.Stay.{Stay}
use Rattle.lard_rules.specs.declared.stay.Want.{Want}
pub use Rattle.lard_rules.specs.Front.{message}
use Rattle.lard_rules.specs.Loop.{state_of}
use Rattle.lard_rules.specs.Stay.{NodeEnv, Work, came_for, come_progress, goes_on, named_paths, next_of, read_progress, reads_batch, tagged}
use Rattle.lard_resend.specs.declared.kept.Kept.{Kept}
pub use Rattle.lard_resend.specs.Kept.{anew}
use Rattle.lard_resend.specs.Kept.{is_under, kind_rank, without}
use Rattle.lard_resend.specs.Pending.{sent_of}
use Rattle.lard_rules.specs.declared.places.Ending.{Ending}
use Rattle.lard_rules.specs.declared.places.Ending.TheVariants.{Here, Over}
use Rattle.lard_rules.specs.declared.places.Turn.{Turn}
use Rattle.lard_rules.specs.Serving.{serving_ready_of, serving, serving_settled, spoken}
use Rattle.lard_segment.specs.declared.fault.SegFault.{SegFault}
use Rattle.lard_segment.specs.Segment.{Said}
use Rattle.lard_send.specs.Send.{is_clear}

-- ---- what is kept of one connection

pub record NodePart : Type 0 where
  pub row : Option BackRow
  pub stay : Option Stay
  pub kept : List Kept  -- its Ask, its Ended or its Give, where one awaits its answer
  pub fetches : List Kept  -- those whose contents are awaited, by the numbers of their requests
  pub beside : Beside  -- what the node decided of it since it leaves

-- What a rule comes to: it drops what came, or answers it and keeps what it kept, or the node does this and keeps that.
pub data NodeDeed : Type 0 where
  Drops : NodeDeed
  Says : List (Place × List ℕ) → NodeDeed
  Does : NodePart × NodeTurn → NodeDeed

-- ---- messages

abbrev pub ask_kept : ℕ → ℕ → Asked → Kept
ask_kept c epoch a = record { kind = kind.Ask; r = 0; to = place.Front; bytes = message c epoch (body.Ask a.number a.queue a.size a.paths) }

-- how many bytes a reset counted; an end of another kind carries 0
abbrev pub reset_count : Option ℕ → ℕ
reset_count None = 0
reset_count (Some total) = total

abbrev pub ended_kept : ℕ → ℕ → Final → ℕ → Kept
ended_kept c epoch last count = record { kind = kind.Ended; r = 0; to = place.Front; bytes = message c epoch (body.Ended last.reason last.snd.0 last.rcv.0 count) }

-- ---- what is in hand

-- nothing was done in the turn yet
abbrev pub work_of : ControlBlock → Stay → Work
work_of b s = record { service = serving b s.served []; batch = s.batch; asks = s.asks; jobs = []; wants = []; asked = None }

abbrev pub stay_after : ℕ → Work → Stay
stay_after count w = record { served = count; batch = w.batch; asks = w.asks }

-- ---- the end of a turn

-- the Ask, where one was made, and how it is held until its Tag comes
abbrev pub asked_kept : NodeEnv → Option Asked → List Kept → List Kept
asked_kept env None ks = ks
asked_kept env (Some a) ks = anew (ask_kept env.serve.c env.epoch a) ks

abbrev pub asked_sent : NodeEnv → Option Asked → List (Place × List ℕ)
asked_sent env None = []
asked_sent env (Some a) = sent_of (ask_kept env.serve.c env.epoch a) ∷ []

-- the Fetches of what is wanted, each held until its content comes
abbrev pub fetch_of : NodeEnv → Want → Kept
fetch_of env w = fetch_kept env.serve.c env.epoch w.r w.node w.path

abbrev pub wants_kept : NodeEnv → List Want → List Kept → List Kept
wants_kept env [] ks = ks
wants_kept env (w ∷ ws) ks = wants_kept env ws (anew (fetch_of env w) ks)

abbrev pub wants_sent : NodeEnv → List Want → List (Place × List ℕ)
wants_sent env ws = map (λ w. sent_of (fetch_of env w)) ws

abbrev pub all_sent : NodeEnv → List (Place × List ℕ) → Work → List (Place × List ℕ)
all_sent env before w = before ++ asked_sent env w.asked ++ wants_sent env w.wants

abbrev pub row_of : NodeEnv → Ending → BackRow
row_of env (Here b count) = record { stage = stage.Here b; epoch = record { 0 = env.epoch } }
row_of env (Over last) = record { stage = stage.Ended; epoch = record { 0 = env.epoch } }

-- The connection stays, or the node gives it up and tells the front end why, until that acknowledges it. What it awaited of the
-- connection is forgotten then; the jobs of its disk go on.
abbrev pub kept_after : NodeEnv → NodePart → Work → Ending → NodePart
kept_after env p w (Here b count) = record {
  row = Some (row_of env (Here b count));
  stay = Some (stay_after count w);
  kept = asked_kept env w.asked p.kept;
  fetches = wants_kept env w.wants p.fetches;
  beside = p.beside;
}
kept_after env p w (Over last) = record {
  row = Some (row_of env (Over last));
  stay = None;
  kept = ended_kept env.serve.c env.epoch last (reset_count w.service.over) ∷ [];
  fetches = [];
  beside = p.beside;
}

abbrev pub gave_by : NodeEnv → Ending → List Rec
gave_by env (Here b count) = []
gave_by env (Over last) = rec.Gave (place.Node env.n) env.serve.c (record { 0 = env.epoch }) ∷ []

abbrev pub ended_sent : NodeEnv → Option ℕ → Ending → List (Place × List ℕ)
ended_sent env over (Here b count) = []
ended_sent env over (Over last) = sent_of (ended_kept env.serve.c env.epoch last (reset_count over)) ∷ []

abbrev pub turn_by : NodeEnv → List (Place × List ℕ) → Work → Ending × Turn → NodeTurn
turn_by env before w given = record {
  notes = given.1.notes;
  segments = given.1.segments;
  gave = gave_by env given.0;
  messages = all_sent env before w ++ ended_sent env w.service.over given.0;
  jobs = w.jobs;
  answered = given.1.answered;
}

-- these messages go out, then what the turn asks for; the endpoint says what it may, and the stay ends where it may or has to
abbrev pub node_rests : NodeEnv → NodePart → List (Place × List ℕ) → Work → NodePart × NodeTurn
node_rests env p before w = (kept_after env p w (serving_settled env.serve w.service).0, turn_by env before w (serving_settled env.serve w.service))

-- ---- a node that leaves

-- nothing that was read awaits its answer, and a batch may be read
abbrev pub is_to_read : Next → Bool
is_to_read next.Serve = false
is_to_read next.Read = true
is_to_read next.Stop = false

-- A node that leaves would read a batch, and the client acknowledged all that was said: the connection goes back to the front end.
abbrev pub may_give_back : NodeEnv → Work → Bool
may_give_back env w = env.leaving && (is_to_read (next_of w) && may_freeze w.service.block)

abbrev pub give_kept : NodeEnv → Work → Kept
give_kept env w = record { kind = kind.Give; r = 0; to = place.Front; bytes = message env.serve.c env.epoch (body.Give (parts_of w.service.block w.service.count)) }

-- Its stay is over, and stands as given back; the Give is told until it is answered.
abbrev pub kept_back : NodeEnv → NodePart → Work → NodePart
kept_back env p w = record {
  row = Some (record { stage = stage.Ended; epoch = record { 0 = env.epoch } });
  stay = None;
  kept = give_kept env w ∷ [];
  fetches = [];
  beside = record p.beside { returned = Some w.service.count };
}

-- the endpoint is frozen before it says anything
abbrev pub turn_back : NodeEnv → List (Place × List ℕ) → Work → NodeTurn
turn_back env before w = record {
  notes = w.service.notes;
  segments = [];
  gave = rec.Gave (place.Node env.n) env.serve.c (record { 0 = env.epoch }) ∷ [];
  messages = all_sent env before w ++ sent_of (give_kept env w) ∷ [];
  jobs = w.jobs;
  answered = w.service.answered;
}

abbrev pub gives_back : NodeEnv → NodePart → List (Place × List ℕ) → Work → NodeDeed
gives_back env p before w = Does (kept_back env p w, turn_back env before w)

-- ---- the rules of a stay

-- the endpoint and the stay, where the connection is here
abbrev pub both_of : Option ControlBlock → Option Stay → Option (ControlBlock × Stay)
both_of None stay = None
both_of (Some b) None = None
both_of (Some b) (Some s) = Some (b, s)

-- where it is here in the epoch
abbrev pub here : ℕ → NodePart → Option (ControlBlock × Stay)
here epoch p = both_of (staying epoch p.row) p.stay

abbrev pub with_work : NodeEnv → NodePart → List (Place × List ℕ) → Work → NodeDeed
with_work env p before w = Does (node_rests env p before w)

-- a turn ends: the connection goes back, or rests
abbrev pub node_turns : NodeEnv → NodePart → List (Place × List ℕ) → Work → NodeDeed
node_turns env p before w = if may_give_back env w then gives_back env p before w else with_work env p before w

-- A segment that the front end forwarded comes to the endpoint. What does not decode is dropped.
abbrev pub node_heard_by : NodeEnv → NodePart → Result Said SegFault → Option (ControlBlock × Stay) → NodeDeed
node_heard_by env p (Err fault) x = Drops
node_heard_by env p (Ok s) None = Drops
node_heard_by env p (Ok s) (Some x) = node_turns env p [] (goes_on env (work_of (on_segment x.0 s).1 x.1))

abbrev pub node_forwarded : NodeEnv → NodePart → Result Said SegFault → NodeDeed
node_forwarded env p given = node_heard_by env p given (here env.epoch p)

-- A Tag comes. It counts where an Ask is awaited, has that number, and has a node for each of its paths.
abbrev pub is_tag_awaited : NodeEnv → ℕ → List ℕ → NodePart → Stay → Bool
is_tag_awaited env number nodes p s = is_some (find (is_under kind.Ask 0) p.kept) && (s.asks == number && length nodes == length (named_paths env.serve.files s.batch))

abbrev pub tagged_by : NodeEnv → ℕ → List ℕ → NodePart → Option (ControlBlock × Stay) → NodeDeed
tagged_by env number nodes p None = Drops
tagged_by env number nodes p (Some x) =
    if is_tag_awaited env number nodes p x.1
    then node_turns env (record p { kept = without kind.Ask 0 p.kept }) [] (goes_on env (tagged env nodes (work_of x.0 x.1)))
    else Drops

abbrev pub node_tagged : NodeEnv → NodePart → ℕ → List ℕ → NodeDeed
node_tagged env p number nodes = tagged_by env number nodes p (here env.epoch p)

-- A content comes. It counts where it is awaited from this node, once; the files are the same everywhere, so its bytes are those
-- that the request is answered with.
abbrev pub come_by : NodeEnv → ℕ → ℕ → NodePart → Option (ControlBlock × Stay) → NodeDeed
come_by env from r p None = Drops
come_by env from r p (Some x) =
    if is_from from env.epoch (find (is_under kind.Fetch r) p.fetches)
    then node_turns env (record p { fetches = without kind.Fetch r p.fetches }) [] (goes_on env (came_for (come_progress from) r (work_of x.0 x.1)))
    else Drops

abbrev pub node_content : NodeEnv → NodePart → ℕ → ℕ → NodeDeed
node_content env p from r = come_by env from r p (here env.epoch p)

-- A job of this node's disk was completed for a request.
abbrev pub node_read_by : NodeEnv → ℕ → NodePart → Option (ControlBlock × Stay) → NodeDeed
node_read_by env r p None = Drops
node_read_by env r p (Some x) = node_turns env p [] (goes_on env (came_for read_progress r (work_of x.0 x.1)))

abbrev pub node_read : NodeEnv → NodePart → ℕ → NodeDeed
node_read env p r = node_read_by env r p (here env.epoch p)

-- ---- an Offer

abbrev pub taken_sent : NodeEnv → List (Place × List ℕ)
taken_sent env = (place.Front, message env.serve.c env.epoch body.Taken) ∷ []

abbrev pub refused_sent : NodeEnv → List (Place × List ℕ)
refused_sent env = (place.Front, message env.serve.c env.epoch body.Refused) ∷ []

-- what is kept once the Offer of this epoch is refused
abbrev pub kept_refused : NodeEnv → NodePart → NodePart
kept_refused env p = record p { beside = record p.beside { refused = Some (record { 0 = env.epoch }) } }

-- The node takes a connection that is new to it, and goes on where the front end stopped: it reads the first batch, whose first
-- request for a file was assigned to it with the connection.
abbrev pub node_begins : NodeEnv → EndpointParts → Work
node_begins env parts = record {
  service = serving (adopted parts) parts.served (rec.Took (place.Node env.n) env.serve.c (record { 0 = env.epoch }) ∷ []);
  batch = [];
  asks = 0;
  jobs = [];
  wants = [];
  asked = None;
}

-- a message goes out, and nothing else is done
abbrev pub node_saying : List (Place × List ℕ) → NodeTurn
node_saying messages = record { notes = []; segments = []; gave = []; messages = messages; jobs = []; answered = 0 }

-- an Offer that was decided is answered again, an old one is dropped
abbrev pub offered_by : NodeEnv → EndpointParts → NodePart → Adopt → NodeDeed
offered_by env parts p New = with_work env p (taken_sent env) (goes_on env (state_of (reads_batch env true (node_begins env parts))))
offered_by env parts p Again = Says (taken_sent env)
offered_by env parts p Stale = Drops
offered_by env parts p Refuse = Does (kept_refused env p, node_saying (refused_sent env))

abbrev pub node_offered : NodeEnv → NodePart → EndpointParts → NodeDeed
node_offered env p parts = offered_by env parts p (offer_decision env.leaving env.epoch p.row p.beside)

-- ---- the end of a stay

abbrev pub gone : Option BackRow → Option BackRow
gone None = None
gone (Some row) = Some (record row { stage = stage.Gone })

-- what tells that a stay is over: that it ended, or the Give of the connection
abbrev pub told_kind : Bool → TimerKind
told_kind back = if back then kind.Give else kind.Ended

-- its answer is awaited: an EndedAck, or a Given where the connection went back
abbrev pub awaits_told : Bool → NodeEnv → NodePart → Bool
awaits_told back env p = if back then awaits_given env.epoch p.row p.beside else awaits_ended env.epoch p.row p.beside

-- The front end knows that the stay is over, and it is not told again.
abbrev pub node_acknowledged : NodeEnv → Bool → NodePart → NodeDeed
node_acknowledged env back p = if awaits_told back env p then Does (record p { row = gone p.row; kept = without (told_kind back) 0 p.kept }, node_saying []) else Drops

-- ---- the node leaves

-- a connection that is ready goes back
abbrev pub goes_back_by : NodeEnv → NodePart → Option (ControlBlock × Stay) → NodeDeed
goes_back_by env p None = Drops
goes_back_by env p (Some x) = if may_give_back env (work_of x.0 x.1) then gives_back env p [] (work_of x.0 x.1) else Drops

abbrev pub node_goes_back : NodeEnv → NodePart → NodeDeed
node_goes_back env p = goes_back_by env p (both_of (back_endpoint p.row) p.stay)

-- ---- timers

-- all that awaits an answer: while the connection is here its Ask and then the Fetches, by number; else its Ended or its Give
abbrev pub again_sent : NodePart → List (Place × List ℕ)
again_sent p = map sent_of (p.kept ++ p.fetches)

-- The endpoint's timer fires (RFC 9293, 3.10.8), and what awaits an answer is sent again.
abbrev pub node_fired : NodeEnv → NodePart → ControlBlock × Stay → Ending × Turn → NodePart × NodeTurn
node_fired env p x given = (kept_after env p (work_of (after_timer x.0) x.1) given.0, turn_by env (again_sent p) (work_of (after_timer x.0) x.1) given)

abbrev pub node_fired_by : NodeEnv → NodePart → Option (ControlBlock × Stay) → NodeDeed
node_fired_by env p None = Says (again_sent p)
node_fired_by env p (Some x) = Does (node_fired env p x (spoken env.serve (serving (after_timer x.0) x.1.served []) (serving_ready_of env.serve (after_timer x.0) (timed x.0))))

abbrev pub node_timer : NodeEnv → NodePart → NodeDeed
node_timer env p = node_fired_by env p (both_of (back_endpoint p.row) p.stay)

-- ---- timers that run

abbrev pub holds_kind : TimerKind → List Kept → Bool
holds_kind k ks = list_any (λ x. kind_rank x.kind == kind_rank k) ks

abbrev pub is_unsaid : Option ControlBlock → Bool
is_unsaid None = false
is_unsaid (Some b) = not (is_clear b.send)

-- what is armed at the node for the connection; an Offer never is
abbrev pub node_armed : NodePart → TimerKind → Bool
node_armed p kind.Tcp = is_unsaid (back_endpoint p.row)
node_armed p kind.Offer = false
node_armed p kind.Ask = holds_kind kind.Ask p.kept
node_armed p kind.Fetch = holds_kind kind.Fetch p.fetches
node_armed p kind.Ended = holds_kind kind.Ended p.kept
node_armed p kind.Give = holds_kind kind.Give p.kept

-- ---- the rules as data

-- What comes to a node for a connection: a message, a completed job of its disk, its timer, or that the node leaves.
pub data NodeGets : Type 0 where
  Offered : EndpointParts → NodeGets
  Forwarded : Result Said SegFault → NodeGets
  Tagged : ℕ → List ℕ → NodeGets
  Content : ℕ → ℕ → NodeGets  -- from this node, for this request
  Acknowledged : Bool → NodeGets  -- by EndedAck, or by Given
  Completed : ℕ → List ℕ → NodeGets  -- for this request, its path
  Fires : NodeGets
  Leaves : NodeGets

abbrev pub node_rule : NodeEnv → NodePart → NodeGets → NodeDeed
node_rule env p (Offered parts) = node_offered env p parts
node_rule env p (Forwarded given) = node_forwarded env p given
node_rule env p (Tagged number nodes) = node_tagged env p number nodes
node_rule env p (Content from r) = node_content env p from r
node_rule env p (Acknowledged back) = node_acknowledged env back p
node_rule env p (Completed r path) = node_read env p r
node_rule env p Fires = node_timer env p
node_rule env p Leaves = node_goes_back env p
