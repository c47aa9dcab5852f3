-- What a place of the cluster does with an endpoint that it holds, whichever place it is: it answers requests, sends what it
-- may, and ends the connection at the stream limit.
use Rattle.std.specs.Prelude.{ℕ, ◌+◌, nat_lt, ◌&&◌, not, Bool, true, false, if◌then◌else◌, List, [], ◌∷◌, ◌++◌, length, Option, Some, None}
use Rattle.lard_answers.specs.Answers.{FilesAt, answer, answer_code}
use Rattle.lard_base.specs.declared.place.Place.{Place}
use Rattle.lard_base.specs.declared.place.Place.TheVariants as place
use Rattle.lard_base.specs.declared.place.Reason.TheVariants.{Limit}
use Rattle.lard_base.specs.declared.place.Via.{Via}
use Rattle.lard_endpoint.specs.declared.control.moving.Final.{Final}
use Rattle.lard_endpoint.specs.Control.{ControlBlock, queueing, finishing, consuming, discarding_on}
use Rattle.lard_endpoint.specs.Moving.{may_end, end_reason, final_of}
use Rattle.lard_journal.specs.declared.rec.Rec.{Rec}
use Rattle.lard_journal.specs.declared.rec.Rec.TheVariants as rec
use Rattle.lard_rules.specs.declared.places.Ending.{Ending}
use Rattle.lard_rules.specs.declared.places.Ending.TheVariants.{Here, Over}
use Rattle.lard_rules.specs.declared.places.Turn.{Turn}
use Rattle.lard_rules.specs.Speaking.{to_client, speaks, speaks_symbols}
use Rattle.lard_request.specs.declared.verdict.Verdict.{Verdict}
use Rattle.lard_request.specs.Verdict.{closes}
use Rattle.lard_segment.specs.declared.segment.Dir.TheVariants.{ToClient}
use Rattle.lard_segment.specs.declared.segment.Ready.{Ready}
use Rattle.lard_segment.specs.Segment.{Said, spelled}
use Rattle.lard_send.specs.Send.{is_clear}

-- What serving rests on beside the connection's state.
pub record ServeEnv : Type 0 where
  pub place : Place  -- the place that serves
  pub c : ℕ  -- the connection's number
  pub files : FilesAt
  pub stream : ℕ  -- the most bytes of responses on one connection

-- ---- answering

-- The endpoint of a connection while requests are answered, how many responses were queued, the records of this turn,
-- and how many bytes of responses it queued; `over` is the count of bytes that would have passed the stream limit.
pub record Service : Type 0 where
  pub block : ControlBlock
  pub count : ℕ
  pub notes : List Rec
  pub answered : ℕ
  pub over : Option ℕ

-- nothing was done in the turn yet
abbrev pub serving : ControlBlock → ℕ → List Rec → Service
serving b count notes = record { block = b; count = count; notes = notes; answered = 0; over = None }

-- behind an answer that closes, what comes is discarded, and the FIN follows (RFC 9112, 9.6)
abbrev pub closed_behind : Verdict → ControlBlock → ControlBlock
closed_behind v b = if closes v then finishing (discarding_on b) else b

-- a response is queued, whose content came by this way
abbrev pub queued : ServeEnv → Via → Verdict → List ℕ → Service → Service
queued env via v bytes w = record {
  block = closed_behind v (queueing w.block bytes);
  count = w.count + 1;
  notes = w.notes ++ rec.Served env.place env.c (w.count + 1) (answer_code env.files v) (length bytes) via ∷ [];
  answered = w.answered + length bytes;
  over = None;
}

-- the response would pass the stream limit: the connection is reset in its place
abbrev pub passed_over : ServeEnv → ℕ → Service → Service
passed_over env total w = record w { notes = w.notes ++ rec.Reset env.place env.c total ∷ []; over = Some total }

abbrev pub replied : ServeEnv → Via → Verdict → List ℕ → Service → Service
replied env via v bytes w =
    if nat_lt env.stream (w.block.send.total + length bytes)
    then passed_over env (w.block.send.total + length bytes) w
    else queued env via v bytes w

-- a verdict is answered
abbrev pub answered : ServeEnv → Via → Verdict → Service → Service
answered env via v w = replied env via v (answer env.files v) w

-- ---- reading

abbrev pub serving_consumed : ℕ → Service → Service
serving_consumed n w = record w { block = consuming w.block n }

-- no whole block is left: behind the client's FIN the cluster's follows
abbrev pub ended_at_fin : Service → Service
ended_at_fin w = if w.block.recv.fin then record w { block = finishing w.block } else w

-- it is read on unless the client reset the connection, or the cluster closed it or is to reset it
abbrev pub may_read : Service → Bool
may_read w = not w.block.reset && (not w.block.send.finished && (elim w.over [ None ↦ true | Some total ↦ false ]))

-- ---- the end of a turn

-- an endpoint that may end is ended, once it said all that it may
abbrev pub rested : ControlBlock → ℕ → Ending
rested b count = if may_end b then Over (final_of b (end_reason b)) else Here b count

abbrev pub turn_of : Service → List (Place × List ℕ) → Turn
turn_of w segments = record { notes = w.notes; segments = segments; answered = w.answered }

-- these segments go out, and then what the endpoint may send
abbrev pub spoken : ServeEnv → Service → List (Place × List ℕ) → Ending × Turn
spoken env w before =
    (rested (speaks env.c w.block).1 w.count, turn_of w (before ++ (speaks env.c w.block).0))

-- The RST at the stream limit: <SEQ=SND.NXT><ACK=RCV.NXT><CTL=RST,ACK> (RFC 9293, 3.10.5).
abbrev pub limit_said : Final → Said
limit_said last = record {
  seq = last.snd.0;
  ack = last.rcv.0;
  flags = record { syn = false; ack = true; fin = false; rst = true; psh = false };
  wnd = 0;
  mss = None;
  payload = [];
}

abbrev pub serving_told : ServeEnv → Said → Place × List ℕ
serving_told env s = (place.Client env.c, spelled env.c ToClient s)

-- at the stream limit what has a symbol is still sent, then the RST ends the connection
abbrev pub cut_off : ServeEnv → Service → Ending × Turn
cut_off env w =
    let said = speaks_symbols env.c w.block in
    let last = final_of said.1 Limit in
    (Over last, turn_of w (said.0 ++ serving_told env (limit_said last) ∷ []))

abbrev pub serving_settled : ServeEnv → Service → Ending × Turn
serving_settled env w = elim w.over [ None ↦ spoken env w [] | Some total ↦ cut_off env w ]

-- the segment that is ready, where there is one
abbrev pub serving_ready_of : ServeEnv → ControlBlock → Option Ready → List (Place × List ℕ)
serving_ready_of env b None = []
serving_ready_of env b (Some r) = to_client env.c b r ∷ []

-- ---- timers

-- the place's timer runs: some symbol of the endpoint is not acknowledged
abbrev pub is_serving_armed : Ending → Bool
is_serving_armed (Here b count) = not (is_clear b.send)
is_serving_armed (Over last) = false
