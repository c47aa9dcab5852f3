-- The state while a connection is in hand, and once it is put back.
use Rattle.std.specs.Prelude.{ℕ, List, [], ◌∷◌, ◌++◌, map, Option, Some, None}
use Rattle.std.specs.FinMap as table
use Rattle.std.specs.FinMap.{FinMap}
use Rattle.std.specs.Ordering.{nat_cmp}
use Rattle.lard_back.specs.declared.hand.At.{At}
use Rattle.lard_back.specs.declared.hand.Rest.{Rest}
use Rattle.lard_back.specs.declared.hand.Rested.{Rested}
use Rattle.lard_back.specs.declared.hand.Rested.TheVariants as rested
use Rattle.lard_base.specs.declared.place.Place.{Place}
use Rattle.lard_base.specs.declared.place.Place.TheVariants.{Front, Node}
use Rattle.lard_base.specs.declared.place.TimerKind.{TimerKind}
use Rattle.lard_base.specs.declared.place.TimerKind.TheVariants as kind
use Rattle.lard_endpoint.specs.declared.control.moving.Final.{Final}
use Rattle.lard_handoff_back.specs.declared.row.BackConn.{BackConn}
use Rattle.lard_handoff_back.specs.declared.row.BackConn.TheVariants as stage
use Rattle.lard_handoff_back.specs.declared.row.BackRow.{BackRow}
use Rattle.lard_handoff_back.specs.Back.{back_with_stage}
use Rattle.lard_handoff_back.specs.Table.{Table}
use Rattle.lard_journal.specs.declared.rec.Rec.{Rec}
use Rattle.lard_journal.specs.declared.rec.Rec.TheVariants as rec
use Rattle.lard_lateral.specs.Lateral.{fetch_kept}
use Rattle.lard_rules.specs.declared.node.NodeState.{NodeState}
use Rattle.lard_rules.specs.declared.node.NodeTurn.{NodeTurn}
use Rattle.lard_rules.specs.declared.stay.Asked.{Asked}
use Rattle.lard_rules.specs.declared.stay.Want.{Want}
use Rattle.lard_rules.specs.Node.{ask_kept, reset_count, ended_kept}
use Rattle.lard_rules.specs.Stay.{Work}
use Rattle.lard_resend.specs.declared.kept.Kept.{Kept}
use Rattle.lard_resend.specs.Pending.{renewed, sent_of}
use Rattle.lard_rules.specs.declared.places.Ending.{Ending}
use Rattle.lard_rules.specs.declared.places.Ending.TheVariants as ending
use Rattle.lard_rules.specs.declared.places.Turn.{Turn}

-- ---- in hand

abbrev pub node_lent : NodeState → ℕ → NodeState
node_lent s c = record s { conns = record s.conns { rows = back_with_stage s.conns.rows c stage.Out (table.get s.conns.rows c) }; stays = table.remove s.stays c }

abbrev pub lent_if : {A : Type 0} → NodeState → ℕ → Option A → NodeState
lent_if s c None = s
lent_if s c (Some x) = node_lent s c

-- what is left of a turn beside its endpoint and what was served
abbrev pub work_rest : Work → Rest
work_rest w = record { batch = w.batch; asks = w.asks; jobs = w.jobs; wants = w.wants; asked = w.asked; over = w.service.over }

-- ---- the endpoint is put back

abbrev pub node_rested_in : Ending → Rested
node_rested_in (ending.Here b count) = rested.Here count
node_rested_in (ending.Over last) = rested.Over last

abbrev pub stage_of : Ending → BackConn
stage_of (ending.Here b count) = stage.Here b
stage_of (ending.Over last) = stage.Ended

abbrev pub sat : NodeState → ℕ → Ending → NodeState
sat s c e = record s { conns = record s.conns { rows = back_with_stage s.conns.rows c (stage_of e) (table.get s.conns.rows c) } }

-- ---- the connection goes back

-- the epoch of a row
abbrev pub stay_epoch : Option BackRow → ℕ
stay_epoch None = 0
stay_epoch (Some row) = row.epoch.0

-- its stay is over, and it stands as given back with so many responses
abbrev pub handed_back : Table → ℕ → ℕ → Table
handed_back t c served = record t { rows = back_with_stage t.rows c stage.Ended (table.get t.rows c); returned = table.insert t.returned c served }

-- ---- what the turn asks for

abbrev pub HeldMessages : Type 0
HeldMessages = FinMap nat_cmp (List Kept)

abbrev pub asked_in : At → Option Asked → HeldMessages → HeldMessages
asked_in at None m = m
asked_in at (Some a) m = renewed m at.c (ask_kept at.c at.epoch.0 a)

abbrev pub ask_sent : At → Option Asked → List (Place × List ℕ)
ask_sent at None = []
ask_sent at (Some a) = sent_of (ask_kept at.c at.epoch.0 a) ∷ []

abbrev pub fetch_message : At → Want → Kept
fetch_message at w = fetch_kept at.c at.epoch.0 w.r w.node w.path

abbrev pub wanted : At → List Want → HeldMessages → HeldMessages
wanted at [] m = m
wanted at (w ∷ ws) m = wanted at ws (renewed m at.c (fetch_message at w))

abbrev pub fetches_sent : At → List Want → List (Place × List ℕ)
fetches_sent at ws = map (λ w. sent_of (fetch_message at w)) ws

-- ---- the stay goes on, ends or goes back

-- what tells the front end that the stay is over, or asks it for nodes
abbrev pub front_message : TimerKind → List ℕ → Kept
front_message kind bytes = record { kind = kind; r = 0; to = Front; bytes = bytes }

abbrev pub ended_message : At → Final → Option ℕ → Kept
ended_message at last over = ended_kept at.c at.epoch.0 last (reset_count over)

abbrev pub node_left : NodeState → At → Rest → Rested → NodeState
node_left s at rest (rested.Here count) = record s {
  stays = table.insert s.stays at.c (record { served = count; batch = rest.batch; asks = rest.asks });
  kept = asked_in at rest.asked s.kept;
  fetches = wanted at rest.wants s.fetches;
}
node_left s at rest (rested.Over last) = record s {
  kept = renewed (table.remove (asked_in at rest.asked s.kept) at.c) at.c (ended_message at last rest.over);
  fetches = table.remove (wanted at rest.wants s.fetches) at.c;
}
node_left s at rest (rested.Back bytes) = record s {
  kept = renewed (table.remove (asked_in at rest.asked s.kept) at.c) at.c (front_message kind.Give bytes);
  fetches = table.remove (wanted at rest.wants s.fetches) at.c;
}

abbrev pub gave_at : At → Rested → List Rec
gave_at at (rested.Here count) = []
gave_at at (rested.Over last) = rec.Gave (Node at.n) at.c at.epoch ∷ []
gave_at at (rested.Back bytes) = rec.Gave (Node at.n) at.c at.epoch ∷ []

abbrev pub end_sent : At → Option ℕ → Rested → List (Place × List ℕ)
end_sent at over (rested.Here count) = []
end_sent at over (rested.Over last) = sent_of (ended_message at last over) ∷ []
end_sent at over (rested.Back bytes) = (Front, bytes) ∷ []

abbrev pub turn_at : At → List (Place × List ℕ) → Rest → Rested → Turn → NodeTurn
turn_at at before rest r turn = record {
  notes = turn.notes;
  segments = turn.segments;
  gave = gave_at at r;
  messages = before ++ ask_sent at rest.asked ++ fetches_sent at rest.wants ++ end_sent at rest.over r;
  jobs = rest.jobs;
  answered = turn.answered;
}
