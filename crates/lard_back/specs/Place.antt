-- What the code of a node has in hand, as the rules have it, and what a turn in hand comes to.
use Rattle.std.specs.Prelude.{◌≡◌, ℕ, ◌≤◌, Bool, true, false, List, [], length, Option, Some, None}
use Rattle.std.specs.FinMap as table
use Rattle.lard_back.specs.declared.acting.Done.{Done}
use Rattle.lard_back.specs.declared.acting.Setting.{Setting}
use Rattle.lard_back.specs.declared.hand.At.{At}
use Rattle.lard_back.specs.declared.hand.Rest.{Rest}
use Rattle.lard_back.specs.declared.hand.Rested.{Rested}
use Rattle.lard_back.specs.declared.hand.Rested.TheVariants as rested
use Rattle.lard_back.specs.declared.timers.Flags.{Flags}
use Rattle.lard_back.specs.Bounds.{AreWants, IsSpelledAsk, MayTellEnd}
use Rattle.lard_back.specs.Hand.{handed_back, node_left, work_rest, node_rested_in, sat, stay_epoch, turn_at}
use Rattle.lard_back.specs.Sound.{EndsSound, IsNodeSound}
use Rattle.lard_back.specs.Timers.{flag_changes, timer_flags}
use Rattle.lard_base.specs.declared.place.Place.{Place}
use Rattle.lard_base.specs.declared.place.Place.TheVariants.{Node}
use Rattle.lard_cache.specs.Recency.{has_path}
use Rattle.lard_endpoint.specs.Control.{ControlBlock}
use Rattle.lard_endpoint.specs.Moving.{parts_of}
use Rattle.lard_files.specs.Files.{file_at}
use Rattle.lard_message.specs.declared.message.Body.TheVariants as body
use Rattle.lard_rules.specs.declared.node.NodeState.{NodeState}
use Rattle.lard_rules.specs.declared.node.NodeTurn.{NodeTurn}
use Rattle.lard_rules.specs.declared.stay.Stay.{Stay}
use Rattle.lard_rules.specs.Node.{Does, Drops, NodeDeed, NodePart, Says, here, message, node_saying, node_turns, kept_after, turn_by}
use Rattle.lard_rules.specs.NodePlace.{NodeSetting, aside, node_leaves, node_part, node_put, stores_told}
use Rattle.lard_rules.specs.Stay.{NodeEnv, Work}
use Rattle.lard_rules.specs.declared.places.Out.{Out}
use Rattle.lard_rules.specs.declared.places.Ending.{Ending}
use Rattle.lard_rules.specs.declared.places.Turn.{Turn}
use Rattle.lard_rules.specs.Outs.{nothing_done}
use Rattle.lard_rules.specs.Serving.{ServeEnv, Service, serving_settled}
use Rattle.lard_serving.specs.Bounds.{IsTurn}

abbrev pub node_setting_seen : Setting → NodeSetting
node_setting_seen k = record { n = k.n; files = file_at k.files.now; stream = k.stream }

-- what a stay rests on
abbrev pub node_env_of : NodeSetting → NodeState → At → NodeEnv
node_env_of k s at = record {
  serve = record { place = Node at.n; c = at.c; files = k.files; stream = k.stream };
  n = at.n;
  epoch = at.epoch.0;
  cached = has_path s.cache.entries;
  queue = length s.disk;
  leaving = node_leaves s;
}

abbrev pub out_at : At → Flags → NodePart → NodeTurn → Out
out_at at was q t = record {
  notes = t.notes;
  segments = t.segments;
  gave = t.gave;
  messages = t.messages;
  timers = flag_changes at.n at.c was (timer_flags q);
  answered = t.answered;
}

-- what was told, where the connection is as it is in the state
abbrev pub told_at : NodeState → At → Flags → NodeTurn → NodeState × Out
told_at s at was t = (stores_told s t, out_at at was (node_part s at.c) t)

-- the endpoint is back, and the rest of the turn follows
abbrev pub turn_closed : NodeState → At → Flags → List (Place × List ℕ) → Rest → Rested → Turn → NodeState × Out
turn_closed s at was before rest r turn = told_at (node_left s at rest r) at was (turn_at at before rest r turn)

-- ---- the same, by the rules

abbrev pub ends_with : NodeSetting → NodeState → At → Flags → List (Place × List ℕ) → Work → Ending × Turn → NodeState × Out
ends_with k s at was before w given = (
  stores_told (node_put s at.c (kept_after (node_env_of k s at) (node_part s at.c) w given.0)) (turn_by (node_env_of k s at) before w given),
  out_at at was (kept_after (node_env_of k s at) (node_part s at.c) w given.0) (turn_by (node_env_of k s at) before w given),
)

-- a rule of the connection gave this
abbrev pub deed_at : NodeState → At → Flags → NodeDeed → NodeState × Out
deed_at s at was Drops = (s, nothing_done)
deed_at s at was (Says messages) = aside s (node_saying messages)
deed_at s at was (Does given) = (stores_told (node_put s at.c given.0) given.1, out_at at was given.0 given.1)

-- something is done to a connection, where it is here
abbrev pub acted : NodeSetting → NodeState → At → Flags → (NodeEnv → ControlBlock × Stay → Work) → Option (ControlBlock × Stay) → NodeState × Out
acted k s at was f None = (s, nothing_done)
acted k s at was f (Some x) = deed_at s at was (node_turns (node_env_of k s at) (node_part s at.c) [] (f (node_env_of k s at) x))

-- the state is sound once it was done
pub record IsActed (k : NodeSetting) (s : NodeState) (at : At) (was : Flags) (f : NodeEnv → ControlBlock × Stay → Work) (n : NodeState) (out : Out) : Type 0 where
  pub does : (n, out) ≡ acted k s at was f (here at.epoch.0 (node_part s at.c))
  pub sound : IsNodeSound n

-- ---- a turn that is done

-- what a rule made of what was in hand, once its endpoint said what it may
pub record IsDone (w : Work) (given : Ending × Turn) (e : Ending) (d : Done) : Type 0 where
  pub rest : d.rest ≡ work_rest w
  pub turn : (e, d.turn) ≡ given
  pub fits : IsTurn d.turn
  pub asked : IsSpelledAsk d.rest.asked
  pub wants : AreWants d.rest.wants
  pub count : MayTellEnd (node_rested_in e) d.rest.over
  pub jobs : length d.rest.jobs ≤ 9
  pub sound : EndsSound e w

-- all that was in hand is put back, and the turn told
pub record IsGone (s : NodeState) (at : At) (was : Flags) (before : List (Place × List ℕ)) (w : Work) (given : Ending × Turn) (n : NodeState) (out : Out) : Type 0 where
  pub closes : (n, out) ≡ turn_closed (sat s at.c given.0) at was before (work_rest w) (node_rested_in given.0) given.1
  pub sound : EndsSound given.0 w

-- ---- the connection goes back

-- the turn of what was served, in which the endpoint says nothing
abbrev pub silent_turn : Service → Turn
silent_turn s = record { notes = s.notes; segments = []; answered = s.answered }

-- its Give, in the epoch of its row
abbrev pub give_bytes : NodeState → ℕ → Service → List ℕ
give_bytes s c v = message c (stay_epoch (table.get s.conns.rows c)) (body.Give (parts_of v.block v.count))

abbrev pub given_up : NodeState → ℕ → ℕ → NodeState
given_up s c served = record s { conns = handed_back s.conns c served }

-- it went back, and the turn is told
abbrev pub IsBack : NodeState → At → Flags → Work → NodeState → Out → Type 0
IsBack s at was w n out = (n, out) ≡ turn_closed (given_up s at.c w.service.count) at was [] (work_rest w) (rested.Back (give_bytes s at.c w.service)) (silent_turn w.service)

-- a turn is over: the connection went back, or all that was in hand is put back
abbrev pub HasTurned : Bool → ServeEnv → NodeState → At → Flags → Work → NodeState → Out → Type 0
HasTurned true env s at was w n out = IsBack s at was w n out
HasTurned false env s at was w n out = IsGone s at was [] w (serving_settled env w.service) n out
