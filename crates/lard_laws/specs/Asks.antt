-- What the front end heard and answered of Asks: what comes, what it writes of each, and what it keeps of the last.
use Rattle.std.specs.Prelude.{ℕ, ◌+◌, ◌==◌, nat_lt, ◌&&◌, Bool, true, false, if◌then◌else◌, List, [], ◌∷◌, ◌++◌, Option, Some, None, Result, Ok, Err}
use Rattle.std.specs.List.{fold}
use Rattle.lard_law_view.specs.Prelude.{Body, Came, Front, Kind, Message, MsgFault, Node, Place, Rec, Row, Seen, decoded_message}
use Rattle.lard_law_connections.specs.MotionStory.{Story, story_step}
use Rattle.lard_law_connections.specs.MotionStory as motion
use Rattle.lard_law_connections.specs.Places.{Head, message_head}
use Rattle.lard_journal.specs.declared.rec.Rec.TheVariants as rec
use Rattle.lard_message.specs.declared.kind.Kind.TheVariants as kind
use Rattle.lard_message.specs.declared.message.Body.TheVariants as body

-- ---- an Ask that comes

-- An Ask as it comes to the front end: the node that it is from, its epoch, and what it says.
pub record Asking : Type 0 where
  pub from : ℕ
  pub epoch : ℕ
  pub number : ℕ
  pub queue : ℕ
  pub size : ℕ
  pub paths : List (List ℕ)

-- what a message from node n asks, where it is an Ask
abbrev pub ask_said : ℕ → ℕ → Body → Option Asking
ask_said n epoch (body.Ask number queue size paths) = Some (record { from = n; epoch = epoch; number = number; queue = queue; size = size; paths = paths })
ask_said n epoch _ = None

abbrev pub ask_from : ℕ → Result Message MsgFault → Option Asking
ask_from n (Err fault) = None
ask_from n (Ok m) = ask_said n m.epoch.0 m.body

-- one that comes to the front end and decodes
abbrev pub ask_on : Place → Place → List ℕ → Option Asking
ask_on (Node n) Front bytes = ask_from n (decoded_message bytes)
ask_on _ _ bytes = None

abbrev pub ask_in : Seen → Option Asking
ask_in (Row r) = None
ask_in (Came l) = ask_on l.from l.to l.bytes

-- ---- records

-- What a later assignment says beside its node: the request's number and path, and the size and queue of the batch.
pub record LaterAssigned : Type 0 where
  pub r : ℕ
  pub path : List ℕ
  pub size : ℕ
  pub queue : ℕ

abbrev pub later_in : Rec → Option LaterAssigned
later_in (rec.AssignedLater c r path n add size queue) = Some (record { r = r; path = path; size = size; queue = queue })
later_in _ = None

-- and its node
abbrev pub node_in : Rec → Option ℕ
node_in (rec.AssignedLater c r path n add size queue) = Some n
node_in _ = None

-- the connection whose batch is over
abbrev pub end_in : Rec → Option ℕ
end_in (rec.BatchOver c) = Some c
end_in _ = None

abbrev pub is_tag_kind : Kind → Bool
is_tag_kind kind.Tag = true
is_tag_kind _ = false

abbrev pub is_tag : Option Head → Bool
is_tag None = false
is_tag (Some h) = is_tag_kind h.kind

-- a Tag that the front end sends, and the node to which it goes
abbrev pub tag_to : Rec → Option (ℕ × List ℕ)
tag_to (rec.Sent k Front (Node n) bytes) = if is_tag (message_head bytes) then Some (n, bytes) else None
tag_to _ = None

-- ---- what was answered so far

-- Of the last Ask that the front end answered since it gave the connection up: its number, or 0 where there was none, and the nodes
-- to which its requests were assigned, in order. And the number of the connection's request that was assigned last.
pub record Answered : Type 0 where
  pub last : ℕ
  pub nodes : List ℕ
  pub assigned : ℕ

-- and how the connection moved
pub record AskTale : Type 0 where
  pub way : Story
  pub done : Answered

-- this is known, and it is n
abbrev pub is_this : Option ℕ → ℕ → Bool
is_this None n = false
is_this (Some m) n = m == n

-- The front end has given the connection up, and the Ask is from the connection's node, with its epoch.
abbrev pub is_its : Story → Asking → Bool
is_its t a = t.away && (is_this t.node a.from && is_this t.epoch a.epoch)

-- it is the next one, or the last that was answered
abbrev pub is_next : AskTale → Asking → Bool
is_next t a = is_its t.way a && a.number == t.done.last + 1

abbrev pub is_again : AskTale → Asking → Bool
is_again t a = is_its t.way a && (a.number == t.done.last && nat_lt 0 t.done.last)

abbrev pub row_done : Answered → Rec → Answered
row_done d (rec.AssignedFirst c r path n add remove) = record { last = 0; nodes = []; assigned = r }
row_done d (rec.AssignedLater c r path n add size queue) = record d { nodes = d.nodes ++ n ∷ []; assigned = r }
row_done d _ = d

-- the next Ask is answered in the step in which it comes
abbrev pub came_done : AskTale → Option Asking → Answered
came_done t None = t.done
came_done t (Some a) = if is_next t a then record t.done { last = a.number; nodes = [] } else t.done

abbrev pub done_step : AskTale → Seen → Answered
done_step t (Row r) = row_done t.done r
done_step t (Came l) = came_done t (ask_on l.from l.to l.bytes)

abbrev pub asks_step : ℕ → AskTale → Seen → AskTale
asks_step c t s = record { way = story_step c t.way s; done = done_step t s }

abbrev pub unasked : AskTale
unasked = record { way = motion.untold_story; done = record { last = 0; nodes = []; assigned = 0 } }

-- what is told of a connection
abbrev pub ask_tale : ℕ → List Seen → AskTale
ask_tale c seen = fold (asks_step c) unasked seen
