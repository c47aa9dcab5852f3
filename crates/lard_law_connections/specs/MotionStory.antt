-- What a connection sees of its way: the packets by which it moves, and the records that tell of it.
use Rattle.std.specs.Prelude.{ℕ, ◌+◌, ◌||◌, ◌==◌, nat_eq, max, Bool, true, false, if◌then◌else◌, List, [], ◌∷◌, ◌++◌, Option, Some, None, Result, Ok, Err}
use Rattle.std.specs.List.{fold, list_any}
use Rattle.lard_law_view.specs.Prelude.{Came, Client, Front, Kind, Message, MsgFault, Node, Place, Rec, Row, Said, Seen, SegFault, ToCluster, decoded, decoded_message, is_plain_syn, kind_of, listed, seen_step}
use Rattle.lard_law_connections.specs.Places.{Head, message_head}
use Rattle.lard_journal.specs.declared.rec.Rec.TheVariants as rec
use Rattle.lard_message.specs.declared.kind.Kind.TheVariants as kind

-- what is picked of each thing that is seen, in order
abbrev pub picked : {A : Type 0} → (Seen → Option A) → List Seen → List A
picked f [] = []
picked f (s ∷ ss) = listed (f s) ++ picked f ss

-- ---- packets that come

abbrev pub decoded_bytes : List ℕ → Result Said SegFault → Option (List ℕ)
decoded_bytes bytes (Ok s) = Some bytes
decoded_bytes bytes (Err fault) = None

abbrev pub is_syn : Result Said SegFault → Bool
is_syn (Ok s) = is_plain_syn s
is_syn (Err fault) = false

-- the bytes of a packet of the client that comes to the front end and decodes
abbrev pub segment_on : ℕ → Place → Place → List ℕ → Option (List ℕ)
segment_on c (Client d) Front bytes = decoded_bytes bytes (decoded bytes c ToCluster)
segment_on c _ _ bytes = None

-- such a packet that has SYN, and no ACK, RST or FIN
abbrev pub syn_on : ℕ → Place → Place → List ℕ → Bool
syn_on c (Client d) Front bytes = is_syn (decoded bytes c ToCluster)
syn_on c _ _ bytes = false

-- an Offer; what brings a connection back to the front end; and of these a Refused alone
abbrev pub is_offer : Kind → Bool
is_offer kind.Offer = true
is_offer _ = false

abbrev pub is_back : Kind → Bool
is_back kind.Ended = true
is_back kind.Give = true
is_back kind.Refused = true
is_back _ = false

abbrev pub is_refused : Kind → Bool
is_refused kind.Refused = true
is_refused _ = false

-- the epoch of a message, where it is of such a kind
abbrev pub epoch_if : (Kind → Bool) → Result Message MsgFault → Option ℕ
epoch_if is (Err fault) = None
epoch_if is (Ok m) = if is (kind_of m.body) then Some m.epoch.0 else None

-- the epoch of an Offer that comes to node n, and that of a message that comes from a node to the front end
abbrev pub offer_on : ℕ → Place → Place → List ℕ → Option ℕ
offer_on n Front (Node m) bytes = if nat_eq m n then epoch_if is_offer (decoded_message bytes) else None
offer_on n _ _ bytes = None

abbrev pub told_of : (Kind → Bool) → Place → Place → List ℕ → Option ℕ
told_of is (Node n) Front bytes = epoch_if is (decoded_message bytes)
told_of is _ _ bytes = None

abbrev pub segment_in : ℕ → Seen → Option (List ℕ)
segment_in c (Row r) = None
segment_in c (Came l) = segment_on c l.from l.to l.bytes

abbrev pub is_syn_in : ℕ → Seen → Bool
is_syn_in c (Row r) = false
is_syn_in c (Came l) = syn_on c l.from l.to l.bytes

abbrev pub epoch_offered : ℕ → Seen → Option ℕ
epoch_offered n (Row r) = None
epoch_offered n (Came l) = offer_on n l.from l.to l.bytes

-- that of each Ended, Give or Refused, and that of each Refused
abbrev pub back_in : Seen → Option ℕ
back_in (Row r) = None
back_in (Came l) = told_of is_back l.from l.to l.bytes

abbrev pub refused_in : Seen → Option ℕ
refused_in (Row r) = None
refused_in (Came l) = told_of is_refused l.from l.to l.bytes

-- ---- records

-- the epoch in which the front end takes the connection, and in which it gives it up
abbrev pub front_took : Rec → Option ℕ
front_took (rec.Took Front c epoch) = Some epoch.0
front_took _ = None

abbrev pub front_gave_epoch : Rec → Option ℕ
front_gave_epoch (rec.Gave Front c epoch) = Some epoch.0
front_gave_epoch _ = None

-- and a node
abbrev pub node_took : ℕ → Rec → Option ℕ
node_took n (rec.Took (Node m) c epoch) = if nat_eq m n then Some epoch.0 else None
node_took n _ = None

abbrev pub node_gave_epoch : ℕ → Rec → Option ℕ
node_gave_epoch n (rec.Gave (Node m) c epoch) = if nat_eq m n then Some epoch.0 else None
node_gave_epoch n _ = None

-- the node of a first assignment
abbrev pub first_node : Rec → Option ℕ
first_node (rec.AssignedFirst c r path n add remove) = Some n
first_node _ = None

-- what the front end sends to a node, and node n to the front end
abbrev pub to_node : Rec → Option (ℕ × List ℕ)
to_node (rec.Sent k Front (Node n) bytes) = Some (n, bytes)
to_node _ = None

abbrev pub from_node : ℕ → Rec → Option (List ℕ)
from_node n (rec.Sent k (Node m) Front bytes) = if nat_eq m n then Some bytes else None
from_node n _ = None

abbrev pub is_forward_kind : Kind → Bool
is_forward_kind kind.Forward = true
is_forward_kind _ = false

abbrev pub is_forward : Option Head → Bool
is_forward None = false
is_forward (Some h) = is_forward_kind h.kind

-- a Forward that the front end sends
abbrev pub forward_to : Rec → Option (ℕ × List ℕ)
forward_to (rec.Sent k Front (Node n) bytes) = if is_forward (message_head bytes) then Some (n, bytes) else None
forward_to _ = None

abbrev pub of_row : {A : Type 0} → (Rec → Option A) → Seen → Option A
of_row f (Row r) = f r
of_row f (Came l) = None

-- ---- the story so far

-- What the front end's part of the way was.
pub record Story : Type 0 where
  pub syn : Bool  -- a plain SYN of the client came to it
  pub took : Bool  -- it took the connection
  pub away : Bool  -- it gave it up, and did not take it again
  pub epoch : Option ℕ  -- that of the connection since it gave it up
  pub node : Option ℕ  -- that of the last first assignment
  pub back : List ℕ  -- the epochs of each Ended, Give or Refused that came to it

abbrev pub untold_story : Story
untold_story = record { syn = false; took = false; away = false; epoch = None; node = None; back = [] }

abbrev pub row_step : Story → Rec → Story
row_step t (rec.Took Front c epoch) = record t { took = true; away = false }
row_step t (rec.Gave Front c epoch) = record t { away = true; epoch = Some (epoch.0 + 1) }
row_step t (rec.AssignedFirst c r path n add remove) = record t { node = Some n }
row_step t _ = t

abbrev pub story_step : ℕ → Story → Seen → Story
story_step c t (Row r) = row_step t r
story_step c t (Came l) = record t { syn = t.syn || syn_on c l.from l.to l.bytes; back = t.back ++ listed (told_of is_back l.from l.to l.bytes) }

abbrev pub story : ℕ → List Seen → Story
story c seen = fold (story_step c) untold_story seen

-- the epoch in which anybody gave it up last, or 0
abbrev pub gave_step : ℕ → Rec → ℕ
gave_step e (rec.Gave place c epoch) = epoch.0
gave_step e _ = e

abbrev pub last_gave : List Seen → ℕ
last_gave seen = fold (seen_step gave_step) 0 seen

-- the highest of these epochs, or 0
abbrev pub highest : List ℕ → ℕ
highest [] = 0
highest (e ∷ es) = max e (highest es)

-- the epoch is among these
abbrev pub is_among : ℕ → List ℕ → Bool
is_among e es = list_any (λ d. d == e) es
