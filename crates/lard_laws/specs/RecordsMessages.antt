-- What machines of the cluster say to each other, and which nodes act, record by record.
use Rattle.std.specs.Prelude.{◌≡◌, ℕ, ◌≤◌, List, [], All, Some, Ok}
use Rattle.lard_law_view.specs.Prelude.{Config, EachMay, Event, IsMachine, IsMessage, IsReached, Machine, Message, Node, Passes, Rec, config_check, decoded_message, first_place, kind_of, machine_start, named_in, spelled_message}
use Rattle.lard_law_connections.specs.Places.{message_head}
use Rattle.lard_laws.specs.Records.{IsRunFile, IsScheduled}
use Rattle.lard_journal.specs.declared.rec.Rec.TheVariants as rec

-- ---- messages

-- The bytes decode to a message whose numbers are in their ranges, and they are its one spelling. So their head is its kind and its
-- epoch, and the connection that they name is its own.
pub record Decodes (bytes : List ℕ) : Type 0 where
  pub message : Message
  pub is : IsMessage message
  pub decoded : decoded_message bytes ≡ Ok message
  pub spelled : spelled_message message ≡ bytes
  pub head : message_head bytes ≡ Some (record { kind = kind_of message.body; epoch = message.epoch.0 })
  pub connection : named_in bytes ≡ Some message.c

-- a packet that goes between two machines of the cluster is a message
abbrev pub MayTalk : List Rec → Rec → Type 0
MayTalk past (rec.Sent k from to bytes) = IsMachine from → IsMachine to → Decodes bytes
MayTalk past _ = Unit {0}

-- In every run of such files and events as give records in range, also of connections that the schedule touched.
abbrev pub PacketsAreMessages : Type 0
PacketsAreMessages = (config : Config) (files : List (List ℕ × List ℕ)) (es : List Event) (m : Machine) → config_check config ≡ Ok tt → All IsRunFile files → All IsScheduled es
    → Passes (machine_start config files) es m → EachMay MayTalk [] m.journal

-- ---- nodes

-- a node that a record names first, since it writes it of itself, is one of so many
abbrev pub MayBeThere : ℕ → List Rec → Rec → Type 0
MayBeThere nodes past r = (n : ℕ) → first_place r ≡ Some (Node n) → (1 ≤ n) × (n ≤ nodes)

-- In every run only nodes that are there act, whatever the schedule names.
abbrev pub OnlyNodesThatAreThereAct : Type 0
OnlyNodesThatAreThereAct = (config : Config) (files : List (List ℕ × List ℕ)) (m : Machine) → IsReached config files m → EachMay (MayBeThere config.nodes) [] m.journal
