-- Where the contents come from that a node sends to another one, in words of the step in which it sends them.
use Rattle.std.specs.Prelude.{◌≡◌, ◌⊎◌, ℕ, List, [], Some, Ok}
use Rattle.std.specs.List.{AllByRecursion}
use Rattle.lard_law_view.specs.Prelude.{Config, EachStep, FilesAt, Has, IsReached, Machine, Message, Node, Packet, Place, Rec, content_bytes, decoded_message, file_at, kind_of, net_of, packet_at, steps}
use Rattle.lard_journal.specs.declared.rec.Rec.TheVariants as rec
use Rattle.lard_message.specs.declared.kind.Kind.TheVariants as kind
use Rattle.lard_message.specs.declared.message.Body.TheVariants as body
use Rattle.lard_rules.specs.Node.{message}

-- it is read as a content
abbrev pub IsContentMessage : List ℕ → Type 0
IsContentMessage bytes = (msg : Message) × (decoded_message bytes ≡ Ok msg) × (kind_of msg.body ≡ kind.Content)

-- In the step node n gets a Fetch from node m, of request r of connection c for this path, which is a hit there.
pub record AnswersFetch (past step : List Rec) (n m c epoch r : ℕ) (path : List ℕ) : Type 0 where
  pub k : ℕ
  pub packet : Packet
  pub sent : packet_at (net_of past) k ≡ Some packet
  pub from : packet.from ≡ Node m
  pub to : packet.to ≡ Node n
  pub asks : decoded_message packet.bytes ≡ Ok (record { c = c; epoch = record { 0 = epoch }; body = body.Fetch r path })
  pub got : Has (rec.Got k) step
  pub hit : Has (rec.Hit n path) step

-- These bytes carry the file of a path, for a request whose Fetch the step answers out of the cache, or whose job it reads.
pub record BringsFile (files : FilesAt) (past step : List Rec) (n m : ℕ) (bytes : List ℕ) : Type 0 where
  pub c : ℕ
  pub epoch : ℕ
  pub r : ℕ
  pub path : List ℕ
  pub is : bytes ≡ message c epoch (body.Content r (content_bytes (files path)))
  pub by : AnswersFetch past step n m c epoch r path ⊎ Has (rec.Read n m c r path) step

abbrev pub SendsFile : FilesAt → List Rec → List Rec → Place → Place → List ℕ → Type 0
SendsFile files past step (Node n) (Node m) bytes = IsContentMessage bytes → BringsFile files past step n m bytes
SendsFile files past step _ _ bytes = Unit {0}

abbrev pub MayBring : FilesAt → List Rec → List Rec → Rec → Type 0
MayBring files past step (rec.Sent k from to bytes) = SendsFile files past step from to bytes
MayBring files past step _ = Unit {0}

-- So it is of each packet of the step that is read as a content.
abbrev pub MustBring : FilesAt → List Rec → List Rec → Type 0
MustBring files past step = AllByRecursion (MayBring files past step) step

-- In every run, of each connection: also of one that the schedule touched.
abbrev pub ContentsAreFiles : Type 0
ContentsAreFiles = (config : Config) (files : List (List ℕ × List ℕ)) (m : Machine) → IsReached config files m → EachStep (MustBring (file_at files)) [] (steps m.journal)
