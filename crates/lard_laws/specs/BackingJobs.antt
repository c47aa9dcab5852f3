-- For which node a job is queued, in words of the step in which it is.
use Rattle.std.specs.Prelude.{◌≡◌, ◌⊎◌, ℕ, List, Some, Ok}
use Rattle.std.specs.List.{AllByRecursion}
use Rattle.lard_law_view.specs.Prelude.{Has, Node, Packet, Rec, decoded_message, net_of, packet_at}
use Rattle.lard_journal.specs.declared.rec.Rec.TheVariants as rec
use Rattle.lard_message.specs.declared.message.Body.TheVariants as body

-- In the step node n gets a Fetch from node m, of request r of connection c for this path.
pub record GetsFetch (past step : List Rec) (n m c r : ℕ) (path : List ℕ) : Type 0 where
  pub k : ℕ
  pub packet : Packet
  pub epoch : ℕ
  pub sent : packet_at (net_of past) k ≡ Some packet
  pub from : packet.from ≡ Node m
  pub to : packet.to ≡ Node n
  pub asks : decoded_message packet.bytes ≡ Ok (record { c = c; epoch = record { 0 = epoch }; body = body.Fetch r path })
  pub got : Has (rec.Got k) step

-- A job is the node's own, or it is that of a Fetch which comes.
abbrev pub MayQueue : List Rec → List Rec → Rec → Type 0
MayQueue past step (rec.Queued n m c r path) = (m ≡ n) ⊎ GetsFetch past step n m c r path
MayQueue past step _ = Unit {0}

-- So it is of each record of the step.
abbrev pub MustQueue : List Rec → List Rec → Type 0
MustQueue past step = AllByRecursion (MayQueue past step) step
