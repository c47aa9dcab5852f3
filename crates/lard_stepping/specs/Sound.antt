-- What the code of the cluster relies on between two steps.
use Rattle.std.specs.Prelude.{◌≡◌, ℕ, ◌*◌, ◌≤◌, ◌<◌, ◌^◌, List, length, Ok, Option, Some, None}
use Rattle.std.specs.List.{AllByRecursion}
use Rattle.lard_back.specs.Sound.{IsNodeSound}
use Rattle.lard_base.specs.Config.{config_check}
use Rattle.lard_base.specs.declared.config.Config.{Config}
use Rattle.lard_base.specs.declared.event.Event.{Event}
use Rattle.lard_base.specs.declared.event.Event.TheVariants as event
use Rattle.lard_base.specs.declared.place.Place.{Place}
use Rattle.lard_base.specs.declared.place.Place.TheVariants.{Front, Node}
use Rattle.lard_base.specs.declared.limits.TheConstants.{MAX_PACKETS, MAX_RECORDS, MAX_RESPONSE_BYTES, MAX_STREAM_BYTES}
use Rattle.lard_rules.specs.declared.machine.Machine.{Machine}
use Rattle.lard_dispatch.specs.Sound.{AreBefore}
use Rattle.lard_net.specs.Net.{Packet, packet_at}
use Rattle.lard_rules.specs.FrontSound.{IsFrontSound, MayClose}
use Rattle.lard_rules.specs.declared.front.FrontIn.TheVariants as input
use Rattle.lard_rules.specs.declared.node.NodeState.{NodeState}

-- no limit was reached
pub record HasRoom (m : Machine) : Type 0 where
  pub packets : length m.net < MAX_PACKETS
  pub records : length m.journal < MAX_RECORDS
  pub passed : m.events < MAX_RECORDS
  pub queued : m.answered < MAX_RESPONSE_BYTES

-- a configuration that passed its check, and the numbers of it that the code relies on
pub record IsSet (c : Config) : Type 0 where
  pub usable : config_check c ≡ Ok tt
  pub stream : c.stream ≤ MAX_STREAM_BYTES
  pub nodes : c.nodes ≤ 64

-- a node that its code can rely on, whose disk has at most so many jobs
pub record IsNodeFit (most : ℕ) (s : NodeState) : Type 0 where
  pub sound : IsNodeSound s
  pub jobs : length s.disk ≤ most

-- each place is one that its code can rely on; each event has a record, and no record moved the time by 2^32 milliseconds
pub record IsSoundTo (most : ℕ) (m : Machine) : Type 0 where
  pub front : IsFrontSound m.front
  pub clock : AreBefore m.now m.front.dispatch.books.sets
  pub count : length m.nodes ≡ m.config.nodes
  pub nodes : AllByRecursion (IsNodeFit most) m.nodes
  pub events : m.events ≤ length m.journal
  pub time : m.now ≤ length m.journal * 2 ^ 32

-- each job of a disk has a record, too
abbrev pub IsMachineSound : Machine → Type 0
IsMachineSound m = IsSoundTo (length m.journal) m

-- Where what comes to the front end closes a node, another one is open: so it is of a packet that comes from here, and of the step of an event.
abbrev pub MayHear : Machine → List ℕ → Place → Type 0
MayHear m bytes (Node n) = MayClose m.front (input.Message n bytes)
MayHear m bytes _ = Unit {0}

abbrev pub MayReach : Machine → List ℕ → Place → Place → Type 0
MayReach m bytes from Front = MayHear m bytes from
MayReach m bytes from _ = Unit {0}

abbrev pub MayDeliver : Machine → Option Packet → Type 0
MayDeliver m None = Unit {0}
MayDeliver m (Some p) = MayReach m p.bytes p.from p.to

abbrev pub MayStep : Machine → Event → Type 0
MayStep m (event.Deliver k) = MayDeliver m (packet_at m.net k)
MayStep m _ = Unit {0}
