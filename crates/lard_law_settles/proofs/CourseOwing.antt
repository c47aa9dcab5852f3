-- What each move owes within a settle, and what is known where the machine makes a step of one.
use Rattle.std.proofs.Common.{◌≡◌, ◌<◌, ◌≤◌, ℕ, true, false, [], Ok}
use Rattle.lard_law_view.specs.Prelude.{Client, Conn, ControlBlock, Event, Front, HasRule, IsViewed, Machine, MayRestOn, Move, Node, Part, Place, Rules, Setting, TimerKind, conn, event_seen, front_armed, grown, letters_of, machine_step, node_armed, setting_of, station_armed}
use Rattle.lard_base.specs.declared.event.Event.TheVariants as event
use Rattle.lard_bound.specs.Progress.{Answers, Any, Every, IfCame, Lasts, NearAt, came_in, chain_at}
use Rattle.lard_bound.specs.Seats.{Waiting, seat_of}
use Rattle.lard_bound.specs.Units.{Whole, units}
use Rattle.lard_law_view.proofs.Saying.{NamesAll}
use Rattle.lard_law_view.proofs.Steps.{IsShown}

-- Of a move that sees nothing of its event: the connection is admitted, and a unit goes; or a job was done for it, and where no unit goes
-- nothing comes of what is sent.
pub record IsAlone (k : Setting) (w : Whole) (x : Conn) (v : Move) : Type 0 where
  pub admits : v.heads ≡ [] → NamesAll v.place → units w k.nodes (grown x v) < units w k.nodes x
  pub works : v.heads ≡ [] → units w k.nodes x ≤ units w k.nodes (grown x v) → Every (λ a. chain_at k.files (grown x v) a < 1) (letters_of v)

-- Of the part of a connection, where the first timer that is due is one of its own at this place: a timer of it runs there. No timer of the
-- front end does, where the place is a node, and none of the cluster where it is the client, whose connection does not wait.
abbrev pub IsFirst : Part → Place → Type 0
IsFirst p Front = (kind : TimerKind) × (front_armed p.front kind ≡ true)
IsFirst p (Node n) = (kind : TimerKind) × (node_armed (p.nodes n) kind ≡ true) × ((kind : TimerKind) → front_armed p.front kind ≡ false)
IsFirst p (Client d) = (station_armed p.station ≡ true) × ((kind : TimerKind) → front_armed p.front kind ≡ false) × ((n : ℕ) (kind : TimerKind) → node_armed (p.nodes n) kind ≡ false)
    × ((b : ControlBlock) (count : ℕ) → seat_of p ≡ Waiting b count → ⊥)

-- The first timer of those that are due sends what leads to a unit within three rounds, where no unit goes.
abbrev pub Begins : Setting → Whole → Conn → Move → Type 0
Begins k w x v = (p : Place) → v.heads ≡ event_seen (event.Timer p x.c) → IsFirst x.part p → units w k.nodes x ≤ units w k.nodes (grown x v) → Any (λ a. NearAt k.files (grown x v) 3 a) (letters_of v)

pub record Leads (k : Setting) (w : Whole) (x : Conn) (v : Move) : Type 0 where
  pub lasts : Lasts k w x v
  pub answers : IfCame (Answers k w x v) (came_in v.heads)
  pub alone : IsAlone k w x v
  pub fires : Begins k w x v

-- given what holds of the connection before the step and behind it, and of the move: what comes with it, and that it was not ignored
abbrev pub Owed : (Conn → Type 0) → (Conn → Move → Type 0) → (ℕ → Whole) → Setting → Conn → Move → Type 0
Owed Given Came all k x v = MayRestOn Given x → Given (grown x v) → Came x v → Leads k (all x.c) x v

-- A step of a settle, from m to n.
pub record IsStep (Given : Conn → Type 0) (Came : Conn → Move → Type 0) (all : ℕ → Whole) (m n : Machine) (e : Event) : Type 0 where
  pub view : IsViewed m
  pub rules : Rules (setting_of m) (Owed Given Came all (setting_of m))
  pub rule : HasRule e
  pub is : machine_step m e ≡ Ok n
  pub config : n.config ≡ m.config
  pub before : (q : ℕ) → Given (conn m q)
  pub behind : (q : ℕ) → Given (conn n q)
  pub came : (q : ℕ) (v : Move) → IsShown m e (conn m q) v → conn n q ≡ grown (conn m q) v → Came (conn m q) v
