-- The shapes of a step: a place acts on one connection, the front end acts on two, a place acts on many or on none, a packet comes
-- and nothing is done, a packet is lost, or the time moves on.
use Rattle.std.proofs.Common.{◌≡◌, ◌≢◌, ℕ, ◌+◌, ◌-◌, ◌<◌, List, [], ◌∷◌, ◌++◌, map, length, Bool, false, cond, Option, Some, None}
use Rattle.std.specs.Prelude.{◌⊎◌}
use Rattle.std.specs.FinMap as table
use Rattle.std.specs.List.{flat_map}
use Rattle.lard_law_view.specs.Prelude.{AreNumbered, Client, Conn, EndpointParts, Epoch, Event, Front, IsConnNumber, IsMachine, IsUnheard, Machine, Move, Node, NodeState, Out, Packet, Part, Place, Rec, Row, Seen, SpellsMessage, back_body, clocked, conn, conn_of, lose_at, machine_told, node_at, node_leaves, packet_at, part_of, passed, seen_on, timer_rows}
use Rattle.lard_base.specs.declared.event.Event.TheVariants as event
use Rattle.lard_law_view.proofs.Heads.{Begins}
use Rattle.lard_law_view.proofs.Saying.{AreMessages, GaveAt, NamesNobody}
use Rattle.lard_law_view.proofs.Turned.{IsSaidIn}
use Rattle.lard_history.proofs.Each.{Each}
use Rattle.lard_journal.specs.declared.rec.Rec.TheVariants as rec
use Rattle.lard_law_view.proofs.Firsts.{HasOwn}
use Rattle.lard_law_view.proofs.OwnRecords.{IsDrain, IsNoClosing, behind}

-- each job of each disk is of a connection
abbrev pub HasJobs : Machine → Type 0
HasJobs m = (n : ℕ) (s : NodeState) → node_at m.nodes n ≡ Some s → AreNumbered s.disk

-- INTERIM: no node leaves yet
abbrev pub NoneLeaves : Machine → Type 0
NoneLeaves m = (n : ℕ) (s : NodeState) → node_at m.nodes n ≡ Some s → node_leaves s ≡ false

-- w is m with what a place keeps put back.
pub record IsPut (m w : Machine) : Type 0 where
  pub config : w.config ≡ m.config
  pub files : w.files ≡ m.files
  pub net : w.net ≡ m.net
  pub journal : w.journal ≡ m.journal
  pub events : w.events ≡ m.events
  pub answered : w.answered ≡ m.answered
  pub now : w.now ≡ m.now
  pub nodes : length w.nodes ≡ length m.nodes
  pub jobs : HasJobs m → HasJobs w
  pub remain : NoneLeaves m → NoneLeaves w

-- what a place does on one connection, whose notes are seen so
abbrev pub move_of : Place → List Seen → List Rec → Out → Part → Move
move_of place heads ns o p = record { place = place; heads = heads; said = record { notes = ns; segments = o.segments; gave = o.gave; messages = o.messages }; part = p }

-- The front end hears that connection c comes back: a Refused or a Give of this node. In the step of that alone, and of a drain, a node is closed.
pub record HearsReturn (m : Machine) (e : Event) (c from : ℕ) : Type 0 where
  pub k : ℕ
  pub packet : Packet
  pub epoch : ℕ
  pub given : Option EndpointParts
  pub delivers : e ≡ event.Deliver k
  pub at : packet_at m.net k ≡ Some packet
  pub sender : packet.from ≡ Node from
  pub goal : packet.to ≡ Front
  pub spells : SpellsMessage c epoch (back_body given) packet.bytes

-- Where it does, the node is closed behind the record that the front end took the connection, if it was open, and nowhere else.
pub record ClosesBehind (m : Machine) (e : Event) (c : ℕ) (notes : List Rec) : Type 0 where
  pub from : ℕ
  pub hears : HearsReturn m e c from
  pub taken : Epoch
  pub open_ : Bool
  pub rest : List Rec
  pub are : notes ≡ rec.Took Front c taken ∷ cond open_ (rec.Closed from ∷ []) [] ++ rec.Released c ∷ [] ++ rest
  pub none : Each IsNoClosing rest

-- A place acts on connection c, which is left so.
pub record ActsOn (m w : Machine) (e : Event) (place : Place) (o : Out) (c : ℕ) (heads : List Seen) (ns : List Rec) (p : Part) : Type 0 where
  pub put : IsPut m w
  pub number : IsConnNumber c
  pub begins : Begins m e place c heads
  pub said : IsSaidIn place c o.notes o.segments o.gave o.messages o.answered
  pub first : HasOwn e (behind e ++ o.notes)
  pub closes : ClosesBehind m e c o.notes ⊎ Each IsNoClosing o.notes
  pub notes : (net : List Packet) → seen_on c net o.notes ≡ map Row ns
  pub timers : o.timers ≡ timer_rows place c (part_of m c) p
  pub mine : part_of w c ≡ p
  pub others : (q : ℕ) → q ≢ c → part_of w q ≡ part_of m q

-- what a place does on a connection, and the rest of that, which stands behind what it does on another one
abbrev pub with_rest : Out → Out → Out
with_rest a z = record {
  notes = a.notes ++ z.notes;
  segments = a.segments ++ z.segments;
  gave = a.gave ++ z.gave;
  messages = a.messages ++ z.messages;
  timers = a.timers;
  answered = a.answered + z.answered;
}

-- what the front end does on a connection, on another one, and then on the first again, kind by kind, with the records of their timers
abbrev pub both_out : Out → Out → Out → List Rec → Out
both_out a b z timers = record {
  notes = a.notes ++ b.notes ++ z.notes;
  segments = a.segments ++ b.segments ++ z.segments;
  gave = a.gave ++ b.gave ++ z.gave;
  messages = a.messages ++ b.messages ++ z.messages;
  timers = timers;
  answered = a.answered + z.answered;
}

-- Behind another one a connection does no more than read on: it is answered, or it waits.
abbrev pub ReadsOn : Rec → Type 0
ReadsOn (rec.Served place c r code size via) = Unit {0}
ReadsOn (rec.Reset place c total) = Unit {0}
ReadsOn (rec.Waits c) = Unit {0}
ReadsOn _ = ⊥

-- The front end acts on connection c, and on another one, d, in the same step; behind d stands the rest of c, with all that c reads on.
pub record ActsOnTwo (m w : Machine) (e : Event) (a b z : Out) (rows : List Rec) (c d : ℕ) (heads : List Seen) (ns : List Rec) (p r : Part) : Type 0 where
  pub put : IsPut m w
  pub number : IsConnNumber c
  pub number_too : IsConnNumber d
  pub apart : d ≢ c
  pub begins : Begins m e Front c heads
  pub first : HasOwn e (behind e ++ (a.notes ++ b.notes ++ z.notes))
  pub closes : ClosesBehind m e c (a.notes ++ b.notes ++ z.notes) ⊎ Each IsNoClosing (a.notes ++ b.notes ++ z.notes)
  pub said : IsSaidIn Front c a.notes a.segments a.gave a.messages a.answered
  pub said_too : IsSaidIn Front d b.notes b.segments b.gave b.messages 0
  pub said_rest : IsSaidIn Front c z.notes z.segments z.gave z.messages z.answered
  pub before : Each (λ r. ReadsOn r → ⊥) a.notes
  pub reads_on : Each ReadsOn z.notes
  pub notes : (net : List Packet) → seen_on c net (a.notes ++ z.notes) ≡ map Row ns
  pub notes_too : (net : List Packet) → seen_on d net b.notes ≡ map Row b.notes
  pub order : (rows ≡ a.timers ++ b.timers) ⊎ (rows ≡ b.timers ++ a.timers)
  pub timers : a.timers ≡ timer_rows Front c (part_of m c) p
  pub timers_too : b.timers ≡ timer_rows Front d (part_of m d) r
  pub mine : part_of w c ≡ p
  pub mine_too : part_of w d ≡ r
  pub others : (q : ℕ) → q ≢ c → q ≢ d → part_of w q ≡ part_of m q

-- ---- a place acts on many connections, or on none

-- What one of them does: what it gives up and sends, the records of its timers, and its part behind it.
pub record Mover : Type 0 where
  pub c : ℕ
  pub gave : List Rec
  pub messages : List (Place × List ℕ)
  pub timers : List Rec
  pub part : Part

-- it sees nothing of the event, and notes nothing
abbrev pub mover_move : Place → Mover → Move
mover_move place x = record { place = place; heads = []; said = record { notes = []; segments = []; gave = x.gave; messages = x.messages }; part = x.part }

-- what a place notes of nobody, and what it does on each of these connections, kind by kind
abbrev pub each_out : List Rec → List Mover → Out
each_out notes xs = record { notes = notes; segments = []; gave = flat_map (λ x. x.gave) xs; messages = flat_map (λ x. x.messages) xs; timers = flat_map (λ x. x.timers) xs; answered = 0 }

-- What it does is of its connection, which is left so.
pub record IsMover (m w : Machine) (place : Place) (x : Mover) : Type 0 where
  pub number : IsConnNumber x.c
  pub gave : Each (GaveAt place x.c) x.gave
  pub messages : AreMessages x.c place x.messages
  pub timers : x.timers ≡ timer_rows place x.c (part_of m x.c) x.part
  pub mine : part_of w x.c ≡ x.part

-- they stand in the order of their numbers
abbrev pub AreRising : List Mover → Type 0
AreRising [] = Unit {0}
AreRising (x ∷ xs) = Each (λ y. x.c < y.c) xs × AreRising xs

-- A place acts on each of these connections, by message alone; nobody sees the event.
pub record ActsOnEach (m w : Machine) (e : Event) (place : Place) (notes : List Rec) (xs : List Mover) : Type 0 where
  pub put : IsPut m w
  pub machine : IsMachine place
  pub begins : (c : ℕ) → Begins m e place c []
  pub first : HasOwn e (behind e ++ notes)
  pub nobody : Each (NamesNobody place) notes
  pub closes : IsDrain e ⊎ Each IsNoClosing notes
  pub rising : AreRising xs
  pub movers : Each (IsMover m w place) xs
  pub others : (q : ℕ) → Each (λ x. q ≢ x.c) xs → part_of w q ≡ part_of m q

-- a packet that goes there comes to nobody who acts
abbrev pub IsNobodyAt : Machine → Place → Type 0
IsNobodyAt m to = (c : ℕ) → to ≡ Client c → table.get m.clients c ≡ None

-- and no rule hears it
abbrev pub IsUnheardAt : Machine → Packet → Type 0
IsUnheardAt m l = (d : ℕ) → conn_of l.from l.to l.bytes ≡ Some d → IsUnheard m.config.nodes (table.get m.clients d) l.from l.to l.bytes

-- Q is so of each shape that a step from m may have, where P is so of the moves that a place makes.
pub record Shapes (m : Machine) (P : Conn → Move → Type 0) (Q : Event → Machine → Type 0) : Type 0 where
  pub one : (w : Machine) (e : Event) (place : Place) (o : Out) (c : ℕ) (heads : List Seen) (ns : List Rec) (p : Part) → ActsOn m w e place o c heads ns p
      → P (conn m c) (move_of place heads ns o p) → Q e (machine_told w e (behind e) place o)
  pub two : (w : Machine) (e : Event) (a b z : Out) (rows : List Rec) (c d : ℕ) (heads : List Seen) (ns : List Rec) (p r : Part) → ActsOnTwo m w e a b z rows c d heads ns p r
      → P (conn m c) (move_of Front heads ns (with_rest a z) p) → P (conn m d) (move_of Front [] b.notes b r) → Q e (machine_told w e (behind e) Front (both_out a b z rows))
  pub each : (w : Machine) (e : Event) (place : Place) (notes : List Rec) (xs : List Mover) → ActsOnEach m w e place notes xs
      → Each (λ x. P (conn m x.c) (mover_move place x)) xs → Q e (machine_told w e (behind e) place (each_out notes xs))
  pub nobody : (k : ℕ) (l : Packet) → packet_at m.net k ≡ Some l → (l.lost ≡ false) × IsNobodyAt m l.to × IsUnheardAt m l → Q (event.Deliver k) (passed m (event.Deliver k) (rec.Got k ∷ []))
  pub loses : (k : ℕ) (l : Packet) → packet_at m.net k ≡ Some l → l.lost ≡ false → Q (event.Lose k) (passed (record m { net = lose_at (k - 1) m.net }) (event.Lose k) (rec.Lost k ∷ []))
  pub clocks : (ms : ℕ) → Q (event.Clock ms) (clocked m ms)
