-- What is seen before all that a node does: a packet that came to it, or its timer, or nothing.
use Rattle.std.proofs.Common.{ℕ, List, [], sym, subst}
use Rattle.lard_base.specs.declared.event.Event.TheVariants as event
use Rattle.lard_history.proofs.Each.{Each}
use Rattle.lard_journal.specs.declared.rec.Rec.TheVariants as rec
use Rattle.lard_law_view.specs.Prelude.{Came, Completed, Conn, Content, Fires, Forwarded, Front, Leaves, Letter, Node, NodeGets, Place, Row, Seen, event_seen, packet_seen}
use Rattle.lard_law_view.proofs.EachNode.{Answers, Aside, Brings, NodeComes, Queues, aside_seen}

module _ (x : Conn) (n : ℕ) (P : List Seen → Type 0) (packet : (from : Place) (bytes : List ℕ) → P (packet_seen from (Node n) bytes)) (none : P []) where
  pub of-heads : P (event_seen (event.Timer (Node n) x.c)) → (epoch : ℕ) (heads : List Seen) (g : NodeGets) → NodeComes x n epoch heads g → P heads
  of-heads timer epoch heads (Forwarded given) comes = subst P (sym comes.came.seen) (packet Front comes.came.bytes)
  of-heads timer epoch heads (Content from r) comes = subst P (sym comes.came.seen) (packet (Node from) comes.came.bytes)
  of-heads timer epoch heads (Completed r path) comes = subst P (sym comes) none
  of-heads timer epoch heads Leaves comes = subst P (sym comes.0) none
  of-heads timer epoch heads Fires comes = subst P (sym comes.seen) timer
  of-heads timer epoch heads g comes = subst P (sym comes.seen) (packet Front comes.bytes)

  -- and where it does something for another node
  pub of-aside : (a : Aside) → P (aside_seen n a)
  of-aside (Answers from epoch r path file bytes) = packet (Node from) bytes
  of-aside (Queues from epoch r path file bytes) = packet (Node from) bytes
  of-aside (Brings from epoch r path) = none

-- where it is so of each
module _ (H : Seen → Type 0) (came : (l : Letter) → H (Came l)) (fired : (n c : ℕ) → H (Row (rec.Event 0 (event.Timer (Node n) c)))) (x : Conn) (n epoch : ℕ)
    (heads : List Seen) where
  pub heads-of : (g : NodeGets) → NodeComes x n epoch heads g → Each H heads
  heads-of g comes = of-heads x n (Each H) (λ from bytes. (came (record { from = from; to = Node n; bytes = bytes }), tt)) tt
      (fired n x.c, tt) epoch heads g comes
