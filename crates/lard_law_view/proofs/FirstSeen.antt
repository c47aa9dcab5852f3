-- What comes to the front end or to a node, by what is seen first of it: a packet, the timer, or nothing. A law that asks no more than that has
-- three cases, whatever rules there are.
use Rattle.std.proofs.Common.{◌≡◌, ℕ, List, [], sym, subst}
use Rattle.lard_base.specs.declared.event.Event.TheVariants as event
use Rattle.lard_law_view.specs.Prelude.{AskedBy, Client, Completed, Conn, Content, EndedBy, Fires, FirstChoice, Forwarded, Front, FrontAdmits, FrontEnv, FrontFires, FrontGets, FrontHears, FrontPart, FrontTurn, Leaves, Node, NodeGets, Place, Seen, Was, event_seen, packet_seen}
use Rattle.lard_law_view.proofs.EachFront.{FrontComes, HasRung, HasTurn}
use Rattle.lard_law_view.proofs.EachNode.{HasFired, NodeComes}

module _ (x : Conn) (env : FrontEnv) (heads : List Seen) (P : List Seen → FrontGets → Type 0)
    (packet : (from : Place) (bytes : List ℕ) (g : FrontGets) → Was x from Front bytes → heads ≡ packet_seen from Front bytes → P heads g)
    (timer : HasRung x (event_seen (event.Timer Front x.c)) → P (event_seen (event.Timer Front x.c)) FrontFires)
    (none : (choice : FirstChoice) (given : FrontPart × FrontTurn) → HasTurn x env choice given [] → P [] (FrontAdmits choice given)) where
  pub by-front-seen : (g : FrontGets) → FrontComes x env heads g → P heads g
  by-front-seen (FrontHears bytes given) comes = packet (Client x.c) bytes (FrontHears bytes given) comes.was comes.seen
  by-front-seen FrontFires comes = subst (λ (ss : List Seen). HasRung x ss → P ss FrontFires) (sym comes.seen) timer comes
  by-front-seen (AskedBy from epoch ask) comes = packet (Node from) comes.told.bytes (AskedBy from epoch ask) comes.told.was comes.told.seen
  by-front-seen (EndedBy from epoch last) comes = packet (Node from) comes.told.bytes (EndedBy from epoch last) comes.told.was comes.told.seen
  by-front-seen (FrontAdmits choice given) comes = subst (λ (ss : List Seen). HasTurn x env choice given ss → P ss (FrontAdmits choice given)) (sym comes.seen) (none choice given) comes
  by-front-seen g comes = packet (Node _) comes.bytes g comes.was comes.seen

module _ (x : Conn) (n epoch : ℕ) (heads : List Seen) (P : List Seen → NodeGets → Type 0)
    (packet : (from : Place) (bytes : List ℕ) (g : NodeGets) → heads ≡ packet_seen from (Node n) bytes → P heads g)
    (timer : HasFired x n epoch (event_seen (event.Timer (Node n) x.c)) → P (event_seen (event.Timer (Node n) x.c)) Fires)
    (none : (g : NodeGets) → P [] g) where
  pub by-node-seen : (g : NodeGets) → NodeComes x n epoch heads g → P heads g
  by-node-seen (Forwarded given) comes = packet Front comes.came.bytes (Forwarded given) comes.came.seen
  by-node-seen (Content from r) comes = packet (Node from) comes.came.bytes (Content from r) comes.came.seen
  by-node-seen (Completed r path) comes = subst (λ (ss : List Seen). P ss (Completed r path)) (sym comes) (none (Completed r path))
  by-node-seen Leaves comes = subst (λ (ss : List Seen). P ss Leaves) (sym comes.0) (none Leaves)
  by-node-seen Fires comes = subst (λ (ss : List Seen). HasFired x n epoch ss → P ss Fires) (sym comes.seen) timer comes
  by-node-seen g comes = packet Front comes.bytes g comes.seen
