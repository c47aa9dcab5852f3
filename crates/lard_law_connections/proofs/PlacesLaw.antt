-- The law of places: each rule keeps it, so it holds of each connection in every run.
use Rattle.std.proofs.Common.{ℕ, List, [], ◌∷◌, refl, subst, sym}
use Rattle.lard_law_view.specs.Prelude.{Client, ClientRules, Completed, Conn, Event, Front, FrontRules, IsNodeEnv, MayRestOn, Move, Node, NodeEnv, NodeGets, Place, Rec, Row, Rules, Seen, Setting, client_injects, client_opens, client_rule, content_said, event_seen, nothing_said, packet_seen, stands}
use Rattle.lard_law_view.proofs.EachClient.{client_seen, each-client, of-client}
use Rattle.lard_law_view.proofs.EachFront.{each-front, of-front}
use Rattle.lard_base.specs.declared.event.Event.TheVariants as event
use Rattle.lard_law_view.proofs.NodeHeads.{of-aside, of-heads}
use Rattle.lard_law_connections.specs.Places.{MaySay}
use Rattle.lard_law_connections.proofs.PlacesClients.{client-owes}
use Rattle.lard_law_connections.proofs.PlacesFront.{IsQuiet, Tells}
use Rattle.lard_law_connections.proofs.PlacesFrontMessages.{gets-owe}
use Rattle.lard_law_connections.proofs.PlacesHeads.{spelled-some}
use Rattle.lard_law_connections.proofs.PlacesNode.{plain-turned, stands-owes}
use Rattle.lard_law_connections.proofs.PlacesNodeEnds.{rule-owes}
use Rattle.lard_law_connections.proofs.PlacesTurns.{IsPlaced, Owes}
use Rattle.lard_history.proofs.Each.{Each}
use Rattle.lard_journal.specs.declared.rec.Rec.TheVariants as rec
use Rattle.lard_law_view.proofs.EachNode.{Answers, Aside, Brings, NodeComes, Queues, aside_said, aside_seen, each-node, node_goes}
use Rattle.lard_rules.proofs.NodeCases.{IsInItsEpoch}
use Rattle.lard_law_view.proofs.PlaceTurns.{injects-turn, opens-turn, rule-turn}

-- ---- what is seen before the notes

event-quiet : (x : Conn) (e : Event) → IsQuiet x (event_seen e)
event-quiet x e = record { may = (tt, tt); same = refl }

packet-quiet : (x : Conn) (from to : Place) (bytes : List ℕ) → IsQuiet x (packet_seen from to bytes)
packet-quiet x from to bytes = record { may = tt; same = refl }

none-quiet : (x : Conn) → IsQuiet x []
none-quiet x = record { may = tt; same = refl }

two-quiet : (x : Conn) (e : Event) (r : Rec) → IsQuiet x (Row (rec.Event 0 e) ∷ Row (rec.Injected x.c) ∷ [])
two-quiet x e r = record { may = (tt, (tt, tt)); same = refl }

open-quiet : (x : Conn) (isn iss wnd mss : ℕ) → IsQuiet x (Row (rec.Event 0 (event.Open x.c isn iss wnd mss)) ∷ Row (rec.Opened x.c isn iss wnd mss) ∷ [])
open-quiet x isn iss wnd mss = record { may = (tt, (tt, tt)); same = refl }

-- ---- every rule

module _ (k : Setting) (Given : Conn → Type 0) where
  abbrev pub Owing : Conn → Move → Type 0
  Owing x v = MayRestOn Given x → IsPlaced x → Owes x v

  clients : ClientRules k Owing
  clients = each-client k Owing (record {
    opens = λ x isn iss wnd mss rule none m h. client-owes x _ (open-quiet x isn iss wnd mss) h (record { client = (client_opens x.c isn wnd mss).0; iss = iss })
        (client_opens x.c isn wnd mss) (opens-turn x.c isn wnd mss);
    does = λ x s g there comes m h. client-owes x (client_seen x.c g)
        (of-client x.c (IsQuiet x) (λ from bytes. packet-quiet x from (Client x.c) bytes) (event-quiet x) g) h _ (client_rule x.c s.client g)
        (rule-turn x.c s.client (m.sound.client s there) g);
  })

  fronts : FrontRules k Owing
  fronts = each-front k Owing (λ x env heads g is comes m h. gets-owe k x heads
      (of-front x (IsQuiet x) (λ from bytes. packet-quiet x from Front bytes) (none-quiet x) (event-quiet x (event.Timer Front x.c)) env heads g comes) h env is m.sound g comes)

  heads-quiet : (x : Conn) (n epoch : ℕ) (heads : List Seen) (g : NodeGets) → NodeComes x n epoch heads g → IsQuiet x heads
  heads-quiet x n epoch heads g comes = of-heads x n (IsQuiet x) (λ from bytes. packet-quiet x from (Node n) bytes) (none-quiet x)
      (event-quiet x (event.Timer (Node n) x.c)) epoch heads g comes

  does-owe : (x : Conn) (n epoch : ℕ) (env : NodeEnv) (heads : List Seen) (g : NodeGets) → IsNodeEnv k x.c n epoch env → IsInItsEpoch env (x.part.nodes n) g
      → NodeComes x n epoch heads g → Owing x (node_goes x n env heads g)
  does-owe x n epoch env heads (Completed r path) is at comes m h =
      let o = rule-owes k x heads (heads-quiet x n epoch heads (Completed r path) comes) h m.sound n epoch env is (Completed r path) at.0 comes in
      record { heads = o.heads; same = o.same; rows = (tt, o.rows); sits = o.sits; grows = o.grows; letters = o.letters }
  does-owe x n epoch env heads g is at comes m h = rule-owes k x heads (heads-quiet x n epoch heads g comes) h m.sound n epoch env is g at.0 comes

  -- a content says nothing of where it is
  content-tells : (x : Conn) (n to epoch r : ℕ) (path : List ℕ) → Each (Tells x.part (Node n)) (content_said k n to x.c epoch r path).messages
  content-tells x n to epoch r path = (subst (λ h. MaySay x.part (Node n) (Node to) h) (sym (spelled-some _)) tt, tt)

  aside-owes : (x : Conn) (n : ℕ) (a : Aside) → Owing x (stands x (Node n) (aside_seen n a) (aside_said k n x.c a))
  aside-owes x n a m h = go a where
    quiet : IsQuiet x (aside_seen n a)
    quiet = of-aside x n (IsQuiet x) (λ from bytes. packet-quiet x from (Node n) bytes) (none-quiet x) a

    go : (b : Aside) → Owes x (stands x (Node n) (aside_seen n a) (aside_said k n x.c b))
    go (Answers from epoch r path file bytes) =
        stands-owes x _ quiet h (Node n) _ (plain-turned x _ quiet (Node n) [] (content_said k n from x.c epoch r path).messages tt (tt, tt)) (content-tells x n from epoch r path)
    go (Queues from epoch r path file bytes) = stands-owes x _ quiet h (Node n) _
        (plain-turned x _ quiet (Node n) (rec.Queued n from x.c r path ∷ []) [] (tt, tt) tt) tt
    go (Brings from epoch r path) =
        stands-owes x _ quiet h (Node n) _
        (plain-turned x _ quiet (Node n) (rec.Read n from x.c r path ∷ []) (content_said k n from x.c epoch r path).messages (tt, tt) (tt, tt)) (content-tells x n from epoch r path)

  pub owing : Rules k Owing
  owing = record {
    untouched = record {
      client = clients;
      front = fronts;
      node = each-node k Owing (record { does = does-owe; aside = λ x n a may. aside-owes x n a });
      ignores = λ x from to bytes was m h. stands-owes x _ (packet-quiet x from to bytes) h to nothing_said (plain-turned x _ (packet-quiet x from to bytes) to [] [] tt tt) tt;
    };
    injects = λ x s bytes there rule m h. client-owes x _ (two-quiet x (event.Inject x.c bytes) (rec.Injected x.c)) h _ (client_injects s.client bytes) (injects-turn x.c s.client (m.sound.client s there) bytes);
  }
