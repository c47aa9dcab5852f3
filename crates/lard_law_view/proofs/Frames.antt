-- What a move leaves as it was, for laws that look at one place: all but what its own place keeps. So such a law goes through the rules
-- of that place alone.
use Rattle.std.proofs.Common.{◌≡◌, ◌≢◌, ℕ, cond, List, [], Some, refl, ap}
use Rattle.lard_base.specs.declared.event.Event.TheVariants as event
use Rattle.lard_law_view.specs.Prelude.{Came, Client, ClientGets, ClientReceives, ClientRules, Conn, Front, FrontRules, IsConnNumber, IsConnSound, IsMachine, Move, Node, NodeRules, Part, Place, Rec, Row, Seen, Setting, UntouchedRules, Was, event_conn, front_does, front_rule, node_does, node_rule, nothing_said, packet_seen, stands}
use Rattle.lard_law_view.proofs.EachClient.{client_seen, each-client}
use Rattle.lard_law_view.proofs.EachFront.{each-front, of-front}
use Rattle.lard_law_view.proofs.EachNode.{each-node, job_notes, told_first}
use Rattle.lard_law_view.proofs.Fine.{IsFine, IsItsOwn, fine}
use Rattle.lard_law_view.proofs.Guarded.{client-both, client-weaker, front-both, front-weaker, node-both, node-weaker}
use Rattle.lard_law_view.proofs.NodeHeads.{of-aside, of-heads}
use Rattle.lard_rules.specs.Front as front
use Rattle.lard_history.proofs.Each.{Each}
use Rattle.lard_history.proofs.Seeing.{other_number}
use Rattle.lard_journal.specs.declared.rec.Rec.TheVariants as rec
use Rattle.lard_rules.specs.Node as node

-- what the other places keep is as it was
abbrev pub KeepsAt : Place → Part → Part → Type 0
KeepsAt (Client d) p q = (q.front ≡ p.front) × (q.nodes ≡ p.nodes)
KeepsAt Front p q = (q.station ≡ p.station) × (q.nodes ≡ p.nodes)
KeepsAt (Node n) p q = (q.station ≡ p.station) × (q.front ≡ p.front) × ((k : ℕ) → k ≢ n → q.nodes k ≡ p.nodes k)

-- at a machine of the cluster a packet is seen to come, or a timer to fire, before all notes
abbrev pub IsHeadAt : Place → ℕ → Seen → Type 0
IsHeadAt place c (Row (rec.Event i (event.Timer p d))) = (p ≡ place) × (d ≡ c)
IsHeadAt place c (Row r) = ⊥
IsHeadAt place c (Came l) = l.to ≡ place

-- A move of a machine of the cluster.
pub record IsAtMachine (x : Conn) (v : Move) : Type 0 where
  pub machine : IsMachine v.place
  pub keeps : KeepsAt v.place x.part v.part
  pub heads : Each (IsHeadAt v.place x.c) v.heads

-- ---- deeds

module _ (x : Conn) (heads : List Seen) where
  front-at : Each (IsHeadAt Front x.c) heads → (d : front.FrontDeed) → IsAtMachine x (front_does x heads d)
  front-at seen front.Drops = record { machine = tt; keeps = (refl, refl); heads = seen }
  front-at seen (front.Says t) = record { machine = tt; keeps = (refl, refl); heads = seen }
  front-at seen (front.Does y) = record { machine = tt; keeps = (refl, refl); heads = seen }

  node-at : (n : ℕ) → Each (IsHeadAt (Node n) x.c) heads → (d : node.NodeDeed) → IsAtMachine x (node_does x n heads d)
  node-at n seen node.Drops = record { machine = tt; keeps = (refl, refl, λ k other. refl); heads = seen }
  node-at n seen (node.Says messages) = record { machine = tt; keeps = (refl, refl, λ k other. refl); heads = seen }
  node-at n seen (node.Does y) = record {
    machine = tt;
    keeps = (refl, refl, λ k other. ap (λ b. cond b y.0 (x.part.nodes k)) (other_number k n other));
    heads = seen;
  }

-- ---- each rule of a machine

pub fronts-frame : (k : Setting) → FrontRules k IsAtMachine
fronts-frame k = each-front k IsAtMachine (λ x env heads g is comes. front-at x heads
    (of-front x (Each (IsHeadAt Front x.c)) (λ from bytes. (refl, tt)) tt ((refl, refl), tt) env heads g comes) (front_rule env x.part.front g))

pub nodes-frame : (k : Setting) → NodeRules k IsAtMachine
nodes-frame k = each-node k IsAtMachine (record {
  does = λ x n epoch env heads g is at comes. told-at x (job_notes x.c n g) _ (node-at x heads n
      (of-heads x n (Each (IsHeadAt (Node n) x.c)) (λ from bytes. (refl, tt)) tt ((refl, refl), tt) epoch heads g comes) (node_rule env (x.part.nodes n) g));
  aside = λ x n a may. record {
    machine = tt;
    keeps = (refl, refl, λ j other. refl);
    heads = of-aside x n (Each (IsHeadAt (Node n) x.c)) (λ from bytes. (refl, tt)) tt a;
  };
}) where
  told-at : (x : Conn) (rs : List Rec) (v : Move) → IsAtMachine x v → IsAtMachine x (told_first rs v)
  told-at x rs v h = record { machine = h.machine; keeps = h.keeps; heads = h.heads }

-- ---- each rule of a client

-- at a client an event is seen, and that it opened, or a packet that came to it
abbrev pub IsClientHead : ℕ → Seen → Type 0
IsClientHead c (Row (rec.Event i e)) = event_conn e ≡ Some c
IsClientHead c (Row (rec.Opened d isn iss wnd mss)) = d ≡ c
IsClientHead c (Row r) = ⊥
IsClientHead c (Came l) = l.to ≡ Client c

-- A move of the connection's client, which gives nobody anything and sends no message.
pub record IsAtClient (x : Conn) (v : Move) : Type 0 where
  pub client : v.place ≡ Client x.c
  pub keeps : (v.part.front ≡ x.part.front) × (v.part.nodes ≡ x.part.nodes)
  pub heads : Each (IsClientHead x.c) v.heads
  pub gave : v.said.gave ≡ []
  pub messages : v.said.messages ≡ []

pub clients-frame : (k : Setting) → ClientRules k IsAtClient
clients-frame k = each-client k IsAtClient (record {
  opens = λ x isn iss wnd mss rule none. record { client = refl; keeps = (refl, refl); heads = (refl, (refl, tt)); gave = refl; messages = refl };
  does = λ x s g there comes. record { client = refl; keeps = (refl, refl); heads = begins x.c g; gave = refl; messages = refl };
}) where
  begins : (c : ℕ) (g : ClientGets) → Each (IsClientHead c) (client_seen c g)
  begins c (ClientReceives from bytes) = (refl, tt)
  begins c _ = (refl, tt)

-- ---- a law that looks at one place

-- P is so, once the number is one of a connection and the connection is sound
abbrev pub Owed : (Conn → Move → Type 0) → Conn → Move → Type 0
Owed P x v = IsConnNumber x.c → IsConnSound x → P x v

module _ (k : Setting) (P : Conn → Move → Type 0) where
  -- what a machine's move owes, where a law looks at clients alone
  abbrev pub ByMachine : Conn → Move → Type 0
  ByMachine x v = IsAtMachine x v → IsItsOwn x v → Owed P x v

  abbrev pub ByClient : Conn → Move → Type 0
  ByClient x v = IsAtClient x v → IsItsOwn x v → Owed P x v

  by-machine : ((x : Conn) (v : Move) → ByMachine x v) → (x : Conn) (v : Move) → IsAtMachine x v × IsFine x v → Owed P x v
  by-machine others x v h number sound = others x v h.0 (h.1 number sound).0 number sound

  by-client : ((x : Conn) (v : Move) → ByClient x v) → (x : Conn) (v : Move) → IsAtClient x v × IsFine x v → Owed P x v
  by-client others x v h number sound = others x v h.0 (h.1 number sound).0 number sound

  -- the rules of machines, by what they leave as it was
  pub fronts-leave : ((x : Conn) (v : Move) → ByMachine x v) → FrontRules k (Owed P)
  fronts-leave others = front-weaker k (λ x v. IsAtMachine x v × IsFine x v) (Owed P) (by-machine others) (front-both k IsAtMachine IsFine (fronts-frame k) (fine k).untouched.front)

  pub nodes-leave : ((x : Conn) (v : Move) → ByMachine x v) → NodeRules k (Owed P)
  nodes-leave others = node-weaker k (λ x v. IsAtMachine x v × IsFine x v) (Owed P) (by-machine others) (node-both k IsAtMachine IsFine (nodes-frame k) (fine k).untouched.node)

  -- and those of clients
  pub clients-leave : ((x : Conn) (v : Move) → ByClient x v) → ClientRules k (Owed P)
  clients-leave others = client-weaker k (λ x v. IsAtClient x v × IsFine x v) (Owed P) (by-client others) (client-both k IsAtClient IsFine (clients-frame k) (fine k).untouched.client)

  -- a law of clients: by their rules, and one lemma for all machines
  pub by_clients : ClientRules k (Owed P) → ((x : Conn) (v : Move) → ByMachine x v)
      → ((x : Conn) (from to : Place) (bytes : List ℕ) → Was x from to bytes → Owed P x (stands x to (packet_seen from to bytes) nothing_said)) → UntouchedRules k (Owed P)
  by_clients clients others ignoring = record { client = clients; front = fronts-leave others; node = nodes-leave others; ignores = λ x from to bytes was. ignoring x from to bytes was.0 }
