-- Every step of which a settle's rounds are made leads further: no unit comes back, and what comes of a packet is shorter and nearer.
use Rattle.std.proofs.Common.{◌≡◌, ◌<◌, ℕ, List, [], ◌∷◌, Some, refl, sym, ◌∙◌, subst, arith}
use Rattle.lard_law_view.specs.Prelude.{Client, ClientFires, ClientGets, ClientReceives, ClientRules, Completed, Conn, Content, Forwarded, Front, FrontRules, IsNobody, IsUnheard, Leaves, Letter, MayRestOn, Move, Node, NodeEnv, NodeGets, NodeRules, Place, Rules, Seen, Setting, Station, front_does, front_rule, grown, node_rule, nothing_said, packet_seen, stands}
use Rattle.lard_law_view.proofs.EachClient.{ClientComes, client_goes, each-client}
use Rattle.lard_bound.specs.Progress.{Answers, IfCame, IsWarm, Lasts, came_in}
use Rattle.lard_bound.specs.Units.{Whole, units}
use Rattle.lard_law_view.proofs.Saying.{NamesAll}
use Rattle.lard_law_view.proofs.EachFront.{each-front}
use Rattle.lard_law_view.proofs.EachNode.{Aside, NodeComes, aside_said, aside_seen, each-node, job_notes, node_goes}
use Rattle.lard_law_view.proofs.EachNode as each
use Rattle.lard_law_view.proofs.Guarded.{both, front-both, front-weaker, node-both, node-weaker, weaker}
use Rattle.lard_law_progress.proofs.Admitting.{admitted-falls}
use Rattle.lard_law_progress.proofs.AnswersClientGiven.{ClientGiven}
use Rattle.lard_law_progress.proofs.AnswersClientRules.{client-answers}
use Rattle.lard_law_progress.proofs.AnswersForm.{IsLateOn, Owes}
use Rattle.lard_law_progress.proofs.AnswersFront.{front-answers, front-ignores}
use Rattle.lard_law_progress.proofs.AnswersFrontGiven.{FrontGiven}
use Rattle.lard_law_progress.proofs.AnswersIgnored.{IsUnwanted, client-ignores, node-ignores}
use Rattle.lard_law_progress.proofs.AnswersNodeGiven.{NodeGiven}
use Rattle.lard_law_progress.proofs.AnswersNodeJobs.{JobOwes, brings-works, leaves-works, read-works}
use Rattle.lard_law_progress.proofs.AnswersNodeRules.{node-answers}
use Rattle.lard_law_view.proofs.FirstSeen.{by-front-seen}
use Rattle.lard_law_progress.proofs.Given.{AreInner, Given, Owed}
use Rattle.lard_law_progress.proofs.Lasting.{rules-last}
use Rattle.lard_law_view.proofs.Deeds.{front-heads, node-heads, node-place}
use Rattle.lard_rules.proofs.NodeCases.{IsInItsEpoch}

-- ---- what is given

-- Of a connection between two steps.
pub record AllGiven (k : Setting) (all : ℕ → Whole) (x : Conn) : Type 0 where
  pub known : Given k all x
  pub front : FrontGiven k.files (all x.c) x
  pub node : NodeGiven k (all x.c) x
  pub client : ClientGiven x

-- Of what comes: the event is one of those, the packet was sent behind the first rounds, and one from node to node that changes nothing is
-- no content that is awaited.
pub record Comes (x : Conn) (v : Move) : Type 0 where
  pub inner : AreInner v.heads
  pub warm : IfCame (IsWarm x) (came_in v.heads)
  pub late : IfCame (IsLateOn x) (came_in v.heads)
  pub unwanted : (l : Letter) (a i : ℕ) → came_in v.heads ≡ Some l → l.from ≡ Node a → l.to ≡ Node i → v.part ≡ x.part → IsUnwanted x a i l.bytes

-- ---- what is owed

pub record Leads (k : Setting) (w : Whole) (x : Conn) (v : Move) : Type 0 where
  pub lasts : Lasts k w x v
  pub answers : IfCame (Answers k w x v) (came_in v.heads)
  -- with nothing to see of the event: the connection is admitted, or a job was done
  pub admits : v.heads ≡ [] → NamesAll v.place → units w k.nodes (grown x v) < units w k.nodes x
  pub works : v.heads ≡ [] → JobOwes k w x v

abbrev pub OwesAll : Setting → (ℕ → Whole) → Conn → Move → Type 0
OwesAll k all x v = MayRestOn (AllGiven k all) x → AllGiven k all (grown x v) → Comes x v → Leads k (all x.c) x v

-- what that takes beside that no unit comes back
record Further (k : Setting) (w : Whole) (x : Conn) (v : Move) : Type 0 where
  answers : IfCame (Answers k w x v) (came_in v.heads)
  alone : v.heads ≡ [] → (NamesAll v.place → units w k.nodes (grown x v) < units w k.nodes x) × JobOwes k w x v

-- what is seen is not nothing
begun : (h : Seen) (hs : List Seen) → h ∷ hs ≡ [] → ⊥
begun h hs e = cc

module _ (k : Setting) (all : ℕ → Whole) where
  -- P of a move, by all that is given
  abbrev Within : (Conn → Move → Type 0) → Conn → Move → Type 0
  Within P x v = MayRestOn (AllGiven k all) x → AllGiven k all (grown x v) → Comes x v → Lasts k (all x.c) x v → P x v

  abbrev Answered : Conn → Move → Type 0
  Answered = Within (λ x v. IfCame (Answers k (all x.c) x v) (came_in v.heads))

  abbrev Adds : Conn → Move → Type 0
  Adds = Within (λ x v. Further k (all x.c) x v)

  -- what a rule of prog owes, with what is given of all
  may : (H : Conn → Type 0) (x : Conn) → MayRestOn (AllGiven k all) x → (AllGiven k all x → H x) → MayRestOn H x
  may H x m f = record { number = m.number; sound = m.sound; given = f m.given }

  -- a move that sees its event
  sees : (x : Conn) (v : Move) → (v.heads ≡ [] → ⊥) → Answered x v → Adds x v
  sees x v some answered m after comes l = record { answers = answered m after comes l; alone = λ none. absurd (some none) }

  -- ---- clients

  client-adds : (x : Conn) (s : Station) (g : ClientGets) → x.part.station ≡ Some s → ClientComes k x s g → Adds x (client_goes x s g)
  client-adds x s ClientFires at comes = sees x (client_goes x s ClientFires) (begun _ _) (λ m after comes l. tt)
  client-adds x s (ClientReceives from bytes) at was = sees x (client_goes x s (ClientReceives from bytes)) (begun _ _)
      (λ m after comes l. (client-answers k (all x.c)).hears x s from bytes at was (may ClientGiven x m (λ g. g.client)) after.client comes.warm comes.late l)
  client-adds x s _ at none = λ m after comes l. absurd comes.inner.0

  clients : ClientRules k Adds
  clients = each-client k Adds (record { opens = λ x isn iss wnd mss rule none m after comes l. absurd comes.inner.0; does = client-adds })

  -- ---- the front end

  abbrev FrontOf : Conn → Conn → Type 0
  FrontOf x y = FrontGiven k.files (all x.c) y

  -- where there is nothing to see, it is admitted
  abbrev Admits : Conn → Move → Type 0
  Admits x v = v.heads ≡ [] → AllGiven k all x → Lasts k (all x.c) x v → units (all x.c) k.nodes (grown x v) < units (all x.c) k.nodes x

  admits-fronts : FrontRules k Admits
  admits-fronts = each-front k Admits (λ x env heads g is. by-front-seen x env heads (λ ss g. Admits x (front_does x ss (front_rule env x.part.front g)))
      (λ from bytes g was seen none. absurd (begun _ _ (sym seen ∙ sym (front-heads x heads _) ∙ none)))
      (λ rung none. absurd (begun _ _ (sym (front-heads x _ _) ∙ none)))
      (λ choice given turn none m l. admitted-falls k (all x.c) x env choice given m.front.unopened (λ st at. (m.known st at).fresh) turn.is l) g)

  fronts : FrontRules k Adds
  fronts = front-weaker k (λ x v. Owes k (all x.c) (FrontOf x) x v × Admits x v) Adds (λ x v h m after comes l. record {
    answers = h.0 (may (FrontOf x) x m (λ g. g.front)) after.front comes.warm comes.late l;
    alone = λ none. let falls = h.1 none m.given l in (λ names. falls, λ up. absurd (omega (arith, falls, up)));
  }) (front-both k (λ x v. Owes k (all x.c) (FrontOf x) x v) Admits (front-answers k all) admits-fronts)

  -- ---- nodes

  abbrev NodeOf : Conn → Conn → Type 0
  NodeOf x y = NodeGiven k (all x.c) y

  -- where there is nothing to see, a job was done
  abbrev Alone : Conn → Move → Type 0
  Alone x v = v.heads ≡ [] → NodeOf x x → NodeOf x (grown x v) → Lasts k (all x.c) x v → (NamesAll v.place → ⊥) × JobOwes k (all x.c) x v

  aside-alone : (x : Conn) (n : ℕ) (a : Aside) → Alone x (stands x (Node n) (aside_seen n a) (aside_said k n x.c a))
  aside-alone x n (each.Brings from epoch r path) none given after l = (λ names. names, brings-works k (all x.c) x n from epoch r path)
  aside-alone x n _ none given after l = absurd (begun _ _ none)

  module _ (x : Conn) (n epoch : ℕ) (env : NodeEnv) (heads : List Seen) where
    -- what is seen first of it
    sees-first : (h : Seen) → heads ≡ h ∷ [] → (g : NodeGets) → (node_goes x n env heads g).heads ≡ [] → ⊥
    sees-first h seen g none = begun h [] (sym seen ∙ sym (node-heads x n heads (node_rule env (x.part.nodes n) g)) ∙ none)

    at-node : (g : NodeGets) → NamesAll (node_goes x n env heads g).place → ⊥
    at-node g names = subst NamesAll (node-place x n heads (node_rule env (x.part.nodes n) g)) names

    node-alone : (g : NodeGets) → IsInItsEpoch env (x.part.nodes n) g → NodeComes x n epoch heads g → Alone x (node_goes x n env heads g)
    node-alone (Completed r path) at comes none given after l =
        (at-node (Completed r path), read-works k (all x.c) x n env (job_notes x.c n (Completed r path)) heads r given after l)
    node-alone Leaves at comes none given after l = (at-node Leaves, leaves-works k (all x.c) x n env [] heads given at.0 after l)
    node-alone (Forwarded read) at comes none given after l = absurd (sees-first _ comes.came.seen (Forwarded read) none)
    node-alone (Content from r) at comes none given after l = absurd (sees-first _ comes.came.seen (Content from r) none)
    node-alone g at comes none given after l = absurd (sees-first _ comes.seen g none)

  alone-nodes : NodeRules k Alone
  alone-nodes = each-node k Alone (record {
    does = λ x n epoch env heads g is at comes. node-alone x n epoch env heads g at comes;
    aside = λ x n a allowed. aside-alone x n a;
  })

  nodes : NodeRules k Adds
  nodes = node-weaker k (λ x v. Owes k (all x.c) (NodeOf x) x v × Alone x v) Adds (λ x v h m after comes l. record {
    answers = h.0 (may (NodeOf x) x m (λ g. g.node)) after.node comes.warm comes.late l;
    alone = λ none. let a = h.1 none m.given.node after.node l in (λ names. absurd (a.0 names), a.1);
  }) (node-both k (λ x v. Owes k (all x.c) (NodeOf x) x v) Alone (node-answers k all) alone-nodes)

  -- ---- a packet that nobody hears

  ignored : (x : Conn) (from to : Place) (bytes : List ℕ) → IsNobody x.part.station to → IsUnheard k.nodes x.part.station from to bytes → Answered x (stands x to (packet_seen from to bytes) nothing_said)
  ignored x from Front bytes nobody unheard m after comes l = front-ignores k (all x.c) x from bytes unheard
  ignored x from (Client c) bytes nobody unheard m after comes l = client-ignores k (all x.c) x from c bytes nobody
  ignored x from (Node n) bytes nobody unheard m after comes l =
      node-ignores k (all x.c) x m.given.node from n bytes unheard (λ a is. comes.unwanted (record { from = from; to = Node n; bytes = bytes }) a n refl is refl refl)

  -- ---- every rule

  adds : Rules k Adds
  adds = record {
    untouched = record {
      client = clients;
      front = fronts;
      node = nodes;
      ignores = λ x from to bytes h. sees x (stands x to (packet_seen from to bytes) nothing_said) (begun _ _) (ignored x from to bytes h.1 h.2);
    };
    injects = λ x s bytes at rule m after comes l. absurd comes.inner.0;
  }

  pub rules-lead : Rules k (OwesAll k all)
  rules-lead = weaker k (λ x v. Owed k all x v × Adds x v) (OwesAll k all) (λ x v h m after comes.
      let l = h.0 (may (Given k all) x m (λ g. g.known)) after.known comes.inner comes.warm in
      let f = h.1 m after comes l in
      record { lasts = l; answers = f.answers; admits = λ none. (f.alone none).0; works = λ none. (f.alone none).1 })
      (both k (Owed k all) Adds (rules-last k all) adds)
