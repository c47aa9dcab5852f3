-- Which contents each rule sends of one connection: those of a Fetch that came, and of a job that was read for another node.
use Rattle.std.proofs.Common.{◌≡◌, ℕ, List, [], ◌∷◌, refl, subst, inl, inr}
use Rattle.std.specs.Prelude.{◌⊎◌, Some}
use Rattle.lard_law_view.specs.Prelude.{Client, ClientRules, Config, Conn, Front, FrontRules, IsLaw, MayRestOn, Move, Node, NodeRules, OfEach, Place, Rules, Seen, Setting, SpellsMessage, content_bytes, front_does, front_rule, grown, node_does, node_rule, nothing_said, packet_seen, setting, stands, with_leaving}
use Rattle.lard_law_view.proofs.EachFront.{each-front}
use Rattle.lard_law_view.proofs.EachClient.{each-client}
use Rattle.lard_law_view.proofs.Carried.{carried}
use Rattle.lard_law_view.proofs.Guarded.{weaker}
use Rattle.lard_law_view.proofs.Parts.{put-each}
use Rattle.lard_laws.proofs.WaysQuiet.{DeedNone, PartNone, SentNone, rule-none}
use Rattle.lard_rules.specs.Front as front
use Rattle.lard_journal.specs.declared.rec.Rec.TheVariants as rec
use Rattle.lard_message.specs.declared.message.Body.TheVariants as body
use Rattle.lard_law_view.proofs.EachNode.{Aside, MayAside, aside_said, aside_seen, each-node, node_goes}
use Rattle.lard_law_view.proofs.EachNode as aside
use Rattle.lard_rules.specs.Node as node
use Rattle.lard_rules.specs.Node.{message}
use Rattle.lard_law_view.proofs.EndpointSends.{AllTo}

-- no node holds a content of the connection
abbrev pub HoldsNone : Conn → Type 0
HoldsNone x = (n : ℕ) → PartNone (x.part.nodes n)

-- ---- what a move at a node says

-- A Fetch came there for a file that there is.
pub record Fetches (k : Setting) (c n : ℕ) (heads : List Seen) : Type 0 where
  pub from : ℕ
  pub epoch : ℕ
  pub r : ℕ
  pub path : List ℕ
  pub file : List ℕ
  pub bytes : List ℕ
  pub known : k.files path ≡ Some file
  pub spells : SpellsMessage c epoch (body.Fetch r path) bytes
  pub came : heads ≡ packet_seen (Node from) (Node n) bytes

-- A job was read for another node, which the content goes to.
pub record Brings (k : Setting) (c n : ℕ) (v : Move) : Type 0 where
  pub from : ℕ
  pub epoch : ℕ
  pub r : ℕ
  pub path : List ℕ
  pub notes : v.said.notes ≡ rec.Read n from c r path ∷ []
  pub messages : v.said.messages ≡ (Node from, message c epoch (body.Content r (content_bytes (k.files path)))) ∷ []

-- its segments go to the client
pub record SaysOfContents (k : Setting) (x : Conn) (n : ℕ) (v : Move) : Type 0 where
  pub segments : AllTo (Client x.c) v.said.segments
  pub messages : SentNone v.said.messages ⊎ Fetches k x.c n v.heads ⊎ Brings k x.c n v

abbrev pub SaysAt : Setting → Conn → Move → Place → Type 0
SaysAt k x v (Node n) = SaysOfContents k x n v
SaysAt k x v Front = Unit {0}
SaysAt k x v (Client d) = Unit {0}

abbrev pub Owes : Setting → Conn → Move → Type 0
Owes k x v = HoldsNone x → HoldsNone (grown x v) × SaysAt k x v v.place

-- ---- a node's own connection

record IsQuiet (x : Conn) (v : Move) : Type 0 where
  holds : HoldsNone (grown x v)
  segments : AllTo (Client x.c) v.said.segments
  messages : SentNone v.said.messages

quiet-at : (k : Setting) (x : Conn) (v : Move) (place : Place) → IsQuiet x v → SaysAt k x v place
quiet-at k x v (Node n) h = record { segments = h.segments; messages = inl h.messages }
quiet-at k x v Front h = tt
quiet-at k x v (Client d) h = tt

deed-quiet : (x : Conn) (n : ℕ) (heads : List Seen) (d : node.NodeDeed) → HoldsNone x → DeedNone x.c d → IsQuiet x (node_does x n heads d)
deed-quiet x n heads node.Drops h q = record { holds = h; segments = tt; messages = tt }
deed-quiet x n heads (node.Says ms) h q = record { holds = h; segments = tt; messages = q }
deed-quiet x n heads (node.Does given) h q = record { holds = put-each x.part.nodes n given.0 (λ m p. PartNone p) q.part (λ m other. h m); segments = q.segments; messages = q.messages }

-- ---- the rules

front-owes : (k : Setting) (x : Conn) (heads : List Seen) (d : front.FrontDeed) → Owes k x (front_does x heads d)
front-owes k x heads front.Drops h = (h, tt)
front-owes k x heads (front.Says turn) h = (h, tt)
front-owes k x heads (front.Does did) h = (h, tt)

module _ (k : Setting) where
  clients : ClientRules k (Owes k)
  clients = each-client k (Owes k) (record { opens = λ x isn iss wnd mss rule none h. (h, tt); does = λ x s g there comes h. (h, tt) })

  fronts : FrontRules k (Owes k)
  fronts = each-front k (Owes k) (λ x env heads g is comes. front-owes k x heads (front_rule env x.part.front g))

  -- what a node does for another one
  asides : (x : Conn) (n : ℕ) (a : Aside) → MayAside k x n a → Owes k x (stands x (Node n) (aside_seen n a) (aside_said k n x.c a))
  asides x n (aside.Answers from epoch r path file bytes) may h =
      (h, record { segments = tt; messages = inr (inl (record { from = from; epoch = epoch; r = r; path = path; file = file; bytes = bytes; known = may.there; spells = may.spells; came = refl })) })
  asides x n (aside.Queues from epoch r path file bytes) may h = (h, record { segments = tt; messages = inl tt })
  asides x n (aside.Brings from epoch r path) may h = (h, record { segments = tt; messages = inr (inr (record { from = from; epoch = epoch; r = r; path = path; notes = refl; messages = refl })) })

  nodes : NodeRules k (Owes k)
  nodes = each-node k (Owes k) (record {
    does = λ x n epoch env heads g is at comes h.
        let d : node.NodeDeed = node_rule env (x.part.nodes n) g in
        let quiet : IsQuiet x (node_does x n heads d) = deed-quiet x n heads d h (subst (λ (c : ℕ). DeedNone c d) is.number (rule-none env (x.part.nodes n) (h n) g at.0)) in
        let v : Move = node_goes x n env heads g in
        (quiet.holds, quiet-at k x v v.place (record { holds = quiet.holds; segments = quiet.segments; messages = quiet.messages }));
    aside = asides;
  })

  ignored : (x : Conn) (from to : Place) (bytes : List ℕ) → Owes k x (stands x to (packet_seen from to bytes) nothing_said)
  ignored x from Front bytes h = (h, tt)
  ignored x from (Node n) bytes h = (h, record { segments = tt; messages = inl tt })
  ignored x from (Client d) bytes h = (h, tt)

  pub rules : Rules k (Owes k)
  rules = record {
    untouched = record { client = clients; front = fronts; node = nodes; ignores = λ x from to bytes was. ignored x from to bytes };
    injects = λ x s bytes there rule h. (h, tt);
  }

  -- ---- in every state

  abbrev Anything : Conn → Type 0
  Anything x = Unit {0}

  holds-law : IsLaw k Anything HoldsNone
  holds-law = record { begins = λ c n. (tt, tt); moves = weaker k (Owes k) (λ x v. MayRestOn Anything x → HoldsNone x → HoldsNone (grown x v)) (λ x v h may holds. (h holds).0) rules }

pub each-holds : (config : Config) (files : List (List ℕ × List ℕ)) → OfEach config files HoldsNone
each-holds config files = carried config files (Anything (setting config files)) HoldsNone (λ l. holds-law (with_leaving (setting config files) l)) (λ m r q. tt)
