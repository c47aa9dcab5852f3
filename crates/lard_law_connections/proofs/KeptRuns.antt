-- Each rule leaves what is kept as it must be, so it is in every run.
use Rattle.std.proofs.Common.{◌≡◌, ℕ, Bool, List, [], ◌∷◌, Some, refl, sym, ◌∙◌, subst}
use Rattle.lard_law_view.specs.Prelude.{ClientRules, Config, Conn, ControlBlock, FilesAt, Front, FrontEnv, FrontRules, IsFrontEnv, IsLaw, IsNodeEnv, MayRestOn, Move, Node, NodeEnv, NodeGets, NodeRules, OfEach, Offered, Rules, Seen, Setting, SpellsMessage, Stay, Tagged, Was, file_at, front_does, front_rule, grown, here, node_does, node_rule, setting, with_leaving}
use Rattle.lard_law_view.proofs.EachNode.{NodeComes, each-node}
use Rattle.lard_law_view.proofs.EachFront.{admission, each-front}
use Rattle.lard_law_view.proofs.EachClient.{each-client}
use Rattle.lard_law_connections.specs.Kept.{IsKeptByStage, FrontKeeps, NodeKeepsMessages}
use Rattle.lard_law_connections.specs.KeptLaws.{AnyNode, ConnectionsAreKept}
use Rattle.lard_law_connections.proofs.KeptFronts as front_keeps
use Rattle.lard_law_connections.proofs.KeptFronts.{front-move, rule-keep}
use Rattle.lard_law_connections.proofs.KeptNodes as node_keeps
use Rattle.lard_law_connections.proofs.KeptNodes.{here-some, rule-keeps, node-move}
use Rattle.lard_law_view.proofs.Carried.{carried-leaving}
use Rattle.lard_rules.specs.Front as front
use Rattle.lard_history.proofs.Each.{Each}
use Rattle.lard_message.specs.declared.message.Body.TheVariants as body
use Rattle.lard_rules.specs.Node as node
use Rattle.lard_law_connections.proofs.LeaversMoves.{SendersLeave, stays-ungiven}
use Rattle.lard_law_connections.proofs.LeaversSenders.{senders-leave}

-- a Tag that was sent, and has the number of the last Ask of its stay, names nodes of which N is so
abbrev pub TagsName : (ℕ → Type 0) → Conn → Type 0
TagsName N x = (n epoch number : ℕ) (nodes bytes : List ℕ) → SpellsMessage x.c epoch (body.Tag number nodes) bytes → Was x Front (Node n) bytes
    → (y : ControlBlock × Stay) → here epoch (x.part.nodes n) ≡ Some y → y.1.asks ≡ number → Each N nodes

-- and who gave the connection back leaves
abbrev TagsNameAway : (ℕ → Type 0) → (ℕ → Bool) → Conn → Type 0
TagsNameAway N l x = TagsName N x × SendersLeave l x

module _ (N : ℕ → Type 0) (k : Setting) (Given : Conn → Type 0) (names : (x : Conn) → Given x → TagsNameAway N k.leaving x) where
  abbrev Keeps : Conn → Move → Type 0
  Keeps x v = MayRestOn Given x → IsKeptByStage N k.files x → IsKeptByStage N k.files (grown x v)

  -- a client changes nothing that the others keep
  clients : ClientRules k Keeps
  clients = each-client k Keeps (record {
    opens = λ x isn iss wnd mss rule none may h. record { front = h.front; nodes = h.nodes };
    does = λ x s g there comes may h. record { front = h.front; nodes = h.nodes };
  })

  -- a rule of the front end
  by-front : (x : Conn) (env : FrontEnv) → IsFrontEnv k x.c env → (heads : List Seen) (d : front.FrontDeed) → (FrontKeeps env.serve.c x.part.front → front_keeps.DeedKeeps env.serve.c d)
      → IsKeptByStage N k.files x → IsKeptByStage N k.files (grown x (front_does x heads d))
  by-front x env is heads d rule h =
      front-move N k.files x heads d (subst (λ (c : ℕ). FrontKeeps c x.part.front → front_keeps.DeedKeeps c d) is.number rule h.front) h

  fronts : FrontRules k Keeps
  fronts = each-front k Keeps (λ x env heads g is comes may h. by-front x env is heads (front_rule env x.part.front g)
      (λ s. rule-keep env x.part.front s g (admission x env heads g comes)) h)

  -- a rule of a node
  by-node : (x : Conn) (n epoch : ℕ) (env : NodeEnv) → IsNodeEnv k x.c n epoch env → (heads : List Seen) (d : node.NodeDeed)
      → (NodeKeepsMessages N env.serve.files env.serve.c env.n (x.part.nodes n) → node_keeps.DeedKeeps N env.serve.files env.serve.c env.n d) → IsKeptByStage N k.files x → IsKeptByStage N k.files (grown x (node_does x n heads d))
  by-node x n epoch env is heads d rule h =
      let all : ◌≡◌ {A = FilesAt × ℕ × ℕ} (env.serve.files, env.serve.c, env.n) (k.files, x.c, n) = λ i. (is.files i, is.number i, is.node i) in
      node-move N k.files x n heads d
      (subst (λ (t : FilesAt × ℕ × ℕ). NodeKeepsMessages N t.0 t.1 t.2 (x.part.nodes n) → node_keeps.DeedKeeps N t.0 t.1 t.2 d) all rule (h.nodes n)) h

  may-come : (x : Conn) (n epoch : ℕ) (env : NodeEnv) (heads : List Seen) (g : NodeGets) → IsNodeEnv k x.c n epoch env → NodeComes x n epoch heads g → MayRestOn Given x
      → (q : NodeKeepsMessages N env.serve.files env.serve.c env.n (x.part.nodes n)) → node_keeps.MayCome N env (x.part.nodes n) q g
  may-come x n epoch env heads (Offered parts) is comes may q = λ remains. stays-ungiven k.leaving x (names x may.given).1 n (sym is.leaves ∙ remains)
  may-come x n epoch env heads (Tagged number tags) is comes may q = λ b s at same. (names x may.given).0 n epoch number tags comes.bytes comes.spells comes.was (b, s)
      (subst (λ (d : ℕ). here d (x.part.nodes n) ≡ Some (b, s)) is.epoch_is (here-some env.epoch (x.part.nodes n) b s at)) same
  may-come x n epoch env heads _ is comes may q = tt

  nodes : NodeRules k Keeps
  nodes = each-node k Keeps (record {
    does = λ x n epoch env heads g is at comes may h.
        let y = by-node x n epoch env is heads (node_rule env (x.part.nodes n) g) (λ q. rule-keeps N env (x.part.nodes n) q g at.0 (may-come x n epoch env heads g is comes may q)) h in
        record { front = y.front; nodes = y.nodes };
    aside = λ x n a rest may h. record { front = h.front; nodes = h.nodes };
  })

  rules : Rules k Keeps
  rules = record {
    untouched = record { client = clients; front = fronts; node = nodes; ignores = λ x from to bytes was may h. record { front = h.front; nodes = h.nodes } };
    injects = λ x s bytes there rule may h. record { front = h.front; nodes = h.nodes };
  }

  pub kept-law : IsLaw k Given (IsKeptByStage N k.files)
  kept-law = record { begins = λ c. record { front = refl; nodes = λ n. (refl, refl) }; moves = rules }

-- Where its Tags name such nodes, each Fetch of a connection goes to one.
pub each-kept : (N : ℕ → Type 0) (config : Config) (files : List (List ℕ × List ℕ)) → OfEach config files (TagsName N) → OfEach config files (IsKeptByStage N (file_at files))
each-kept N config files given = carried-leaving config files (TagsNameAway N) (λ l. IsKeptByStage N (file_at files)) (λ m n e rule is x h. h)
    (λ l. kept-law N (with_leaving (setting config files) l) (TagsNameAway N l) (λ x g. g)) (λ m r q. (given m r q, senders-leave config files m r q))

any : (nodes : List ℕ) → Each AnyNode nodes
any [] = tt
any (n ∷ ns) = (tt, any ns)

-- In every state that events lead to.
pub connections-are-kept : ConnectionsAreKept
connections-are-kept config files = each-kept AnyNode config files (λ m r q n epoch number nodes bytes spells was y at same. any nodes)
