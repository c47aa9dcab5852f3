-- Each rule leaves nothing to be said, so it is in every run.
use Rattle.std.proofs.Common.{◌≡◌, ◌≤◌, ◌^◌, ℕ, List, Option, Some, Ok, None, IfSome, sym, subst}
use Rattle.lard_law_view.specs.Prelude.{ClientBlock, ClientRules, Conn, ControlBlock, EndpointParts, Forwarded, FrontGets, FrontHears, FrontRules, IsFrontEnv, IsLaw, IsNodeEnv, IsValidParts, MayRestOn, Move, NodeEnv, NodeGets, NodeRules, Offered, ReturnedBy, Rules, Said, Seen, Setting, SpellsMessage, Station, front_does, front_rule, grown, last_words, node_does, node_rule, setting, with_leaving, with_station}
use Rattle.lard_rules.proofs.MessageTold.{IsTold, message-told}
use Rattle.lard_law_connections.proofs.ReturnedParts.{back-valid}
use Rattle.lard_law_connections.specs.SilenceLaws.{ConnectionsHaveSpoken}
use Rattle.lard_law_connections.specs.SilencePlaces.{FrontHas, NodeHas}
use Rattle.lard_law_connections.specs.Silence.{AllHaveSpoken, ClientHasSpoken, HasSpoken, PartHasSpoken, StationHasSpoken}
use Rattle.lard_law_connections.proofs.SilenceClients as clients
use Rattle.lard_law_connections.proofs.SilenceEndpoints.{AnyReply, Anything, IsTurning, adopted-turns, endpoint-law, listening-turns}
use Rattle.lard_law_connections.proofs.SilenceFronts as fronts
use Rattle.lard_law_connections.proofs.SilenceNodes as nodes
use Rattle.lard_law_connections.proofs.SilencePlaces.{known-front, node-weaker}
use Rattle.lard_law_connections.proofs.SilenceTurns.{IsKept}
use Rattle.lard_law_view.proofs.Carried.{carried}
use Rattle.lard_law_view.proofs.EachNode.{NodeComes, each-node}
use Rattle.lard_law_view.proofs.EachFront.{FrontComes, admission, each-front}
use Rattle.lard_law_view.proofs.EachClient.{each-client}
use Rattle.lard_law_view.proofs.Parts.{put-each}
use Rattle.lard_rules.specs.Front as front
use Rattle.lard_message.specs.declared.message.Body.TheVariants as body
use Rattle.lard_rules.specs.Node as node

-- no other law is needed
abbrev Nothing : Conn → Type 0
Nothing x = Unit {0}

-- the parts of an Offer are in their ranges
pub offer-valid : (c epoch : ℕ) (parts : EndpointParts) (bytes : List ℕ) → SpellsMessage c epoch (body.Offer parts) bytes → IsValidParts parts
offer-valid c epoch parts bytes spells = subst IsTold spells (message-told bytes)

-- last words are of any kind
any-words : (o : Option Said) → IfSome o (λ (t : Said). (d : ControlBlock) → AnyReply d t)
any-words None = tt
any-words (Some s) = λ d. tt

module _ (k : Setting) (small : k.stream ≤ 2 ^ 30) where
  abbrev Speaks : Conn → Move → Type 0
  Speaks x v = MayRestOn Nothing x → AllHaveSpoken x → AllHaveSpoken (grown x v)

  -- ---- clients

  by-client : (x : Conn) (s : Station) (y : ClientBlock) → x.part.station ≡ Some s → (ClientHasSpoken s.client → ClientHasSpoken y) → MayRestOn Nothing x → PartHasSpoken x.part → PartHasSpoken (with_station x.part (record { client = y; iss = s.iss }))
  by-client x s y there rule may h = record { client = rule (subst StationHasSpoken there h.client); front = h.front; nodes = h.nodes }

  client-rules : ClientRules k Speaks
  client-rules = each-client k Speaks (record {
    opens = λ x isn iss wnd mss rule none may h. record { client = clients.opens-spoke x.c isn wnd mss rule.4; front = h.front; nodes = h.nodes };
    does = λ x s g there comes. by-client x s _ there (λ h. clients.rule-spoke k small x s h g comes);
  })

  -- ---- the front end

  front-move : (x : Conn) (heads : List Seen) (c : ℕ) (d : front.FrontDeed) → fronts.DeedHas HasSpoken AnyReply c d → AllHaveSpoken x → AllHaveSpoken (grown x (front_does x heads d))
  front-move x heads c front.Drops g h = h
  front-move x heads c (front.Says turn) g h = h
  front-move x heads c (front.Does did) g h = record { client = h.client; front = known-front _ HasSpoken (λ b r. r.0) did.part.row g.0; nodes = h.nodes }

  front-kept : (x : Conn) (env : front.FrontEnv) → IsFrontEnv k x.c env → IsKept env.serve IsTurning HasSpoken Anything AnyReply
  front-kept x env is = endpoint-law env.serve (subst (λ (n : ℕ). n ≤ 2 ^ 30) (sym is.stream) small)

  front-given : (x : Conn) (env : front.FrontEnv) (is : IsFrontEnv k x.c env) (h : FrontHas HasSpoken x.part.front.row) (heads : List Seen) (g : FrontGets)
      → FrontComes x env heads g → fronts.Given env IsTurning HasSpoken Anything AnyReply (front-kept x env is) x.part.front h g
  front-given x env is h heads (FrontHears bytes (Ok s)) comes = (
    tt,
    (λ none plain. listening-turns s env.iss),
    (λ row last found at. any-words (last_words last.reason last s)),
  )
  front-given x env is h heads (ReturnedBy n epoch given) comes = λ row parts back. adopted-turns parts (back-valid x n epoch given heads comes parts back.parts_are)
  front-given x env is h heads _ comes = tt

  front-rules : FrontRules k Speaks
  front-rules = each-front k Speaks (λ x env heads g is comes may h. front-move x heads env.serve.c (front_rule env x.part.front g)
      (fronts.rule-has env IsTurning HasSpoken Anything AnyReply (front-kept x env is) x.part.front h.front g
      (admission x env heads g comes) (front-given x env is h.front heads g comes)) h)

  -- ---- the nodes

  node-move : (x : Conn) (n : ℕ) (heads : List Seen) (c : ℕ) (d : node.NodeDeed) → nodes.DeedHas HasSpoken HasSpoken AnyReply c d → AllHaveSpoken x → AllHaveSpoken (grown x (node_does x n heads d))
  node-move x n heads c node.Drops g h = h
  node-move x n heads c (node.Says ms) g h = h
  node-move x n heads c (node.Does given) g h = record { client = h.client; front = h.front; nodes = put-each x.part.nodes n given.0 (λ m p. NodeHas HasSpoken HasSpoken p) (node-weaker _ HasSpoken HasSpoken (λ b r. r.0) given.0 g.0) (λ m other. h.nodes m) }

  node-kept : (x : Conn) (n epoch : ℕ) (env : NodeEnv) → IsNodeEnv k x.c n epoch env → IsKept env.serve IsTurning HasSpoken Anything AnyReply
  node-kept x n epoch env is = endpoint-law env.serve (subst (λ (n : ℕ). n ≤ 2 ^ 30) (sym is.stream) small)

  node-given : (x : Conn) (n epoch : ℕ) (env : NodeEnv) (is : IsNodeEnv k x.c n epoch env) (heads : List Seen) → AllHaveSpoken x → (g : NodeGets)
      → NodeComes x n epoch heads g
      → nodes.Given env IsTurning HasSpoken HasSpoken Anything AnyReply (node-kept x n epoch env is) (x.part.nodes n) g
  node-given x n epoch env is heads h (Offered parts) c = (h.nodes n, λ new. adopted-turns parts (offer-valid x.c epoch parts c.bytes c.spells))
  node-given x n epoch env is heads h (Forwarded given) c = (h.nodes n, λ s e. tt)
  node-given x n epoch env is heads h _ c = h.nodes n

  node-rules : NodeRules k Speaks
  node-rules = each-node k Speaks (record {
    does = λ x n epoch env heads g is at comes may h. node-move x n heads env.serve.c (node_rule env (x.part.nodes n) g)
        (nodes.rule-has env IsTurning HasSpoken HasSpoken Anything AnyReply (node-kept x n epoch env is) (x.part.nodes n) g at.0
        (node-given x n epoch env is heads h g comes)) h;
    aside = λ x n a may rest h. h;
  })

  rules : Rules k Speaks
  rules = record {
    untouched = record { client = client-rules; front = front-rules; node = node-rules; ignores = λ x from to bytes was may h. h };
    injects = λ x s bytes there rule. by-client x s _ there (λ h. h);
  }

  spoken-law : IsLaw k Nothing AllHaveSpoken
  spoken-law = record { begins = λ c. record { client = tt; front = tt; nodes = λ n. tt }; moves = rules }

-- In every state that events lead to.
pub connections-have-spoken : ConnectionsHaveSpoken
connections-have-spoken config files small = carried config files Nothing AllHaveSpoken (λ l. spoken-law (with_leaving (setting config files) l) small) (λ m r q. tt)
