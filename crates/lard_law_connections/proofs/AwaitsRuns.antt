-- Each rule leaves what is awaited asked for, so it is in every run.
use Rattle.std.proofs.Common.{ℕ, List, subst}
use Rattle.lard_law_view.specs.Prelude.{ClientRules, Conn, FilesAt, FrontRules, IsLaw, IsNodeEnv, MayRestOn, Move, NodeDeed, NodeEnv, NodeRules, Rules, Seen, Setting, file_at, front_does, front_rule, grown, node_does, node_rule, setting, with_leaving}
use Rattle.lard_law_view.proofs.EachFront.{each-front}
use Rattle.lard_law_view.proofs.EachClient.{each-client}
use Rattle.lard_law_connections.specs.Awaits.{AwaitsWhatItAsked, NodeComes}
use Rattle.lard_law_connections.specs.AwaitsLaws.{ConnectionsAwait}
use Rattle.lard_law_connections.proofs.AwaitsNodes.{DeedComes, node-move, rule-comes}
use Rattle.lard_law_view.proofs.Carried.{carried}
use Rattle.lard_law_view.proofs.EachNode.{each-node}
use Rattle.lard_rules.specs.Front as front

-- no other law is needed
abbrev Anything : Conn → Type 0
Anything x = Unit {0}

-- the front end changes nothing that a node keeps
front-move : (files : FilesAt) (x : Conn) (heads : List Seen) (d : front.FrontDeed) → AwaitsWhatItAsked files x → AwaitsWhatItAsked files (grown x (front_does x heads d))
front-move files x heads front.Drops h = h
front-move files x heads (front.Says turn) h = h
front-move files x heads (front.Does did) h = h

module _ (k : Setting) where
  abbrev Awaits : Conn → Move → Type 0
  Awaits x v = MayRestOn Anything x → AwaitsWhatItAsked k.files x → AwaitsWhatItAsked k.files (grown x v)

  -- a client changes nothing that a node keeps
  clients : ClientRules k Awaits
  clients = each-client k Awaits (record { opens = λ x isn iss wnd mss rule none may h. h; does = λ x s g there comes may h. h })

  fronts : FrontRules k Awaits
  fronts = each-front k Awaits (λ x env heads g is comes may h. front-move k.files x heads (front_rule env x.part.front g) h)

  -- a rule of a node, whose files are the run's
  by-node : (x : Conn) (n epoch : ℕ) (env : NodeEnv) → IsNodeEnv k x.c n epoch env → (heads : List Seen) (d : NodeDeed)
      → (NodeComes env.serve.files (x.part.nodes n) → DeedComes env d) → AwaitsWhatItAsked k.files x
      → AwaitsWhatItAsked k.files (grown x (node_does x n heads d))
  by-node x n epoch env is heads d rule h =
      subst (λ (files : FilesAt). AwaitsWhatItAsked files x → AwaitsWhatItAsked files (grown x (node_does x n heads d))) is.files (λ g. node-move env x n heads d (rule (g n)) g) h

  nodes : NodeRules k Awaits
  nodes = each-node k Awaits (record {
    does = λ x n epoch env heads g is at comes may h. by-node x n epoch env is heads (node_rule env (x.part.nodes n) g)
        (λ awaits. rule-comes env (x.part.nodes n) awaits g at.0) h;
    aside = λ x n a may rest h. h;
  })

  rules : Rules k Awaits
  rules = record {
    untouched = record { client = clients; front = fronts; node = nodes; ignores = λ x from to bytes was may h. h };
    injects = λ x s bytes there rule may h. h;
  }

  awaits-law : IsLaw k Anything (AwaitsWhatItAsked k.files)
  awaits-law = record { begins = λ c n. tt; moves = rules }

-- In every state that events lead to.
pub connections-await : ConnectionsAwait
connections-await config files = carried config files Anything (AwaitsWhatItAsked (file_at files)) (λ l. awaits-law (with_leaving (setting config files) l)) (λ m r q. tt)
