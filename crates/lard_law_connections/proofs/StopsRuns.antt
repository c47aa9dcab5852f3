-- Each rule leaves reading stopped for a reason, so it is in every run.
use Rattle.std.proofs.Common.{ℕ, Bool, List, subst, sym}
use Rattle.lard_law_view.specs.Prelude.{ClientRules, Config, Conn, FilesAt, FrontRules, IsFrontEnv, IsLaw, IsReached, Machine, MayRestOn, Move, NodeRules, Rules, Seen, Setting, conn, file_at, front_does, front_rule, grown, node_rule, setting, which_leave, with_leaving}
use Rattle.lard_law_view.proofs.EachFront.{admission, each-front}
use Rattle.lard_law_view.proofs.EachClient.{each-client}
use Rattle.lard_law_connections.specs.StopsLaws.{ConnectionsStop}
use Rattle.lard_law_connections.specs.Stops.{FrontStops, NodeRests, ReadingStopsBy}
use Rattle.lard_law_connections.proofs.LeaversStays.{none-leaves}
use Rattle.lard_law_connections.proofs.LeaversSteps.{leaving-stays}
use Rattle.lard_law_connections.proofs.StopsFronts as fronts
use Rattle.lard_law_connections.proofs.StopsNodes as nodes
use Rattle.lard_law_view.proofs.Carried.{carried-leaving, reached-viewed}
use Rattle.lard_law_view.proofs.EachNode.{each-node}
use Rattle.lard_rules.specs.Front as front

-- no other law is needed
abbrev Anything : Conn → Type 0
Anything x = Unit {0}

module _ (k : Setting) where
  abbrev Stops : Conn → Move → Type 0
  Stops x v = MayRestOn Anything x → ReadingStopsBy k.leaving k.files x → ReadingStopsBy k.leaving k.files (grown x v)

  clients : ClientRules k Stops
  clients = each-client k Stops (record { opens = λ x isn iss wnd mss rule none may h. h; does = λ x s g there comes may h. h })

  -- a rule of the front end, whose files are the run's
  by-front : (x : Conn) (env : front.FrontEnv) → IsFrontEnv k x.c env → (heads : List Seen) (d : front.FrontDeed) → (FrontStops env.serve.files x.part.front.row → fronts.DeedStops env.serve.files d)
      → ReadingStopsBy k.leaving k.files x → ReadingStopsBy k.leaving k.files (grown x (front_does x heads d))
  by-front x env is heads d rule h =
      subst (λ (files : FilesAt). ReadingStopsBy k.leaving files x → ReadingStopsBy k.leaving files (grown x (front_does x heads d))) is.files
      (λ g. fronts.front-move k.leaving env.serve.files x heads d (rule g.0) g) h

  front-rules : FrontRules k Stops
  front-rules = each-front k Stops (λ x env heads g is comes may h. by-front x env is heads (front_rule env x.part.front g)
      (λ s. fronts.rule-stops env x.part.front s g (admission x env heads g comes)) h)

  node-rules : NodeRules k Stops
  node-rules = each-node k Stops (record {
    does = λ x n epoch env heads g is at comes may h. nodes.node-move k.leaving n env is.leaves x heads (node_rule env (x.part.nodes n) g) (λ rests. nodes.rule-stops env (x.part.nodes n) rests g at.0) k.files h;
    aside = λ x n a may rest h. h;
  })

  rules : Rules k Stops
  rules = record {
    untouched = record { client = clients; front = front-rules; node = node-rules; ignores = λ x from to bytes was may h. h };
    injects = λ x s bytes there rule may h. h;
  }

  stops-law : IsLaw k Anything (ReadingStopsBy k.leaving k.files)
  stops-law = record { begins = λ c. (tt, λ n. tt); moves = rules }

-- In every state that events lead to, where it says which nodes leave.
pub each-stops : (config : Config) (files : List (List ℕ × List ℕ)) (m : Machine) → IsReached config files m → (q : ℕ) → ReadingStopsBy (which_leave m) (file_at files) (conn m q)
each-stops config files = carried-leaving config files (λ l. Anything) (λ l. ReadingStopsBy l (file_at files))
    (λ m n e rule is x h. subst (λ (l : ℕ → Bool). ReadingStopsBy l (file_at files) x) (sym (leaving-stays m n e is)) h)
    (λ l. stops-law (with_leaving (setting config files) l)) (λ m r q. tt)

-- INTERIM: no node leaves yet
pub connections-stop : ConnectionsStop
connections-stop config files m r q =
    let h = each-stops config files m r q in
    (h.0, λ n. subst (λ (l : Bool). NodeRests l ((conn m q).part.nodes n)) (none-leaves m (reached-viewed config files m r) n) (h.1 n))
