-- What a node's step leaves at its disk: the jobs that were there, and those that its turn queues.
use Rattle.std.proofs.Common.{◌≡◌, ℕ, true, false, List, [], ◌++◌, Option, Some, None, Result, Ok, Err, refl, sym, ap, ◌∙◌, append-nil}
use Rattle.std.proofs.lemmas.Bool.{cond_both}
use Rattle.std.specs.List.{list_any}
use Rattle.lard_law_view.specs.Prelude.{Body, Client, ControlBlock, EndpointParts, Front, Job, Message, MsgFault, Node, NodeEnv, NodePart, NodeSetting, NodeState, NodeTurn, Out, Place, Stay, ToCluster, aside, back_endpoint, both_of, decoded, fetched, fetched_file, is_for, node_deed, node_env, node_gets, node_hears, node_offered, node_part, node_tagged, node_timer, nothing_done}
use Rattle.lard_law_settles.proofs.CourseQueueing.{QueuesNone, StartsNone, rule-none}
use Rattle.lard_message.specs.declared.message.Body.TheVariants as body
use Rattle.lard_rules.specs.Node as node
use Rattle.lard_rules.proofs.NodeCases.{IsOfItsEpoch}

-- ---- a turn

-- the jobs that a rule queues
abbrev pub jobs_of : node.NodeDeed → List Job
jobs_of node.Drops = []
jobs_of (node.Says messages) = []
jobs_of (node.Does given) = given.1.jobs

none-of : (d : node.NodeDeed) → QueuesNone d → jobs_of d ≡ []
none-of node.Drops h = refl
none-of (node.Says messages) h = refl
none-of (node.Does given) h = h

pub timer-queues : (env : NodeEnv) (p : NodePart) → jobs_of (node_timer env p) ≡ []
timer-queues env p = go (both_of (back_endpoint p.row) p.stay) where
  go : (o : Option (ControlBlock × Stay)) → jobs_of (node.node_fired_by env p o) ≡ []
  go None = refl
  go (Some x) = refl

module _ (k : NodeSetting) (s : NodeState) where
  pub deed-adds : (c : ℕ) (d : node.NodeDeed) → (node_deed k s c d).0.disk ≡ s.disk ++ jobs_of d
  deed-adds c node.Drops = sym (append-nil s.disk)
  deed-adds c (node.Says messages) = refl
  deed-adds c (node.Does given) = refl

  -- ---- a message

  -- why it queues jobs: an Offer or a Fetch came, or a Tag that counts
  pub data Why (from : Place) (r : Result Message MsgFault) (t : NodeState) (js : List Job) : Type 0 where
    Nothing : js ≡ [] → Why from r t js
    Offered : (c e : ℕ) (parts : EndpointParts) → from ≡ Front → r ≡ Ok (record { c = c; epoch = record { 0 = e }; body = body.Offer parts }) → Why from r t js
    Asked : (a c e n : ℕ) (path : List ℕ) → from ≡ Node a → r ≡ Ok (record { c = c; epoch = record { 0 = e }; body = body.Fetch n path }) → Why from r t js
    Tagged : (c e number : ℕ) (nodes : List ℕ) (given : NodePart × NodeTurn) → from ≡ Front → r ≡ Ok (record { c = c; epoch = record { 0 = e }; body = body.Tag number nodes })
        → node_tagged (node_env k s c e) (node_part s c) number nodes ≡ node.Does given → t ≡ (node_deed k s c (node.Does given)).0 → js ≡ given.1.jobs → Why from r t js

  pub record Leaves (from : Place) (r : Result Message MsgFault) (t : NodeState) : Type 0 where
    pub jobs : List Job
    pub disk : t.disk ≡ s.disk ++ jobs
    pub why : Why from r t jobs

  rests : (from : Place) (r : Result Message MsgFault) → Leaves from r s
  rests from r = record { jobs = []; disk = sym (append-nil s.disk); why = Nothing refl }

  tags : (c e number : ℕ) (nodes : List ℕ) (d : node.NodeDeed) → node_tagged (node_env k s c e) (node_part s c) number nodes ≡ d → Leaves Front (Ok (record { c = c; epoch = record { 0 = e }; body = body.Tag number nodes })) (node_deed k s c d).0
  tags c e number nodes node.Drops is = rests Front _
  tags c e number nodes (node.Says messages) is = record { jobs = []; disk = refl; why = Nothing refl }
  tags c e number nodes (node.Does given) is = record { jobs = given.1.jobs; disk = refl; why = Tagged c e number nodes given refl refl is refl refl }

  quiet : (from : Place) (c e : ℕ) (b : Body) (g : node.NodeGets) → IsOfItsEpoch (node_env k s c e) (node_part s c) g → StartsNone g
      → Leaves from (Ok (record { c = c; epoch = record { 0 = e }; body = b })) (node_deed k s c (node.node_rule (node_env k s c e) (node_part s c) g)).0
  quiet from c e b g same starts =
      let d = node.node_rule (node_env k s c e) (node_part s c) g in
      let none = none-of d (rule-none (node_env k s c e) (node_part s c) g same starts) in
      record { jobs = []; disk = deed-adds c d ∙ ap (λ (js : List Job). s.disk ++ js) none; why = Nothing refl }

  asks : (a c e n : ℕ) (path : List ℕ) (o : Option (List ℕ)) → Leaves (Node a) (Ok (record { c = c; epoch = record { 0 = e }; body = body.Fetch n path })) (fetched k s a c e n path o).0
  asks a c e n path None = rests (Node a) _
  asks a c e n path (Some file) = cond_both (list_any (is_for c e n) s.disk) (s, nothing_done) (aside s (fetched_file k s a c e n path))
      (λ (x : NodeState × Out). Leaves (Node a) (Ok (record { c = c; epoch = record { 0 = e }; body = body.Fetch n path })) x.0) (λ t. rests (Node a) _)
      (λ t. record { jobs = (fetched_file k s a c e n path).jobs; disk = refl; why = Asked a c e n path refl refl })

  hears : (from : Place) (c e : ℕ) (b : Body) → Leaves from (Ok (record { c = c; epoch = record { 0 = e }; body = b })) (node_hears k s from c e b).0
  hears Front c e (body.Offer parts) =
      let d = node_offered (node_env k s c e) (node_part s c) parts in
      record { jobs = jobs_of d; disk = deed-adds c d; why = Offered c e parts refl refl }
  hears Front c e (body.Forward bytes) = quiet Front c e (body.Forward bytes) (node.Forwarded (decoded bytes c ToCluster)) tt tt
  hears Front c e (body.Tag number nodes) =
      tags c e number nodes (node_tagged (node_env k s c e) (node_part s c) number nodes) refl
  hears Front c e body.EndedAck = quiet Front c e body.EndedAck (node.Acknowledged false) tt tt
  hears Front c e body.Given = quiet Front c e body.Given (node.Acknowledged true) tt tt
  hears Front c e _ = rests Front _
  hears (Node a) c e (body.Fetch n path) = asks a c e n path (k.files path)
  hears (Node a) c e (body.Content n bytes) = quiet (Node a) c e (body.Content n bytes) (node.Content a n) tt tt
  hears (Node a) c e _ = rests (Node a) _
  hears (Client d) c e b = rests (Client d) _

  pub gets-leaves : (from : Place) (r : Result Message MsgFault) → Leaves from r (node_gets k s from r).0
  gets-leaves from (Err fault) = rests from (Err fault)
  gets-leaves from (Ok m) = hears from m.c m.epoch.0 m.body
