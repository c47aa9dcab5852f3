-- Which node acts in a step: one that a packet comes to, whose timer fires, or whose first job is done; or all stay as they are.
use Rattle.std.proofs.Common.{◌≡◌, ℕ, List, [], ◌∷◌, Some, None, Ok, inl, inr, sym, ap, ◌∙◌, subst}
use Rattle.std.specs.Prelude.{◌⊎◌}
use Rattle.lard_base.specs.declared.event.Event.TheVariants as event
use Rattle.lard_law_view.specs.Prelude.{BackIn, Job, Machine, Node, NodeState, Packet, Place, job_at, machine_step, node_at, node_gave, node_setting, node_step, packet_at}
use Rattle.lard_law_connections.proofs.Forms.{Comes, NodeStep, NodesStay, node-form}
use Rattle.lard_rules.specs.declared.node.BackIn.TheVariants as back

-- a node gets what comes, or all stay
abbrev pub GoesTo : Machine → Machine → Packet → Type 0
GoesTo m n p = (n.nodes ≡ m.nodes) ⊎ ((i : ℕ) × (s : NodeState) × (p.to ≡ Node i) × (node_at m.nodes i ≡ Some s))

pub deliver-goes : (m n : Machine) (k : ℕ) (p : Packet) → packet_at m.net k ≡ Some p → machine_step m (event.Deliver k) ≡ Ok n → GoesTo m n p
deliver-goes m n k p at is = go (node-form m n (event.Deliver k) is) where
  to-node : (i : ℕ) (s : NodeState) → node_at m.nodes i ≡ Some s → (x : BackIn) → Comes m (event.Deliver k) i s x → GoesTo m n p
  to-node i s there (back.Message from bytes) c =
      let same : event.Deliver k ≡ event.Deliver c.0 = c.2 in
      let number : k ≡ c.0 = cc in
      let both : Some p ≡ Some c.1 = sym at ∙ ap (packet_at m.net) number ∙ c.3 in
      let one : p ≡ c.1 = cc in inr (i, s, ap (λ (l : Packet). l.to) one ∙ c.5, there)
  to-node i s there (back.Timer d) c = let no : event.Deliver k ≡ event.Timer (Node i) d = c.0 in absurd cc
  to-node i s there (back.Disk j) c = let no : event.Deliver k ≡ event.Disk i j = c.0 in absurd cc

  go : NodesStay m (event.Deliver k) n ⊎ NodeStep m (event.Deliver k) n → GoesTo m n p
  go (inl stay) = inl stay.0
  go (inr step) = to-node step.i step.s step.there step.comes step.came

-- a node's timer fires, or all stay
abbrev pub FiresTo : Machine → Machine → Place → ℕ → Type 0
FiresTo m n p c = (n.nodes ≡ m.nodes) ⊎ ((i : ℕ) × (s : NodeState) × (node_at m.nodes i ≡ Some s) × (n ≡ node_gave m (event.Timer p c) [] i (node_step (node_setting m i) s (back.Timer c))))

pub timer-goes : (m n : Machine) (p : Place) (c : ℕ) → machine_step m (event.Timer p c) ≡ Ok n → FiresTo m n p c
timer-goes m n p c is = go (node-form m n (event.Timer p c) is) where
  go : NodesStay m (event.Timer p c) n ⊎ NodeStep m (event.Timer p c) n → FiresTo m n p c
  go (inl stay) = inl stay.0
  go (inr step) = at-node step.i step.s step.there step.comes step.came step.is where
    at-node : (i : ℕ) (s : NodeState) → node_at m.nodes i ≡ Some s → (x : BackIn) → Comes m (event.Timer p c) i s x
        → n ≡ node_gave m (event.Timer p c) [] i (node_step (node_setting m i) s x) → FiresTo m n p c
    at-node i s there (back.Timer d) came e =
        let same : event.Timer p c ≡ event.Timer (Node i) d = came.0 in
        let its : d ≡ c = cc in inr (i, s, there, subst (λ q. n ≡ node_gave m (event.Timer p c) [] i (node_step (node_setting m i) s (back.Timer q))) its e)
    at-node i s there (back.Message from bytes) came e = let no : event.Timer p c ≡ event.Deliver came.0 = came.2 in absurd cc
    at-node i s there (back.Disk j) came e = let no : event.Timer p c ≡ event.Disk i j = came.0 in absurd cc

-- a job that is done was there
pub record IsFirstJob (m : Machine) (i : ℕ) : Type 0 where
  pub state : NodeState
  pub at : node_at m.nodes i ≡ Some state
  pub job : Job
  pub jobs : List Job
  pub were : state.disk ≡ job ∷ jobs

first-job : (js : List Job) (job : Job) → job_at js 1 ≡ Some job → (rest : List Job) × (js ≡ job ∷ rest)
first-job [] job e = let no : None ≡ Some job = e in absurd cc
first-job (j ∷ js) job e = let same : Some j ≡ Some job = e in let its : j ≡ job = cc in (js, ap (λ (x : Job). x ∷ js) its)

pub disk-goes : (m n : Machine) (i : ℕ) → machine_step m (event.Disk i 1) ≡ Ok n → IsFirstJob m i
disk-goes m n i is = go (node-form m n (event.Disk i 1) is) where
  at-node : (k : ℕ) (s : NodeState) → node_at m.nodes k ≡ Some s → (x : BackIn) → Comes m (event.Disk i 1) k s x → IsFirstJob m i
  at-node k s there (back.Disk j) c =
      let same : event.Disk i 1 ≡ event.Disk k j = c.0 in
      let node : i ≡ k = cc in
      let number : 1 ≡ j = cc in
      let first = first-job s.disk c.1 (ap (job_at s.disk) number ∙ c.2) in
      record { state = s; at = ap (node_at m.nodes) node ∙ there; job = c.1; jobs = first.0; were = first.1 }
  at-node k s there (back.Timer d) c = let no : event.Disk i 1 ≡ event.Timer (Node k) d = c.0 in absurd cc
  at-node k s there (back.Message from bytes) c = let no : event.Disk i 1 ≡ event.Deliver c.0 = c.2 in absurd cc

  go : NodesStay m (event.Disk i 1) n ⊎ NodeStep m (event.Disk i 1) n → IsFirstJob m i
  go (inl stay) = absurd stay.1
  go (inr step) = at-node step.i step.s step.there step.comes step.came
