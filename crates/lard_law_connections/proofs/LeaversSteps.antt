-- The nodes that leave stay the same in a step: no step of a round, and no event yet, makes one leave.
use Rattle.std.proofs.Common.{◌≡◌, ℕ, ◌-◌, ◌==◌, List, [], ◌∷◌, Bool, true, Option, Some, None, Result, Ok, Err, refl, sym, ap, ◌∙◌, subst, inl, inr}
use Rattle.std.specs.Prelude.{◌⊎◌, slice_set}
use Rattle.std.specs.List.{list_any}
use Rattle.std.proofs.lemmas.Bool.{cond_both}
use Rattle.lard_history.proofs.Seeing.{by_number}
use Rattle.lard_law_connections.proofs.Forms.{NodeStep, NodesStay, node-form}
use Rattle.lard_law_view.proofs.Parts.{node-others, node-set}
use Rattle.lard_law_view.specs.Prelude.{BackIn, Body, Event, Front, Job, Machine, Message, MsgFault, Node, NodeDeed, NodeSetting, NodeState, Out, Place, aside, completed, content_sent, decoded_message, disk_step, fetched, fetched_file, is_for, job_at, leaves_at, machine_step, machine_told, node_at, node_brought, node_deed, node_env, node_gets, node_hears, node_leaves, node_part, node_read, node_saying, node_setting, node_step, nothing_done, which_leave}
use Rattle.lard_message.specs.declared.message.Body.TheVariants as body
use Rattle.lard_rules.specs.Node.{Drops, Says, Does}
use Rattle.lard_rules.specs.declared.node.BackIn.TheVariants as back

-- ---- a node

module _ (k : NodeSetting) where
  -- it leaves as it did
  abbrev Same : NodeState → NodeState × Out → Type 0
  Same s x = node_leaves x.0 ≡ node_leaves s

  deed-same : (s : NodeState) (c : ℕ) (d : NodeDeed) → Same s (node_deed k s c d)
  deed-same s c Drops = refl
  deed-same s c (Says messages) = refl
  deed-same s c (Does given) = refl

  fetched-same : (s : NodeState) (from c epoch r : ℕ) (path : List ℕ) (o : Option (List ℕ)) → Same s (fetched k s from c epoch r path o)
  fetched-same s from c epoch r path None = refl
  fetched-same s from c epoch r path (Some bytes) =
      cond_both (list_any (is_for c epoch r) s.disk) (s, nothing_done) (aside s (fetched_file k s from c epoch r path)) (Same s) (λ t. refl) (λ t. refl)

  hears-same : (s : NodeState) (from : Place) (c epoch : ℕ) (b : Body) → Same s (node_hears k s from c epoch b)
  hears-same s Front c epoch (body.Offer parts) = deed-same s c _
  hears-same s Front c epoch (body.Forward bytes) = deed-same s c _
  hears-same s Front c epoch (body.Tag number nodes) = deed-same s c _
  hears-same s Front c epoch body.EndedAck = deed-same s c _
  hears-same s Front c epoch body.Given = deed-same s c _
  hears-same s (Node from) c epoch (body.Fetch r path) = fetched-same s from c epoch r path (k.files path)
  hears-same s (Node from) c epoch (body.Content r bytes) = deed-same s c _
  hears-same s _ c epoch _ = refl

  gets-same : (s : NodeState) (from : Place) (r : Result Message MsgFault) → Same s (node_gets k s from r)
  gets-same s from (Err fault) = refl
  gets-same s from (Ok m) = hears-same s from m.c m.epoch.0 m.body

  brought-same : (s : NodeState) (job : Job) → Same s (node_brought k s job)
  brought-same s job = cond_both (job.origin == k.n) (node_deed k s job.c (node_read (node_env k s job.c job.epoch.0) (node_part s job.c) job.r))
      (aside s (node_saying (content_sent k job.origin job.c job.epoch.0 job.r job.path ∷ []))) (Same s) (λ t. deed-same s job.c _) (λ t. refl)

  disk-same : (s : NodeState) (j : ℕ) (o : Option Job) → Same s (disk_step k s j o)
  disk-same s j None = refl
  disk-same s j (Some job) = brought-same (completed k s j job) job

  step-same : (s : NodeState) (i : BackIn) → Same s (node_step k s i)
  step-same s (back.Message from bytes) = gets-same s from (decoded_message bytes)
  step-same s (back.Timer c) = deed-same s c _
  step-same s (back.Disk j) = disk-same s j (job_at s.disk j)

-- ---- a step

pub leaving-stays : (m n : Machine) (e : Event) → machine_step m e ≡ Ok n → which_leave n ≡ which_leave m
unfolding machine_told
leaving-stays m n e is = go (node-form m n e is) where
  go : NodesStay m e n ⊎ NodeStep m e n → which_leave n ≡ which_leave m
  go (inl stay) = λ i q. leaves_at (node_at (stay.0 i) q)
  go (inr step) =
      let t : NodeState = (node_step (node_setting m step.i) step.s step.comes).0 in
      let set : List NodeState = slice_set m.nodes (step.i - 1) t in
      let one : (q : ℕ) → leaves_at (node_at set q) ≡ leaves_at (node_at m.nodes q) =
      λ q. by_number (leaves_at (node_at set q) ≡ leaves_at (node_at m.nodes q)) q step.i
      (λ same. subst (λ (z : ℕ). leaves_at (node_at set z) ≡ leaves_at (node_at m.nodes z)) (sym same)
      (ap leaves_at (node-set m.nodes step.i step.s t step.there) ∙ step-same (node_setting m step.i) step.s step.comes ∙ ap leaves_at (sym step.there)))
      (λ other. ap leaves_at (node-others m.nodes step.i q step.s t step.there other)) in
      ap (λ (k : Machine). which_leave k) step.is ∙ (λ i q. one q i)

-- so what leaves, leaves for ever
pub still-leaves : (m n : Machine) (e : Event) → machine_step m e ≡ Ok n → (i : ℕ) → which_leave m i ≡ true → which_leave n i ≡ true
still-leaves m n e is i leaves = ap (λ (l : ℕ → Bool). l i) (leaving-stays m n e is) ∙ leaves
