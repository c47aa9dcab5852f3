-- What a step that is done did, where its event is known: no limit was reached, and nothing was refused.
use Rattle.std.proofs.Common.{◌≡◌, ℕ, Bool, true, false, cond, [], Option, Some, None, Result, Ok, Err, refl, sym, ap, ◌∙◌}
use Rattle.lard_law_view.specs.Prelude.{Event, Machine, NodeState, Packet, StepFault, What, completes, delivered, disk_at, happens, is_no_job, is_no_node, limit_reached, machine_step, node_at, node_gave, node_setting, node_step, packet_at, to_place, unless_limit}
use Rattle.lard_base.specs.declared.event.Event.TheVariants as event
use Rattle.lard_rules.specs.declared.node.BackIn.TheVariants as back

pub ok-same : (x n : Machine) → ◌≡◌ {A = Result Machine StepFault} (Ok x) (Ok n) → x ≡ n
ok-same x n e = cc

pub done-happens : (m n : Machine) (e : Event) → machine_step m e ≡ Ok n → (limit_reached m ≡ None) × (happens m e ≡ Ok n)
unfolding machine_step
done-happens m n e is = go (limit_reached m) refl is where
  go : (o : Option What) → limit_reached m ≡ o → unless_limit o (happens m e) ≡ Ok n → (limit_reached m ≡ None) × (happens m e ≡ Ok n)
  go None limit same = (limit, same)
  go (Some what) limit same = absurd cc

pub unrefused : (b : Bool) (f : StepFault) (x : Result Machine StepFault) (n : Machine) → cond b (Err f) x ≡ Ok n → x ≡ Ok n
unrefused true f x n e = absurd (let no : ◌≡◌ {A = Result Machine StepFault} (Err f) (Ok n) = e in cc)
unrefused false f x n e = e

-- a packet came to its place
pub deliver-is : (m n : Machine) (k : ℕ) (p : Packet) → packet_at m.net k ≡ Some p → machine_step m (event.Deliver k) ≡ Ok n → n ≡ to_place m k p p.to
unfolding delivered
deliver-is m n k p at is = sym (ok-same (to_place m k p p.to) n
    (unrefused p.lost _ (Ok (to_place m k p p.to)) n (sym (ap (delivered m k) at) ∙ (done-happens m n (event.Deliver k) is).1)))

-- a node did a job
pub disk-is : (m n : Machine) (i j : ℕ) (s : NodeState) → node_at m.nodes i ≡ Some s → machine_step m (event.Disk i j) ≡ Ok n
    → n ≡ node_gave m (event.Disk i j) [] i (node_step (node_setting m i) s (back.Disk j))
unfolding completes
disk-is m n i j s at is =
    let there : disk_at m i j (node_at m.nodes i) ≡ Ok n =
    unrefused (is_no_node m.config.nodes i) _ (disk_at m i j (node_at m.nodes i)) n (done-happens m n (event.Disk i j) is).1 in
    sym (ok-same _ n (unrefused (is_no_job s j) _ (Ok (node_gave m (event.Disk i j) [] i (node_step (node_setting m i) s (back.Disk j)))) n (sym (ap (disk_at m i j) at) ∙ there)))
