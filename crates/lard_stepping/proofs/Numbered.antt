-- Node n is the n-th of the list, and its disk's jobs are counted from 1.
use Rattle.std.proofs.Common.{◌≡◌, ℕ, zero, suc, ◌-◌, ◌≤◌, List, [], length, Bool, false, cond, Some, Result, Ok, Err, OnOk, slice_get, slice_set, sym, ap, ◌∙◌, arith}
use Rattle.std.proofs.lemmas.Bool.Decides.{nat_tests}
use Rattle.lard_base.specs.declared.event.Event.{Event}
use Rattle.lard_base.specs.declared.event.Event.TheVariants as event
use Rattle.lard_base.specs.declared.errors.NoMemory.{NoMemory}
use Rattle.lard_base.specs.declared.place.Place.TheVariants as place
use Rattle.lard_rules.specs.Machine.{completes, disk_at, is_no_job, is_no_node, node_acts, node_at, node_gave, node_setting, machine_told}
use Rattle.lard_rules.specs.declared.fault.StepFault.{StepFault}
use Rattle.lard_rules.specs.declared.fault.Refusal.TheVariants.{NoNode, NoJob}
use Rattle.lard_rules.specs.declared.fault.StepFault.TheVariants.{Refused}
use Rattle.lard_rules.specs.declared.machine.Machine.{Machine}
use Rattle.lard_journal.specs.declared.rec.Rec.{Rec}
use Rattle.lard_rules.specs.declared.node.BackIn.{BackIn}
use Rattle.lard_rules.specs.declared.node.BackIn.TheVariants as back
use Rattle.lard_rules.specs.declared.node.NodeState.{NodeState}
use Rattle.lard_rules.specs.NodePlace.{node_step}
use Rattle.lard_rules.specs.declared.places.Out.{Out}

there : (nodes : List NodeState) (n at : ℕ) (s : NodeState) → 1 ≤ n → at ≡ n - 1 → slice_get nodes at ≡ Some s → node_at nodes n ≡ Some s
there nodes zero at s le is h = absurd (omega (arith, le))
there nodes (suc k) at s le is h = let same : k ≡ at = omega (arith, is) in ap (slice_get nodes) same ∙ h

-- it does its rule
pub node_there : (m : Machine) (e : Event) (own : List Rec) (n at : ℕ) (i : BackIn) (s : NodeState) → 1 ≤ n → at ≡ n - 1 → slice_get m.nodes at ≡ Some s
    → node_acts m e own n i (node_at m.nodes n) ≡ node_gave m e own n (node_step (node_setting m n) s i)
node_there m e own n at i s le is h = ap (node_acts m e own n i) (there m.nodes n at s le is h)

-- and what it did is told
pub node_told : (result : Result (Unit {0}) NoMemory) (m new : Machine) (e : Event) (own : List Rec) (n k : ℕ) (i : BackIn) (old after : NodeState) (out : Out)
    → k ≡ n → 1 ≤ k → slice_get m.nodes (k - 1) ≡ Some old → (after, out) ≡ node_step (node_setting m n) old i
    → OnOk result (new ≡ machine_told (record m { nodes = slice_set m.nodes (k - 1) after }) e own (place.Node n) out) → OnOk result (new ≡ node_acts m e own n i (node_at m.nodes n))
node_told (Err fault) m new e own n k i old after out same le at is h = tt
node_told (Ok done) m new e own n k i old after out same le at is h =
    h ∙ ap (λ (j : ℕ). machine_told (record m { nodes = slice_set m.nodes (j - 1) after }) e own (place.Node n) out) same
    ∙ ap (node_gave m e own n) is
    ∙ sym (node_there m e own n (k - 1) i old (omega (arith, le, same)) (ap (λ j. j - 1) same) at)

pub job_there : (s : NodeState) (j : ℕ) → 1 ≤ j → j ≤ length s.disk → is_no_job s j ≡ false
job_there s j some le = grind (arith, nat_tests, some, le)

-- its disk completes a job
pub completes_is : (m : Machine) (n at j : ℕ) (s : NodeState) → is_no_node m.config.nodes n ≡ false → 1 ≤ n → at ≡ n - 1 → slice_get m.nodes at ≡ Some s → is_no_job s j ≡ false
    → completes m n j ≡ Ok (node_acts m (event.Disk n j) [] n (back.Disk j) (node_at m.nodes n))
unfolding completes
completes_is m n at j s node le is h job =
    ap (λ (t : Bool). cond {A = Result Machine StepFault} t (Err (Refused (NoNode n m.config.nodes))) (disk_at m n j (node_at m.nodes n))) node
    ∙ ap (disk_at m n j) (there m.nodes n at s le is h)
    ∙ ap (λ (t : Bool). cond {A = Result Machine StepFault} t (Err (Refused (NoJob n j (length s.disk)))) (Ok (node_gave m (event.Disk n j) [] n (node_step (node_setting m n) s (back.Disk j))))) job
    ∙ ap Ok (sym (node_there m (event.Disk n j) [] n at (back.Disk j) s le is h))
