-- A node completes its first job as often as it has jobs: each takes out one, and may queue others behind.
use Rattle.std.proofs.Common.{◌≡◌, ◌≤◌, ℕ, zero, suc, ◌-◌, ◌==◌, Bool, false, cond, List, [], ◌∷◌, length, replicate, Option, Some, None, Result, Ok, Err, refl, sym, ap, ◌∙◌, subst, arith, length-append}
use Rattle.std.proofs.lemmas.Bool.{cond_both}
use Rattle.std.proofs.lemmas.Bool.Decides.{nat_tests}
use Rattle.lard_base.specs.declared.event.Event.TheVariants as event
use Rattle.lard_law_view.specs.Prelude.{Job, Machine, NodeSetting, NodeState, Out, StepFault, completed, completes, content_sent, disk_at, disk_step, is_no_job, is_no_node, job_at, machine_told, node_at, node_brought, node_deed, node_env, node_gave, node_part, node_read, node_setting, node_step, without_job}
use Rattle.lard_rules.specs.declared.fault.Refusal.TheVariants.{NoJob, NoNode}
use Rattle.lard_rules.specs.declared.fault.StepFault.TheVariants.{Refused}
use Rattle.lard_law_view.proofs.Parts.{length-set, node-set}
use Rattle.lard_rules.specs.declared.node.BackIn.TheVariants as back
use Rattle.lard_rules.specs.Node as node
use Rattle.lard_rules.specs.NodePlace as place
use Rattle.lard_settling.specs.Settling.{all_inner}
use Rattle.lard_law_settles.specs.SettlesStops.{StopsAtLimits}
use Rattle.lard_law_settles.proofs.SettlesKeeping.{DoneOrLimit, inner-done, one-more}
use Rattle.lard_law_settles.proofs.SettlesLate.{node-counted}
use Rattle.lard_settling.specs.Left.{jobs_at, jobs_of}
use Rattle.lard_settling.specs.Steps.{as_inner, inner_step}

-- ---- one completion

deed-more : (k : NodeSetting) (s : NodeState) (c : ℕ) (d : node.NodeDeed) → length s.disk ≤ length (node_deed k s c d).0.disk
deed-more k s c node.Drops = omega arith
deed-more k s c (node.Says messages) = let sum = length-append s.disk [] in omega (arith, sum)
deed-more k s c (node.Does given) = let sum = length-append s.disk given.1.jobs in omega (arith, sum)

brought-more : (k : NodeSetting) (s : NodeState) (job : Job) → length s.disk ≤ length (node_brought k s job).0.disk
brought-more k s job =
    let mine = node_deed k s job.c (node_read (node_env k s job.c job.epoch.0) (node_part s job.c) job.r) in
    let others = place.aside s (node.node_saying (content_sent k job.origin job.c job.epoch.0 job.r job.path ∷ [])) in
    cond_both (job.origin == k.n) mine others (λ (x : NodeState × Out). length s.disk ≤ length x.0.disk)
    (λ t. deed-more k s job.c (node_read (node_env k s job.c job.epoch.0) (node_part s job.c) job.r))
    (λ t. let sum = length-append s.disk [] in omega (arith, sum))

-- all but the first job are left
first-done : (k : NodeSetting) (s : NodeState) (left : ℕ) → suc left ≤ length s.disk → left ≤ length (node_step k s (back.Disk 1)).0.disk
first-done k s left some = go s.disk refl where
  go : (jobs : List Job) → s.disk ≡ jobs → left ≤ length (disk_step k s 1 (job_at s.disk 1)).0.disk
  go [] is = let none : length s.disk ≡ 0 = ap length is in absurd (omega (arith, none, some))
  go (job ∷ jobs) is =
      let at : job_at s.disk 1 ≡ Some job = ap (λ (js : List Job). job_at js 1) is in
      let rest : length (completed k s 1 job).disk ≡ length jobs = ap (λ (js : List Job). length (without_job js 1)) is in
      let count : length s.disk ≡ suc (length jobs) = ap length is in
      let more = brought-more k (completed k s 1 job) job in
      subst (λ (o : Option Job). left ≤ length (disk_step k s 1 o).0.disk) (sym at) (omega (arith, rest, count, more, some))

-- ---- all of a node's

-- so many jobs wait at node n at least, and the nodes are as many as there are to be
abbrev HasJobs : ℕ → ℕ → Machine → Type 0
HasJobs n count m = (length m.nodes ≡ m.config.nodes) × (count ≤ jobs_at m n)

job-there : (m : Machine) (n left : ℕ) → HasJobs n (suc left) m → (s : NodeState) × (node_at m.nodes n ≡ Some s) × (suc left ≤ length s.disk)
job-there m n left h = go (node_at m.nodes n) refl h.1 where
  go : (o : Option NodeState) → node_at m.nodes n ≡ o → suc left ≤ jobs_of o → (s : NodeState) × (node_at m.nodes n ≡ Some s) × (suc left ≤ length s.disk)
  go None at some = absurd (omega (arith, some))
  go (Some s) at some = (s, at, some)

gave-jobs : (m : Machine) (n left : ℕ) (s : NodeState) (given : NodeState × Out) → length m.nodes ≡ m.config.nodes → node_at m.nodes n ≡ Some s → left ≤ length given.0.disk
    → HasJobs n left (as_inner m (node_gave m (event.Disk n 1) [] n given))
unfolding machine_told
gave-jobs m n left s given same at more = (length-set m.nodes (n - 1) given.0 ∙ same, subst (λ (o : Option NodeState). left ≤ jobs_of o) (sym (node-set m.nodes n s given.0 at)) more)

completion-done : (m : Machine) (n left : ℕ) → HasJobs n (suc left) m → DoneOrLimit (HasJobs n left) (inner_step m (event.Disk n 1))
unfolding completes
completion-done m n left h =
    let j = job-there m n left h in
    let s : NodeState = j.0 in
    let given : NodeState × Out = node_step (node_setting m n) s (back.Disk 1) in
    let after : Machine = node_gave m (event.Disk n 1) [] n given in
    let counted : is_no_node m.config.nodes n ≡ false = node-counted m.nodes m.config.nodes n s h.0 j.1 in
    let some = j.2 in
    let job : is_no_job s 1 ≡ false = grind (arith, nat_tests, some) in
    let is : completes m n 1 ≡ Ok after =
    ap (λ (b : Bool). cond {A = Result Machine StepFault} b (Err (Refused (NoNode n m.config.nodes))) (disk_at m n 1 (node_at m.nodes n))) counted
    ∙ ap (disk_at m n 1) j.1 ∙ ap (λ (b : Bool). cond {A = Result Machine StepFault} b (Err (Refused (NoJob n 1 (length s.disk)))) (Ok after)) job in
    inner-done (HasJobs n left) m after (event.Disk n 1) is (gave-jobs m n left s given h.0 j.1 (first-done (node_setting m n) s left some))

pub completions-stop : (count n : ℕ) (m : Machine) → HasJobs n count m → StopsAtLimits (all_inner m (replicate count (event.Disk n 1)))
unfolding all_inner
completions-stop zero n m h = tt
completions-stop (suc count) n m h = one-more m (replicate count (event.Disk n 1)) (HasJobs n count) (inner_step m (event.Disk n 1)) (completion-done m n count h) (λ k more. completions-stop count n k more)
