-- A job that is done queues none: the disk of its node has the jobs behind it, and all other disks are as they were.
use Rattle.std.proofs.Common.{◌≡◌, ◌≢◌, ℕ, List, [], ◌∷◌, length, Some, Ok, sym, ap, ◌∙◌, subst}
use Rattle.lard_base.specs.declared.event.Event.TheVariants as event
use Rattle.lard_law_view.specs.Prelude.{Job, Machine, NodeState, Out, machine_step, machine_told, node_at, node_gave, node_setting, node_step}
use Rattle.lard_law_view.proofs.Parts.{node-others, node-set}
use Rattle.lard_law_connections.proofs.Happened.{disk-is}
use Rattle.lard_law_settles.proofs.CourseActing.{disk-goes}
use Rattle.lard_law_settles.proofs.CourseQueueing.{first-disk}
use Rattle.lard_rules.specs.declared.node.BackIn.TheVariants as back
use Rattle.lard_settling.specs.Left.{jobs_at, jobs_of}

-- The first job of node n was done: its disk has those behind it.
pub record IsDone (m : Machine) (n : ℕ) (q : Machine) : Type 0 where
  pub state : NodeState
  pub at : node_at m.nodes n ≡ Some state
  pub job : Job
  pub jobs : List Job
  pub were : state.disk ≡ job ∷ jobs
  pub mine : jobs_at q n ≡ length jobs
  pub others : (i : ℕ) → i ≢ n → node_at q.nodes i ≡ node_at m.nodes i

gave-done : (m : Machine) (n : ℕ) (s : NodeState) (job : Job) (jobs : List Job) → node_at m.nodes n ≡ Some s → s.disk ≡ job ∷ jobs
    → IsDone m n (node_gave m (event.Disk n 1) [] n (node_step (node_setting m n) s (back.Disk 1)))
unfolding machine_told
gave-done m n s job jobs at were =
    let given : NodeState × Out = node_step (node_setting m n) s (back.Disk 1) in
    let rest : given.0.disk ≡ jobs = first-disk (node_setting m n) s job jobs were in record {
      state = s;
      at = at;
      job = job;
      jobs = jobs;
      were = were;
      mine = ap jobs_of (node-set m.nodes n s given.0 at) ∙ ap (λ (js : List Job). length js) rest;
      others = λ i other. node-others m.nodes n i s given.0 at other;
    }

pub disk-done : (m q : Machine) (n : ℕ) → machine_step m (event.Disk n 1) ≡ Ok q → IsDone m n q
disk-done m q n is = let f = disk-goes m q n is in subst (IsDone m n) (sym (disk-is m q n 1 f.state f.at is)) (gave-done m n f.state f.job f.jobs f.at f.were)
