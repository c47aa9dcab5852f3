-- No rule of a node queues a job but where an Offer or a Tag comes: behind a job that was done its disk has the jobs behind it.
use Rattle.std.proofs.Common.{◌≡◌, ℕ, ◌+◌, ◌-◌, ◌==◌, nat_lt, List, [], ◌∷◌, ◌++◌, Option, Some, refl, ap, ◌∙◌, append-nil}
use Rattle.std.proofs.lemmas.Bool.{cond_both}
use Rattle.lard_law_view.specs.Prelude.{Job, NodeEnv, NodePart, NodeSetting, NodeState, Out, Progress, Work, came_for, come_on, come_progress, completed, content_sent, disk_step, goes_on, job_at, node_brought, node_deed, node_env, node_part, node_read, node_step, on_segment, read_progress, without, without_job, work_of}
use Rattle.lard_base.specs.declared.place.TimerKind.TheVariants as kind
use Rattle.lard_rules.specs.declared.node.BackIn.TheVariants as input
use Rattle.lard_rules.specs.Node as node
use Rattle.lard_rules.specs.NodePlace as place
use Rattle.lard_rules.proofs.NodeCases.{IsOfItsEpoch, Turned, node-keeps}
use Rattle.lard_rules.proofs.StayKeeping.{turning-keeps}

-- what came adds none
came-same : (f : Progress → Progress) (r : ℕ) (w : Work) → (came_for f r w).jobs ≡ w.jobs
came-same f r w = cond_both (nat_lt w.service.count r) (record w { batch = come_on f (r - (w.service.count + 1)) w.batch }) w (λ (x : Work). x.jobs ≡ w.jobs) (λ t. refl) (λ t. refl)

-- ---- a job is done

abbrev pub QueuesNone : node.NodeDeed → Type 0
QueuesNone node.Drops = Unit {0}
QueuesNone (node.Says messages) = Unit {0}
QueuesNone (node.Does given) = given.1.jobs ≡ []

-- a stay that goes on queues none, but where a batch is read with the connection
goes-none : (env : NodeEnv) (w : Work) → w.jobs ≡ [] → (goes_on env w).jobs ≡ []
goes-none env = turning-keeps env (λ w. w.jobs ≡ []) (record {
  enters = λ v w h. h;
  asks = λ size path paths w e h. h;
  takes = λ used w none h. h;
  ends = λ w none h. h;
  serves = λ way e rest w may first is h. h;
})

-- what comes is no Offer and no Tag
abbrev pub StartsNone : node.NodeGets → Type 0
StartsNone (node.Offered parts) = ⊥
StartsNone (node.Tagged number nodes) = ⊥
StartsNone _ = Unit {0}

-- behind a turn, whether the connection stays or goes back
turns-none : (env : NodeEnv) (q : NodePart) (w : Work) → w.jobs ≡ [] → Turned QueuesNone env q [] w
turns-none env q w none = (λ rests. none, λ back. none)

pub rule-none : (env : NodeEnv) (p : NodePart) (g : node.NodeGets) → IsOfItsEpoch env p g → StartsNone g → QueuesNone (node.node_rule env p g)
rule-none env p = node-keeps env p StartsNone QueuesNone (record {
  drops = tt;
  hears = λ said b s m at. let w = work_of (on_segment b said).1 s in turns-none env p (goes_on env w) (goes-none env w refl);
  tags = λ number nodes b s m at asked same named. absurd m;
  comes = λ from r b s m at wanted. let w = came_for (come_progress from) r (work_of b s) in
      turns-none env (record p { fetches = without kind.Fetch r p.fetches }) (goes_on env w) (goes-none env w (came-same (come_progress from) r (work_of b s)));
  reads = λ r path b s m at. let w = came_for read_progress r (work_of b s) in turns-none env p (goes_on env w) (goes-none env w (came-same read_progress r (work_of b s)));
  begins = λ parts m is may. absurd m;
  takes_again = λ parts m is. tt;
  refuses = λ parts m is. absurd m;
  fires = λ b s m at. refl;
  resends = λ m none. tt;
  ends = λ back m awaits was. refl;
  leaves = λ b s m at back. refl;
})

module _ (k : NodeSetting) where
  deed-disk : (s : NodeState) (c : ℕ) (d : node.NodeDeed) → QueuesNone d → (node_deed k s c d).0.disk ≡ s.disk
  deed-disk s c node.Drops h = refl
  deed-disk s c (node.Says messages) h = append-nil s.disk
  deed-disk s c (node.Does given) h = ap (λ (js : List Job). s.disk ++ js) h ∙ append-nil s.disk

  brought-disk : (s : NodeState) (job : Job) → (node_brought k s job).0.disk ≡ s.disk
  brought-disk s job =
      let mine = node_deed k s job.c (node_read (node_env k s job.c job.epoch.0) (node_part s job.c) job.r) in
      let others = place.aside s (node.node_saying (content_sent k job.origin job.c job.epoch.0 job.r job.path ∷ [])) in
      cond_both (job.origin == k.n) mine others (λ (x : NodeState × Out). x.0.disk ≡ s.disk)
      (λ t. deed-disk s job.c (node_read (node_env k s job.c job.epoch.0) (node_part s job.c) job.r)
      (rule-none (node_env k s job.c job.epoch.0) (node_part s job.c) (node.Completed job.r job.path) tt tt))
      (λ t. append-nil s.disk)

  pub first-disk : (s : NodeState) (job : Job) (jobs : List Job) → s.disk ≡ job ∷ jobs → (node_step k s (input.Disk 1)).0.disk ≡ jobs
  first-disk s job jobs is =
      let at : job_at s.disk 1 ≡ Some job = ap (λ (js : List Job). job_at js 1) is in
      let rest : (completed k s 1 job).disk ≡ jobs = ap (λ (js : List Job). without_job js 1) is in
      ap (λ (o : Option Job). (disk_step k s 1 o).0.disk) at ∙ brought-disk (completed k s 1 job) job ∙ rest
