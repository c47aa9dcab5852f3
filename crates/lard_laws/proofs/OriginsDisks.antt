-- What a step of a node leaves on its disk: jobs that were there, its own for a connection that it decided, and those that a Fetch asked for.
use Rattle.std.proofs.Common.{◌≡◌, ◌⊎◌, ℕ, ◌-◌, suc, ◌==◌, true, false, List, [], ◌∷◌, ◌++◌, take, drop, Option, Some, None, Result, Ok, Err, refl, sym, ap, ◌∙◌, subst, inl, inr, arith}
use Rattle.std.proofs.lemmas.Bool.{cond_both}
use Rattle.std.specs.List.{list_any}
use Rattle.lard_law_view.specs.Prelude.{Acknowledged, BackIn, BackRow, Body, Completed, Content, Ending, Fires, Forwarded, Has, Job, Message, MsgFault, Node, NodeDeed, NodeEnv, NodeGets, NodePart, NodeSetting, NodeState, NodeTurn, Offered, Place, Service, SpellsMessage, Tagged, ToCluster, Work, aside, came_for, come_progress, completed, content_sent, decoded, decoded_message, disk_step, fetched, fetched_file, gives_back, goes_on, has_path, is_for, job_at, kept_after, kept_back, node_begins, node_deed, node_env, node_epoch_at, node_gets, node_hears, node_part, node_put, node_read, node_rule, node_saying, node_step, on_segment, own_job, read_progress, reads_batch, serving_settled, state_of, tagged, taken_sent, with_work, without, without_job, work_of}
use Rattle.lard_base.specs.declared.place.Place.TheVariants as place
use Rattle.lard_base.specs.declared.place.TimerKind.TheVariants as kind
use Rattle.lard_law_connections.specs.Places.{IsDecided}
use Rattle.lard_law_view.proofs.ByteLists.{each-drop, each-take}
use Rattle.lard_law_view.proofs.Parts.{node-here}
use Rattle.lard_history.proofs.Each.{Each, Each-append, Each-weaker}
use Rattle.lard_journal.specs.declared.rec.Rec.TheVariants as rec
use Rattle.lard_message.specs.declared.message.Body.TheVariants as body
use Rattle.lard_rules.proofs.NodeCases.{IsOfItsEpoch, KeptByNode, Turned, node-keeps}
use Rattle.lard_rules.proofs.StayKeeping.{KeptByNotes, batch-works, came-works, goes-works, tagged-works}
use Rattle.lard_rules.specs.Node.{Drops, Says, Does}
use Rattle.lard_rules.specs.declared.node.BackIn.TheVariants as input
use Rattle.lard_rules.specs.declared.places.Ending.TheVariants as ending

-- ---- the jobs of a rule

module _ (env : NodeEnv) where
  -- of its connection, for the node itself, in the epoch of the rule
  pub record IsMine (job : Job) : Type 0 where
    pub origin : job.origin ≡ env.n
    pub conn : job.c ≡ env.serve.c
    pub epoch : job.epoch.0 ≡ env.epoch

  abbrev AreMine : Service → List Job → Type 0
  AreMine s jobs = Each IsMine jobs

  by_mine : KeptByNotes env AreMine
  by_mine = record {
    hits = λ path v s jobs good t h. h;
    queues = λ r path v s jobs good f h. Each-append IsMine jobs (own_job env r path ∷ []) h (record { origin = refl; conn = refl; epoch = refl }, tt);
    takes = λ used s jobs h. h;
    ends = λ s jobs h. h;
    answers = λ way v s jobs may h. h;
  }

  -- and the node decided that epoch then
  abbrev pub IsOfRow : Option BackRow → Job → Type 0
  IsOfRow row job = IsMine job × IsDecided job.epoch.0 row

  abbrev pub DeedJobs : NodeDeed → Type 0
  DeedJobs Drops = Unit {0}
  DeedJobs (Says messages) = Unit {0}
  DeedJobs (Does given) = Each (IsOfRow given.0.row) given.1.jobs

  kept-decided : (q : NodePart) (w : Work) (e : Ending) (d : ℕ) → d ≡ env.epoch → IsDecided d (kept_after env q w e).row
  kept-decided q w (ending.Here b count) d is = omega (arith, is)
  kept-decided q w (ending.Over last) d is = omega (arith, is)

  works-jobs : (q : NodePart) (before : List (Place × List ℕ)) (w : Work) → Each IsMine w.jobs → DeedJobs (with_work env q before w)
  works-jobs q before w mine =
      let e : Ending = (serving_settled env.serve w.service).0 in
      Each-weaker IsMine (IsOfRow (kept_after env q w e).row) (λ job h. (h, kept-decided q w e job.epoch.0 h.epoch)) w.jobs mine

  -- its stay is over in this epoch
  back-jobs : (q : NodePart) (before : List (Place × List ℕ)) (w : Work) → Each IsMine w.jobs → DeedJobs (gives_back env q before w)
  back-jobs q before w mine = Each-weaker IsMine (IsOfRow (kept_back env q w).row) (λ job h. (h, omega (arith, h.epoch))) w.jobs mine

  turns-jobs : (q : NodePart) (before : List (Place × List ℕ)) (w : Work) → Each IsMine w.jobs → Turned DeedJobs env q before w
  turns-jobs q before w mine = (λ rests. works-jobs q before w mine, λ back. back-jobs q before w mine)

  rules_jobs : (p : NodePart) → KeptByNode env p (λ g. Unit {0}) DeedJobs
  rules_jobs p = record {
    drops = tt;
    hears = λ said b s m at.
        turns-jobs p [] (goes_on env (work_of (on_segment b said).1 s)) (goes-works env AreMine by_mine (work_of (on_segment b said).1 s) tt);
    tags = λ number nodes b s m at asked same count.
        turns-jobs (record p { kept = without kind.Ask 0 p.kept }) [] (goes_on env (tagged env nodes (work_of b s)))
        (goes-works env AreMine by_mine (tagged env nodes (work_of b s)) (tagged-works env AreMine by_mine nodes (work_of b s) tt));
    comes = λ from r b s m at wanted.
        turns-jobs (record p { fetches = without kind.Fetch r p.fetches }) [] (goes_on env (came_for (come_progress from) r (work_of b s)))
        (goes-works env AreMine by_mine (came_for (come_progress from) r (work_of b s))
        (came-works env AreMine by_mine (come_progress from) r (work_of b s) tt));
    reads = λ r path b s m at. turns-jobs p [] (goes_on env (came_for read_progress r (work_of b s)))
        (goes-works env AreMine by_mine (came_for read_progress r (work_of b s)) (came-works env AreMine by_mine read_progress r (work_of b s) tt));
    begins = λ parts m new may. works-jobs p (taken_sent env) (goes_on env (state_of (reads_batch env true (node_begins env parts))))
        (goes-works env AreMine by_mine (state_of (reads_batch env true (node_begins env parts)))
        (batch-works env AreMine by_mine true (node_begins env parts) refl tt));
    takes_again = λ parts m again. tt;
    refuses = λ parts m is. tt;
    fires = λ b s m at. tt;
    resends = λ m none. tt;
    ends = λ back m told was. tt;
    leaves = λ b s m at back. back-jobs p [] (work_of b s) tt;
  }

  rule-jobs : (p : NodePart) (g : NodeGets) → IsOfItsEpoch env p g → DeedJobs (node_rule env p g)
  rule-jobs p g at = node-keeps env p (λ g. Unit {0}) DeedJobs (rules_jobs p) g at tt

-- ---- a node's step

-- its own, of a connection that it decided in that epoch or behind it
pub record IsOwn (n : ℕ) (s : NodeState) (job : Job) : Type 0 where
  pub origin : job.origin ≡ n
  pub decided : IsDecided job.epoch.0 (node_part s job.c).row

-- a Fetch of another node asks for it
abbrev pub IsFetched : BackIn → Job → Type 0
IsFetched (input.Message (Node from) bytes) job = (job.origin ≡ from) × SpellsMessage job.c job.epoch.0 (body.Fetch job.r job.path) bytes
IsFetched _ job = ⊥

module _ (k : NodeSetting) (disk : List Job) (i : BackIn) where
  abbrev pub IsOfStep : NodeState → Job → Type 0
  IsOfStep s job = Has job disk ⊎ (IsOwn k.n s job ⊎ IsFetched i job)

  -- what there was
  abbrev WereThere : NodeState → Type 0
  WereThere s = Each (λ job. Has job disk) s.disk

  abbrev AreOfStep : NodeState → Type 0
  AreOfStep s = Each (IsOfStep s) s.disk

  old-jobs : (s t : NodeState) → WereThere s → Each (IsOfStep t) s.disk
  old-jobs s t old = Each-weaker (λ job. Has job disk) (IsOfStep t) (λ job h. inl h) s.disk old

  aside-jobs : (s : NodeState) (t : NodeTurn) → WereThere s → Each (IsFetched i) t.jobs → AreOfStep (aside s t).0
  aside-jobs s t old new =
      let after : NodeState = (aside s t).0 in
      Each-append (IsOfStep after) s.disk t.jobs (old-jobs s after old) (Each-weaker (IsFetched i) (IsOfStep after) (λ job h. inr (inr h)) t.jobs new)

  deed-jobs : (s : NodeState) (c epoch : ℕ) (d : NodeDeed) → WereThere s → DeedJobs (node_env k s c epoch) d → AreOfStep (node_deed k s c d).0
  deed-jobs s c epoch Drops old h = old-jobs s s old
  deed-jobs s c epoch (Says messages) old h = aside-jobs s (node_saying messages) old tt
  deed-jobs s c epoch (Does given) old h =
      let env : NodeEnv = node_env k s c epoch in
      let after : NodeState = (node_deed k s c (Does given)).0 in
      Each-append (IsOfStep after) s.disk given.1.jobs (old-jobs s after old)
      (Each-weaker (IsOfRow env given.0.row) (IsOfStep after) (λ job its. inr (inl (record {
        origin = its.0.origin;
        decided = subst (λ (q : ℕ). IsDecided job.epoch.0 (node_part (node_put s c given.0) q).row) (sym its.0.conn)
            (subst (λ (p : NodePart). IsDecided job.epoch.0 p.row) (sym (node-here s c given.0)) its.1);
      }))) given.1.jobs h)

  rule-of-step : (s : NodeState) (c epoch : ℕ) (g : NodeGets) → WereThere s → IsOfItsEpoch (node_env k s c epoch) (node_part s c) g
      → AreOfStep (node_deed k s c (node_rule (node_env k s c epoch) (node_part s c) g)).0
  rule-of-step s c epoch g old at =
      deed-jobs s c epoch (node_rule (node_env k s c epoch) (node_part s c) g) old (rule-jobs (node_env k s c epoch) (node_part s c) g at)

  -- ---- messages

  fetched-jobs : (s : NodeState) (from c epoch r : ℕ) (path : List ℕ) (o : Option (List ℕ)) → WereThere s
      → IsFetched i (record { origin = from; c = c; epoch = record { 0 = epoch }; r = r; path = path }) → AreOfStep (fetched k s from c epoch r path o).0
  fetched-jobs s from c epoch r path None old asked = old-jobs s s old
  fetched-jobs s from c epoch r path (Some bytes) old asked =
      let job : Job = record { origin = from; c = c; epoch = record { 0 = epoch }; r = r; path = path } in
      let sent : NodeTurn = record (node_saying (content_sent k from c epoch r path ∷ [])) { notes = rec.Hit k.n path ∷ [] } in
      let queued : NodeTurn = record (node_saying []) { notes = rec.Queued k.n from c r path ∷ []; jobs = job ∷ [] } in
      cond_both (list_any (is_for c epoch r) s.disk) (s, _) (aside s (fetched_file k s from c epoch r path)) (λ (x : NodeState × _). AreOfStep x.0)
      (λ t. old-jobs s s old)
      (λ t. cond_both (has_path s.cache.entries path) sent queued (λ (t : NodeTurn). AreOfStep (aside s t).0)
      (λ t. aside-jobs s sent old tt) (λ t. aside-jobs s queued old (asked, tt)))

  hears-jobs : (s : NodeState) (from : Place) (c epoch : ℕ) (b : Body) → WereThere s
      → ((n r : ℕ) (path : List ℕ) → from ≡ Node n → b ≡ body.Fetch r path
      → IsFetched i (record { origin = n; c = c; epoch = record { 0 = epoch }; r = r; path = path }))
      → AreOfStep (node_hears k s from c epoch b).0
  hears-jobs s place.Front c epoch (body.Offer parts) old asked = rule-of-step s c epoch (Offered parts) old tt
  hears-jobs s place.Front c epoch (body.Forward bytes) old asked = rule-of-step s c epoch (Forwarded (decoded bytes c ToCluster)) old tt
  hears-jobs s place.Front c epoch (body.Tag number nodes) old asked = rule-of-step s c epoch (Tagged number nodes) old tt
  hears-jobs s place.Front c epoch body.EndedAck old asked = rule-of-step s c epoch (Acknowledged false) old tt
  hears-jobs s place.Front c epoch body.Given old asked = rule-of-step s c epoch (Acknowledged true) old tt
  hears-jobs s (Node from) c epoch (body.Fetch r path) old asked = fetched-jobs s from c epoch r path (k.files path) old (asked from r path refl refl)
  hears-jobs s (Node from) c epoch (body.Content r bytes) old asked = rule-of-step s c epoch (Content from r) old tt
  hears-jobs s _ c epoch _ old asked = old-jobs s s old

  -- ---- the disk

  without-jobs : (jobs : List Job) (j : ℕ) → Each (λ job. Has job disk) jobs → Each (λ job. Has job disk) (without_job jobs j)
  without-jobs jobs j old =
      let P : Job → Type 0 = λ job. Has job disk in
      cond_both (j == 0) jobs (take (j - 1) jobs ++ drop (suc (j - 1)) jobs) (Each P) (λ t. old)
      (λ t. Each-append P (take (j - 1) jobs) (drop (suc (j - 1)) jobs) (each-take P (j - 1) jobs old) (each-drop P (suc (j - 1)) jobs old))

  disk-jobs : (s : NodeState) (j : ℕ) (o : Option Job) → WereThere s → AreOfStep (disk_step k s j o).0
  disk-jobs s j None old = old-jobs s s old
  disk-jobs s j (Some job) old =
      let after : NodeState = completed k s j job in
      let left : WereThere after = without-jobs s.disk j old in
      let read = node_deed k after job.c (node_read (node_env k after job.c job.epoch.0) (node_part after job.c) job.r) in
      let sent = aside after (node_saying (content_sent k job.origin job.c job.epoch.0 job.r job.path ∷ [])) in
      cond_both (job.origin == k.n) read sent (λ (x : NodeState × _). AreOfStep x.0)
      (λ t. rule-of-step after job.c job.epoch.0 (Completed job.r job.path) left tt)
      (λ t. aside-jobs after (node_saying (content_sent k job.origin job.c job.epoch.0 job.r job.path ∷ [])) left tt)

-- its own jobs
all-there : (disk jobs : List Job) → ((job : Job) → Has job jobs → Has job disk) → Each (λ job. Has job disk) jobs
all-there disk [] within = tt
all-there disk (job ∷ jobs) within = (within job (inl refl), all-there disk jobs (λ j h. within j (inr h)))

-- each job behind the step is of it
pub step-jobs : (k : NodeSetting) (s : NodeState) (i : BackIn) → Each (IsOfStep k s.disk i (node_step k s i).0) (node_step k s i).0.disk
step-jobs k s i = by i where
  old : Each (λ job. Has job s.disk) s.disk
  old = all-there s.disk s.disk (λ job h. h)

  by : (i : BackIn) → Each (IsOfStep k s.disk i (node_step k s i).0) (node_step k s i).0.disk
  by (input.Message from bytes) = gets (decoded_message bytes) refl where
    gets : (r : Result Message MsgFault) → decoded_message bytes ≡ r
        → Each (IsOfStep k s.disk (input.Message from bytes) (node_gets k s from r).0) (node_gets k s from r).0.disk
    gets (Err fault) is = old-jobs k s.disk (input.Message from bytes) s s old
    gets (Ok m) is = hears-jobs k s.disk (input.Message from bytes) s from m.c m.epoch.0 m.body old
        (λ n r path at its.
        let job : Job = record { origin = n; c = m.c; epoch = record { 0 = m.epoch.0 }; r = r; path = path } in
        subst (λ (p : Place). IsFetched (input.Message p bytes) job) (sym at)
        (refl, is ∙ ap (λ (b : Body). Ok (record { c = m.c; epoch = record { 0 = m.epoch.0 }; body = b })) its))
  by (input.Timer c) = rule-of-step k s.disk (input.Timer c) s c (node_epoch_at s c) Fires old
      (λ row found. sym (ap (λ (o : Option BackRow). elim o as (λ o. ℕ) [ None ↦ 0 | Some r ↦ r.epoch.0 ]) found))
  by (input.Disk j) = disk-jobs k s.disk (input.Disk j) s j (job_at s.disk j) old
