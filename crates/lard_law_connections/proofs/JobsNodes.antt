-- A node's step leaves what it reads to jobs of its disk.
use Rattle.std.proofs.Common.{◌≡◌, ◌≢◌, ◌⊎◌, ◌≤◌, ◌<◌, ℕ, ◌+◌, ◌-◌, ◌==◌, ◌&&◌, nat_lt, Bool, true, false, cond, List, [], ◌∷◌, ◌++◌, Option, Some, None, Result, Ok, Err, inl, inr, ⊎_elim, refl, sym, ap, subst, arith, eqb-true}
use Rattle.std.proofs.lemmas.Bool.{and_parts, both_ways, cond_both, ltb-false, ltb-true}
use Rattle.std.specs.List.{list_any}
use Rattle.lard_law_view.specs.Prelude.{Acknowledged, BackConn, BackIn, BackRow, Body, Completed, Content, ControlBlock, Ending, Entry, Fires, Forwarded, Front, Has, Job, Message, MsgFault, Node, NodeDeed, NodeEnv, NodeGets, NodePart, NodeSetting, NodeState, NodeTurn, Offered, Out, Place, Service, Stay, Tagged, ToCluster, Work, after_timer, aside, back_held, both_of, came_for, come_on, come_progress, completed, content_sent, decoded, decoded_message, disk_step, fetched, fetched_file, gives_back, goes_on, gone, here, is_for, job_at, kept_after, may_give_back, node_begins, node_brought, node_deed, node_env, node_epoch_at, node_gets, node_hears, node_part, node_put, node_read, node_read_by, node_rule, node_saying, node_step, on_segment, read_progress, reads_batch, serving, serving_ready_of, serving_settled, spoken, state_of, staying, stores_told, tagged, taken_sent, timed, with_work, without, without_job, work_of}
use Rattle.lard_base.specs.declared.place.TimerKind.TheVariants as timer
use Rattle.lard_law_connections.proofs.AwaitsNodes.{HasServed, settled-served, spoken-served}
use Rattle.lard_law_connections.specs.Jobs.{BatchReads, HasJob, NodeReads, PartReads, RowReads, StageReads}
use Rattle.lard_law_connections.proofs.JobsBatches.{But, job-before, left-or-it, reads-behind, reads-come, reads-done, reads-more, row-more, stage-more}
use Rattle.lard_law_connections.proofs.JobsWorks.{Job_for, Reads, batch-reads, goes-read, tagged-reads}
use Rattle.lard_law_view.proofs.Parts.{node-elsewhere, node-here}
use Rattle.lard_handoff_back.specs.declared.row.BackConn.TheVariants as back
use Rattle.lard_history.proofs.Seeing.{by_number, same_number}
use Rattle.lard_message.specs.declared.message.Body.TheVariants as body
use Rattle.lard_rules.proofs.NodeCases.{IsHereWith, IsOfItsEpoch, KeptByNode, Turned, node-keeps, of-here, where-here}
use Rattle.lard_rules.specs.declared.node.BackIn.TheVariants as input
use Rattle.lard_rules.specs.Node.{Drops, Says, Does}
use Rattle.lard_rules.specs.declared.places.Ending.TheVariants as ending

-- A rule of connection c at node n, which has these jobs, leaves what is read to the jobs that there are then.
abbrev pub DeedReads : ℕ → ℕ → List Job → Option Stay → Option BackRow → NodeDeed → Type 0
DeedReads n c disk stay row Drops = RowReads (HasJob n c disk) stay row
DeedReads n c disk stay row (Says messages) = RowReads (HasJob n c disk) stay row
DeedReads n c disk stay row (Does given) = PartReads n c (disk ++ given.1.jobs) given.0

-- all that comes but a completed job
abbrev IsNoJob : NodeGets → Type 0
IsNoJob (Completed r path) = ⊥
IsNoJob _ = Unit {0}

module _ (env : NodeEnv) (disk : List Job) (p : NodePart) where
  abbrev Jobs : ℕ → ℕ → Type 0
  Jobs = HasJob env.n env.serve.c disk

  abbrev IsDeed : NodeDeed → Type 0
  IsDeed d = DeedReads env.n env.serve.c disk p.stay p.row d

  after-reads : (part : NodePart) (w : Work) (e : Ending) → HasServed w.service.count e → Reads env disk w → PartReads env.n env.serve.c (disk ++ w.jobs) (kept_after env part w e)
  after-reads part w (ending.Here b count) served h = subst (λ (k : ℕ). BatchReads (Job_for env disk w.jobs) (k + 1) w.batch) (sym served) h
  after-reads part w (ending.Over last) served h = tt

  goes-deed : (part : NodePart) (before : List (Place × List ℕ)) (w : Work) → Reads env disk w → IsDeed (with_work env part before (goes_on env w))
  goes-deed part before w h =
      let done : Work = goes_on env w in
      after-reads part done (serving_settled env.serve done.service).0 (settled-served env.serve done.service) (goes-read env disk w h)

  -- and where it goes back nothing is read any more
  goes-turned : (part : NodePart) (before : List (Place × List ℕ)) (w : Work) → Reads env disk w → Turned IsDeed env part before (goes_on env w)
  goes-turned part before w h = (λ rests. goes-deed part before w h, λ back. tt)

  in-hand : (b : ControlBlock) (s : Stay) → BatchReads (Jobs env.epoch) (s.served + 1) s.batch → Reads env disk (work_of b s)
  in-hand b s h = reads-more (Jobs env.epoch) (Job_for env disk []) (s.served + 1) s.batch (λ i job. job-before env.n env.serve.c env.epoch i disk [] job) h

  -- ---- rules, where all that is read is a job: all but that of a completed one

  module _ (h : PartReads env.n env.serve.c disk p) where
    -- what is in hand of the stay that is here
    begun : (b d : ControlBlock) (s : Stay) → IsHereWith env.epoch p b s → Reads env disk (work_of d s)
    begun b d s at = in-hand d s (subst (λ (e : ℕ). BatchReads (Jobs e) (s.served + 1) s.batch) at.epoch_is
        (of-here (λ q o. RowReads Jobs o q) env.epoch p b s at h))

    come-reads : (from r : ℕ) (w : Work) → Reads env disk w → Reads env disk (came_for (come_progress from) r w)
    come-reads from r w was = cond_both (nat_lt w.service.count r) (record w { batch = come_on (come_progress from) (r - (w.service.count + 1)) w.batch }) w
        (Reads env disk)
        (λ less. reads-come (Job_for env disk w.jobs) (w.service.count + 1) (r - (w.service.count + 1)) from w.batch was) (λ less. was)

    gone-reads : (o : Option BackRow) → RowReads (HasJob env.n env.serve.c (disk ++ [])) p.stay (gone o)
    gone-reads None = tt
    gone-reads (Some row) = tt

    rules_read : KeptByNode env p IsNoJob IsDeed
    rules_read = record {
      drops = h;
      hears = λ said b s m at. goes-turned p [] (work_of (on_segment b said).1 s) (begun b (on_segment b said).1 s at);
      tags = λ number nodes b s m at asked same count. goes-turned (record p { kept = without timer.Ask 0 p.kept }) []
          (tagged env nodes (work_of b s)) (tagged-reads env disk nodes (work_of b s) refl (begun b b s at));
      comes = λ from r b s m at wanted. goes-turned (record p { fetches = without timer.Fetch r p.fetches }) []
          (came_for (come_progress from) r (work_of b s)) (come-reads from r (work_of b s) (begun b b s at));
      reads = λ r path b s m at. absurd m;
      begins = λ parts m new may. goes-deed p (taken_sent env) (state_of (reads_batch env true (node_begins env parts)))
          (batch-reads env disk true (node_begins env parts) refl);
      takes_again = λ parts m again. h;
      refuses = λ parts m is. row-more (HasJob env.n env.serve.c disk) (HasJob env.n env.serve.c (disk ++ [])) p.stay p.row (λ e i job. job-before env.n env.serve.c e i disk [] job) h;
      fires = λ b s m at.
          let w : Service = serving (after_timer b) s.served [] in
          let before : List (Place × List ℕ) = serving_ready_of env.serve (after_timer b) (timed b) in
          after-reads p (work_of (after_timer b) s) (spoken env.serve w before).0 (spoken-served env.serve w before) (begun b (after_timer b) s at);
      resends = λ m none. h;
      ends = λ back m told was. gone-reads p.row;
      leaves = λ b s m at back. tt;
    }

    rule-reads : (g : NodeGets) → IsOfItsEpoch env p g → IsNoJob g → IsDeed (node_rule env p g)
    rule-reads g at m = node-keeps env p IsNoJob IsDeed rules_read g at m

  -- ---- the rule of a completed job, which the disk has no more

  module _ (one : ℕ) where
    -- what is read in this epoch is a job, but for that request
    abbrev pub AllBut : ℕ → ℕ → Type 0
    AllBut e r = Jobs e r ⊎ ((e ≡ env.epoch) × (r ≡ one))

    read-by : (b : ControlBlock) (s : Stay) → BatchReads (But (Jobs env.epoch) one) (s.served + 1) s.batch → Reads env disk (came_for read_progress one (work_of b s))
    read-by b s h =
        let w : Work = work_of b s in
        let more : (es : List Entry) → BatchReads (Jobs env.epoch) (s.served + 1) es → BatchReads (Job_for env disk []) (s.served + 1) es = λ es k. reads-more (Jobs env.epoch) (Job_for env disk []) (s.served + 1) es (λ i job. job-before env.n env.serve.c env.epoch i disk [] job) k in
        cond_both (nat_lt s.served one) (record w { batch = come_on read_progress (one - (s.served + 1)) s.batch }) w (Reads env disk)
        (λ less. let above : s.served < one = ltb-true s.served one less in
        more (come_on read_progress (one - (s.served + 1)) s.batch) (reads-done (Jobs env.epoch) one (s.served + 1) (one - (s.served + 1)) s.batch (omega (arith, above)) h))
        (λ less. let below : one ≤ s.served = ltb-false s.served one less in
        more s.batch (reads-behind (Jobs env.epoch) one (s.served + 1) s.batch (λ i same. omega (arith, same, below)) h))

    -- where it is not here, nothing is left of that request
    none-reads : (e : ℕ) (d : BackConn) (o : Option Stay) → both_of (back_held d) o ≡ None → StageReads (Jobs e) o d
    none-reads e (back.Here b) None none = tt
    none-reads e (back.Here b) (Some s) none = let no : ◌≡◌ {A = Option (ControlBlock × Stay)} (Some (b, s)) None = none in absurd cc
    none-reads e _ o none = tt

    away-reads : (q : Option BackRow) → RowReads AllBut p.stay q → both_of (staying env.epoch q) p.stay ≡ None → RowReads Jobs p.stay q
    away-reads None h none = tt
    away-reads (Some row) h none = go (row.epoch.0 == env.epoch) refl none where
      go : (t : Bool) → (row.epoch.0 == env.epoch) ≡ t → both_of (cond t (back_held row.stage) None) p.stay ≡ None
          → StageReads (Jobs row.epoch.0) p.stay row.stage
      go true e none = none-reads row.epoch.0 row.stage p.stay none
      go false e none = stage-more (AllBut row.epoch.0) (Jobs row.epoch.0) p.stay row.stage
          (λ i k. ⊎_elim (λ (job : Jobs row.epoch.0 i). job)
          (λ (it : (row.epoch.0 ≡ env.epoch) × (i ≡ one)). absurd (both_ways (row.epoch.0 == env.epoch) e (rw it.0 (same_number env.epoch)))) k) h

    but-it : (b : ControlBlock) (s : Stay) → IsHereWith env.epoch p b s → RowReads AllBut p.stay p.row
        → BatchReads (But (Jobs env.epoch) one) (s.served + 1) s.batch
    but-it b s at h = reads-more (AllBut env.epoch) (But (Jobs env.epoch) one) (s.served + 1) s.batch
        (λ i k. ⊎_elim (λ (job : Jobs env.epoch i). inl job) (λ (it : (env.epoch ≡ env.epoch) × (i ≡ one)). inr it.1) k)
        (subst (λ (e : ℕ). BatchReads (AllBut e) (s.served + 1) s.batch) at.epoch_is (of-here (λ q o. RowReads AllBut o q) env.epoch p b s at h))

    pub read-reads : RowReads AllBut p.stay p.row → IsDeed (node_read env p one)
    read-reads h = where-here env.epoch p (λ o. here env.epoch p ≡ o → IsDeed (node_read_by env one p o)) (λ none. away-reads p.row h none)
        (λ b s at is.
        let w : Work = came_for read_progress one (work_of b s) in
        cond_both (may_give_back env (goes_on env w)) (gives_back env p [] (goes_on env w)) (with_work env p [] (goes_on env w)) IsDeed
        (λ back. tt) (λ rests. goes-deed p [] w (read-by b s (but-it b s at h)))) refl

-- ---- a node

-- the jobs that are left once one is completed
left-but-it : (n c j : ℕ) (disk : List Job) (job : Job) (e r : ℕ) → job_at disk j ≡ Some job → HasJob n c disk e r → HasJob n c (without_job disk j) e r ⊎ ((job.origin ≡ n) × (is_for c e r job ≡ true))
left-but-it n c j disk job e r at h = ⊎_elim
    (λ (same : job ≡ h.0). inr (subst (λ (y : Job). (y.origin ≡ n) × (is_for c e r y ≡ true)) (sym same) (h.2, h.3)))
    (λ (left : Has h.0 (without_job disk j)). inl (h.0, left, h.2, h.3))
    (left-or-it disk j job h.0 at h.1)

module _ (k : NodeSetting) where
  more-reads : (s : NodeState) (jobs : List Job) (q : ℕ) (p : NodePart) → PartReads k.n q s.disk p → PartReads k.n q (s.disk ++ jobs) p
  more-reads s jobs q p h = row-more (HasJob k.n q s.disk) (HasJob k.n q (s.disk ++ jobs)) p.stay p.row (λ e i job. job-before k.n q e i s.disk jobs job) h

  aside-reads : (s : NodeState) (t : NodeTurn) → NodeReads k.n s → NodeReads k.n (aside s t).0
  aside-reads s t h q = more-reads s t.jobs q (node_part s q) (h q)

  did-reads : (s : NodeState) (c : ℕ) (p : NodePart) (t : NodeTurn) → ((q : ℕ) → q ≢ c → PartReads k.n q s.disk (node_part s q)) → PartReads k.n c (s.disk ++ t.jobs) p → NodeReads k.n (stores_told (node_put s c p) t)
  did-reads s c p t others mine q = by_number (PartReads k.n q (s.disk ++ t.jobs) (node_part (node_put s c p) q)) q c
      (λ same. subst (λ (d : ℕ). PartReads k.n d (s.disk ++ t.jobs) (node_part (node_put s c p) d)) (sym same) (subst (PartReads k.n c (s.disk ++ t.jobs)) (sym (node-here s c p)) mine))
      (λ other. subst (PartReads k.n q (s.disk ++ t.jobs)) (sym (node-elsewhere s c q p other)) (more-reads s t.jobs q (node_part s q) (others q other)))

  both-read : (s : NodeState) (c : ℕ) → ((q : ℕ) → q ≢ c → PartReads k.n q s.disk (node_part s q)) → PartReads k.n c s.disk (node_part s c) → NodeReads k.n s
  both-read s c others mine q = by_number (PartReads k.n q s.disk (node_part s q)) q c
      (λ same. subst (λ (d : ℕ). PartReads k.n d s.disk (node_part s d)) (sym same) mine) (λ other. others q other)

  deed-reads : (s : NodeState) (c : ℕ) (d : NodeDeed) → ((q : ℕ) → q ≢ c → PartReads k.n q s.disk (node_part s q)) → DeedReads k.n c s.disk (node_part s c).stay (node_part s c).row d → NodeReads k.n (node_deed k s c d).0
  deed-reads s c Drops others h = both-read s c others h
  deed-reads s c (Says messages) others h = aside-reads s (node_saying messages) (both-read s c others h)
  deed-reads s c (Does x) others h = did-reads s c x.0 x.1 others h

  -- whatever comes but a completed job
  node-reads : (s : NodeState) (c epoch : ℕ) (g : NodeGets) → IsOfItsEpoch (node_env k s c epoch) (node_part s c) g → IsNoJob g → NodeReads k.n s
      → NodeReads k.n (node_deed k s c (node_rule (node_env k s c epoch) (node_part s c) g)).0
  node-reads s c epoch g at m h = deed-reads s c (node_rule (node_env k s c epoch) (node_part s c) g) (λ q other. h q)
      (rule-reads (node_env k s c epoch) s.disk (node_part s c) (h c) g at m)

  -- ---- messages

  fetched-reads : (s : NodeState) (from c epoch r : ℕ) (path : List ℕ) (o : Option (List ℕ)) → NodeReads k.n s → NodeReads k.n (fetched k s from c epoch r path o).0
  fetched-reads s from c epoch r path None h = h
  fetched-reads s from c epoch r path (Some bytes) h = cond_both (list_any (is_for c epoch r) s.disk) (s, _) (aside s (fetched_file k s from c epoch r path)) (λ (x : NodeState × Out). NodeReads k.n x.0)
      (λ t. h) (λ t. aside-reads s (fetched_file k s from c epoch r path) h)

  hears-reads : (s : NodeState) (from : Place) (c epoch : ℕ) (b : Body) → NodeReads k.n s → NodeReads k.n (node_hears k s from c epoch b).0
  hears-reads s Front c epoch (body.Offer parts) h = node-reads s c epoch (Offered parts) tt tt h
  hears-reads s Front c epoch (body.Forward bytes) h = node-reads s c epoch (Forwarded (decoded bytes c ToCluster)) tt tt h
  hears-reads s Front c epoch (body.Tag number nodes) h = node-reads s c epoch (Tagged number nodes) tt tt h
  hears-reads s Front c epoch body.EndedAck h = node-reads s c epoch (Acknowledged false) tt tt h
  hears-reads s Front c epoch body.Given h = node-reads s c epoch (Acknowledged true) tt tt h
  hears-reads s (Node from) c epoch (body.Fetch r path) h = fetched-reads s from c epoch r path (k.files path) h
  hears-reads s (Node from) c epoch (body.Content r bytes) h = node-reads s c epoch (Content from r) tt tt h
  hears-reads s _ c epoch _ h = h

  gets-reads : (s : NodeState) (from : Place) (r : Result Message MsgFault) → NodeReads k.n s → NodeReads k.n (node_gets k s from r).0
  gets-reads s from (Err fault) h = h
  gets-reads s from (Ok m) h = hears-reads s from m.c m.epoch.0 m.body h

  -- ---- the disk

  module _ (s : NodeState) (j : ℕ) (job : Job) (at : job_at s.disk j ≡ Some job) (h : NodeReads k.n s) where
    abbrev after : NodeState
    after = completed k s j job

    -- the job was for this request
    names : (q e r : ℕ) → is_for q e r job ≡ true → (job.c ≡ q) × (job.epoch.0 ≡ e) × (job.r ≡ r)
    names q e r is =
        let parts = and_parts (job.c == q && job.epoch.0 == e) (job.r == r) is in
        let two = and_parts (job.c == q) (job.epoch.0 == e) parts.0 in
        (eqb-true job.c q two.0, eqb-true job.epoch.0 e two.1, eqb-true job.r r parts.1)

    left-reads : (q : ℕ) → ((e r : ℕ) → (job.origin ≡ k.n) × (is_for q e r job ≡ true) → ⊥) → PartReads k.n q after.disk (node_part after q)
    left-reads q never = row-more (HasJob k.n q s.disk) (HasJob k.n q after.disk) (node_part s q).stay (node_part s q).row
        (λ e r had. ⊎_elim (λ (left : HasJob k.n q after.disk e r). left) (λ (it : (job.origin ≡ k.n) × (is_for q e r job ≡ true)). absurd (never e r it)) (left-but-it k.n q j s.disk job e r at had))
        (h q)

    abbrev env : NodeEnv
    env = node_env k after job.c job.epoch.0

    mine : RowReads (AllBut env after.disk (node_part after job.c) job.r) (node_part after job.c).stay (node_part after job.c).row
    mine = row-more (HasJob k.n job.c s.disk) (AllBut env after.disk (node_part after job.c) job.r) (node_part s job.c).stay (node_part s job.c).row
        (λ e r had. ⊎_elim (λ (left : HasJob k.n job.c after.disk e r). inl left)
        (λ (it : (job.origin ≡ k.n) × (is_for job.c e r job ≡ true)). let is = names job.c e r it.1 in inr (sym is.1, sym is.2))
        (left-but-it k.n job.c j s.disk job e r at had))
        (h job.c)

    brought-reads : NodeReads k.n (node_brought k after job).0
    brought-reads = cond_both (job.origin == k.n) (node_deed k after job.c (node_read env (node_part after job.c) job.r)) (aside after (node_saying (content_sent k job.origin job.c job.epoch.0 job.r job.path ∷ [])))
        (λ (x : NodeState × Out). NodeReads k.n x.0)
        (λ t. deed-reads after job.c (node_read env (node_part after job.c) job.r) (λ q other. left-reads q (λ e r it. other (sym (names q e r it.1).0)))
        (read-reads env after.disk (node_part after job.c) job.r mine))
        (λ f. aside-reads after (node_saying (content_sent k job.origin job.c job.epoch.0 job.r job.path ∷ [])) (λ q. left-reads q (λ e r it. both_ways (job.origin == k.n) f (rw it.0 (same_number k.n)))))

  disk-reads : (s : NodeState) (j : ℕ) (o : Option Job) → job_at s.disk j ≡ o → NodeReads k.n s → NodeReads k.n (disk_step k s j o).0
  disk-reads s j None at h = h
  disk-reads s j (Some job) at h = brought-reads s j job at h

  -- ---- a step

  row-epoch : (s : NodeState) (c : ℕ) (row : BackRow) → (node_part s c).row ≡ Some row → row.epoch.0 ≡ node_epoch_at s c
  row-epoch s c row is = sym (ap (λ (o : Option BackRow). elim o as (λ o. ℕ) [ None ↦ 0 | Some r ↦ r.epoch.0 ]) is)

  pub step-reads : (s : NodeState) (i : BackIn) → NodeReads k.n s → NodeReads k.n (node_step k s i).0
  step-reads s (input.Message from bytes) h = gets-reads s from (decoded_message bytes) h
  step-reads s (input.Timer c) h = node-reads s c (node_epoch_at s c) Fires (row-epoch s c) tt h
  step-reads s (input.Disk j) h = disk-reads s j (job_at s.disk j) refl h
