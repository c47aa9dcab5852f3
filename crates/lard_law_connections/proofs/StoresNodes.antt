-- What a node's step makes of its disk and its cache, and what it tells of them.
use Rattle.std.proofs.Common.{◌≡◌, ℕ, ◌==◌, Bool, true, false, List, [], ◌∷◌, ◌++◌, is_some, Option, Some, None, Result, Ok, Err, refl, sym, ap, append-nil}
use Rattle.lard_law_view.specs.Prelude.{Acknowledged, BackIn, BackRow, Body, Completed, Content, FilesAt, Fires, Forwarded, Front, Job, Message, MsgFault, Node, NodeDeed, NodeGets, NodeSetting, NodeState, NodeTurn, Offered, Out, Place, Recency, Tagged, TimerKind, ToCluster, aside, completed, content_sent, decoded, decoded_message, disk_step, fetched, fetched_file, has_path, hits, is_for, job_at, kind_change, node_armed, node_brought, node_deed, node_env, node_epoch_at, node_gets, node_hears, node_part, node_read, node_rule, node_saying, node_step, nothing_done, timer_kinds, with_first}
use Rattle.std.proofs.lemmas.Bool.{cond_both}
use Rattle.std.specs.List.{flat_map, list_any}
use Rattle.lard_law_connections.proofs.StoresAsides.{IsAside}
use Rattle.lard_law_connections.proofs.StoresNotes.{Tells}
use Rattle.lard_law_connections.proofs.StoresTurns.{DeedTells, nothing-told, rule-deed}
use Rattle.lard_history.proofs.Each.{Each, Each-append}
use Rattle.lard_journal.specs.declared.rec.Rec.TheVariants as rec
use Rattle.lard_message.specs.declared.message.Body.TheVariants as body
use Rattle.lard_rules.specs.declared.node.BackIn.TheVariants as back
use Rattle.lard_rules.proofs.NodeCases.{IsOfItsEpoch}
use Rattle.lard_rules.specs.Node.{Drops, Says, Does}

-- Node n, which had this cache and these jobs, is so now and did this: it was given the jobs that it notes, and its cache has the
-- paths in front that it notes.
pub record Moves (n : ℕ) (files : FilesAt) (cache : Recency) (disk : List Job) (t : NodeState) (o : Out) : Type 0 where
  pub jobs : List Job
  pub disk_is : t.disk ≡ disk ++ jobs
  pub cache_is : t.cache ≡ hits o.notes cache
  pub notes : Tells n files (has_path cache.entries) o.notes jobs
  pub gave : Each IsAside o.gave
  pub timers : Each IsAside o.timers

-- ---- the records of timers

one-aside : (place : Place) (c : ℕ) (kind : TimerKind) (was is : Bool) → Each IsAside (kind_change place c kind was is)
one-aside place c kind false false = tt
one-aside place c kind false true = (tt, tt)
one-aside place c kind true false = (tt, tt)
one-aside place c kind true true = tt

timers-aside : (place : Place) (c : ℕ) (was is : TimerKind → Bool) (kinds : List TimerKind) → Each IsAside (flat_map (λ kind. kind_change place c kind (was kind) (is kind)) kinds)
timers-aside place c was is [] = tt
timers-aside place c was is (kind ∷ kinds) =
    Each-append IsAside (kind_change place c kind (was kind) (is kind)) (flat_map (λ kind. kind_change place c kind (was kind) (is kind)) kinds) (one-aside place c kind (was kind) (is kind)) (timers-aside place c was is kinds)

-- ---- a node whose rules rest on k

module _ (k : NodeSetting) where
  -- what is so of a step from this state
  abbrev pub MovesFrom : NodeState → NodeState × Out → Type 0
  MovesFrom s x = Moves k.n k.files s.cache s.disk x.0 x.1

  stays : (s : NodeState) → MovesFrom s (s, nothing_done)
  stays s = record { jobs = []; disk_is = sym (append-nil s.disk); cache_is = refl; notes = nothing-told k.n k.files (has_path s.cache.entries); gave = tt; timers = tt }

  aside-moves : (s : NodeState) (t : NodeTurn) → Tells k.n k.files (has_path s.cache.entries) t.notes t.jobs → MovesFrom s (aside s t)
  aside-moves s t tells = record { jobs = t.jobs; disk_is = refl; cache_is = refl; notes = tells; gave = tt; timers = tt }

  deed-moves : (s : NodeState) (c : ℕ) (d : NodeDeed) → DeedTells k.n k.files (has_path s.cache.entries) d → MovesFrom s (node_deed k s c d)
  deed-moves s c Drops h = stays s
  deed-moves s c (Says messages) h = aside-moves s (node_saying messages) (nothing-told k.n k.files (has_path s.cache.entries))
  deed-moves s c (Does x) h = record {
    jobs = x.1.jobs;
    disk_is = refl;
    cache_is = refl;
    notes = h.notes;
    gave = h.gave;
    timers = timers-aside (Node k.n) c (node_armed (node_part s c)) (node_armed x.0) timer_kinds;
  }

  rule-moves : (s : NodeState) (c epoch : ℕ) (g : NodeGets) → IsOfItsEpoch (node_env k s c epoch) (node_part s c) g
      → MovesFrom s (node_deed k s c (node_rule (node_env k s c epoch) (node_part s c) g))
  rule-moves s c epoch g at = deed-moves s c (node_rule (node_env k s c epoch) (node_part s c) g) (rule-deed (node_env k s c epoch) (node_part s c) g at)

  -- ---- messages

  fetched-moves : (s : NodeState) (from c epoch r : ℕ) (path : List ℕ) (o : Option (List ℕ)) → k.files path ≡ o → MovesFrom s (fetched k s from c epoch r path o)
  fetched-moves s from c epoch r path None is = stays s
  fetched-moves s from c epoch r path (Some bytes) is = cond_both (list_any (is_for c epoch r) s.disk) (s, nothing_done) (aside s (fetched_file k s from c epoch r path)) (MovesFrom s)
      (λ t. stays s)
      (λ t. aside-moves s (fetched_file k s from c epoch r path)
      (cond_both (has_path s.cache.entries path) _ _ (λ (u : NodeTurn). Tells k.n k.files (has_path s.cache.entries) u.notes u.jobs)
      (λ there. record { told = refl; each = ((refl, there), tt) })
      (λ there. record { told = refl; each = ((refl, there, ap is_some is), tt) })))

  hears-moves : (s : NodeState) (from : Place) (c epoch : ℕ) (b : Body) → MovesFrom s (node_hears k s from c epoch b)
  hears-moves s Front c epoch (body.Offer parts) = rule-moves s c epoch (Offered parts) tt
  hears-moves s Front c epoch (body.Forward bytes) = rule-moves s c epoch (Forwarded (decoded bytes c ToCluster)) tt
  hears-moves s Front c epoch (body.Tag number nodes) = rule-moves s c epoch (Tagged number nodes) tt
  hears-moves s Front c epoch body.EndedAck = rule-moves s c epoch (Acknowledged false) tt
  hears-moves s Front c epoch body.Given = rule-moves s c epoch (Acknowledged true) tt
  hears-moves s (Node from) c epoch (body.Fetch r path) = fetched-moves s from c epoch r path (k.files path) refl
  hears-moves s (Node from) c epoch (body.Content r bytes) = rule-moves s c epoch (Content from r) tt
  hears-moves s _ c epoch _ = stays s

  gets-moves : (s : NodeState) (from : Place) (r : Result Message MsgFault) → MovesFrom s (node_gets k s from r)
  gets-moves s from (Err fault) = stays s
  gets-moves s from (Ok m) = hears-moves s from m.c m.epoch.0 m.body

  -- ---- the disk

  brought-moves : (s : NodeState) (job : Job) → MovesFrom s (node_brought k s job)
  brought-moves s job = cond_both (job.origin == k.n) (node_deed k s job.c (node_read (node_env k s job.c job.epoch.0) (node_part s job.c) job.r))
      (aside s (node_saying (content_sent k job.origin job.c job.epoch.0 job.r job.path ∷ []))) (MovesFrom s)
      (λ t. rule-moves s job.c job.epoch.0 (Completed job.r job.path) tt)
      (λ t. aside-moves s (node_saying (content_sent k job.origin job.c job.epoch.0 job.r job.path ∷ [])) (nothing-told k.n k.files (has_path s.cache.entries)))

  -- no job is there that this would complete
  abbrev pub IsIdle : NodeState → BackIn → Type 0
  IsIdle s (back.Disk j) = job_at s.disk j ≡ None
  IsIdle s _ = Unit {0}

  -- The node moves on; or it completes this job of its disk, tells that first, and moves on from there.
  pub data NodeMoves (s : NodeState) : BackIn → NodeState × Out → Type 0 where
    Plain : {i : BackIn} {x : NodeState × Out} → IsIdle s i → MovesFrom s x → NodeMoves s i x
    Reads : {j : ℕ} {job : Job} {x : NodeState × Out} → job_at s.disk j ≡ Some job → MovesFrom (completed k s j job) x
        → NodeMoves s (back.Disk j) (with_first (rec.Read k.n job.origin job.c job.r job.path) x)

  disk-moves : (s : NodeState) (j : ℕ) (o : Option Job) → job_at s.disk j ≡ o → NodeMoves s (back.Disk j) (disk_step k s j o)
  disk-moves s j None is = Plain is (stays s)
  disk-moves s j (Some job) is = Reads is (brought-moves (completed k s j job) job)

  pub step-moves : (s : NodeState) (i : BackIn) → NodeMoves s i (node_step k s i)
  step-moves s (back.Message from bytes) = Plain tt (gets-moves s from (decoded_message bytes))
  step-moves s (back.Timer c) = Plain tt (rule-moves s c (node_epoch_at s c) Fires
      (λ row found. sym (ap (λ (o : Option BackRow). elim o as (λ o. ℕ) [ None ↦ 0 | Some r ↦ r.epoch.0 ]) found)))
  step-moves s (back.Disk j) = disk-moves s j (job_at s.disk j) refl
