-- A step gives the disk of a node eight jobs at most: one for the first request of a batch that an Offer brings, and one for each node
-- of a Tag.
use Rattle.std.proofs.Common.{sym, ◌≡◌, ℕ, suc, ◌+◌, ◌-◌, ◌≤◌, ◌==◌, ◌&&◌, nat_le, nat_lt, List, [], ◌∷◌, ◌++◌, length, take, drop, Bool, true, false, cond, not, Option, Some, None, Result, Ok, Err, refl, ap, arith, length-append, length-drop}
use Rattle.std.proofs.lemmas.Bool.{and_parts, cond_both}
use Rattle.std.proofs.lemmas.Bool.Decides.{nat_tests}
use Rattle.std.proofs.lemmas.List.{length-take}
use Rattle.std.proofs.lemmas.Option.{slice_get_within}
use Rattle.std.specs.List.{list_any}
use Rattle.lard_law_view.specs.Prelude.{Acknowledged, BackIn, BackRow, Body, Completed, Content, Fires, Forwarded, Job, Kind, Message, MsgFault, NodeDeed, NodeEnv, NodeGets, NodePart, NodeSetting, NodeState, NodeTurn, Offered, Out, Place, Progress, Tagged, ToCluster, Verdict, Work, aside, batch_of, body_at, bytes_used, came_for, come_on, come_progress, completed, connection_at, content_sent, decoded, decoded_message, disk_step, epoch_at as message_epoch, fetched, fetched_file, goes_on, has_path, is_for, is_of_table, is_version, job_at, kind_named, length_at, node_begins, node_brought, node_deed, node_env, node_epoch_at, node_gets, node_hears, node_part, node_read, node_rule, node_saying, node_step, nothing_done, number_byte, on_segment, own_job, read_progress, reads_batch, state_of, tagged, version_at, with_body, with_kind, without, without_job, work_of}
use Rattle.lard_base.specs.declared.ids.TheConstants.ConnId.{MAX}
use Rattle.lard_base.specs.declared.place.Place.TheVariants as place
use Rattle.lard_base.specs.declared.place.TimerKind.TheVariants as kind
use Rattle.lard_journal.specs.declared.rec.Rec.TheVariants as rec
use Rattle.lard_message.specs.declared.fault.MsgFault.TheVariants as fault
use Rattle.lard_message.specs.declared.message.Body.TheVariants as body
use Rattle.lard_rules.specs.declared.node.BackIn.TheVariants as input
use Rattle.lard_rules.proofs.NodeCases.{IsOfItsEpoch, KeptByNode, Turned, node-keeps}
use Rattle.lard_rules.specs.Node.{Drops, Does, Says}
use Rattle.lard_rules.proofs.StayWalking.{KeptByReads, KeptByStarts, state-in, tagged-in, these-in}
use Rattle.lard_rules.proofs.StayKeeping.{turning-keeps}

-- ---- a Tag is for eight requests at most

abbrev TagsFew : Body → Type 0
TagsFew (body.Tag number nodes) = length nodes ≤ 8
TagsFew _ = Unit {0}

table-few : (b : Body) → is_of_table b ≡ true → TagsFew b
table-few (body.Tag number nodes) is = let most = (and_parts (nat_le 1 (length nodes)) (nat_le (length nodes) 8) is).1 in grind (arith, nat_tests, most)
table-few _ is = tt

abbrev ReadsFew : Result Message MsgFault → Type 0
ReadsFew (Err fault) = Unit {0}
ReadsFew (Ok m) = TagsFew m.body

body-few : (c epoch : ℕ) (o : Option (Body × List ℕ)) → ReadsFew (with_body c epoch o)
body-few c epoch None = tt
body-few c epoch (Some (b, rest)) = cond_both (length rest == 0 && is_of_table b) (Ok (record { c = c; epoch = record { 0 = epoch }; body = b })) (Err fault.Field) ReadsFew
    (λ t. table-few b (and_parts (length rest == 0) (is_of_table b) t).1) (λ t. tt)

-- of two answers by a test, the first is a fault
else-few : (b : Bool) (f : MsgFault) (x : Result Message MsgFault) → ReadsFew x → ReadsFew (cond b (Err f) x)
else-few true f x h = tt
else-few false f x h = h

kind-few : (bytes : List ℕ) (o : Option Kind) → ReadsFew (with_kind bytes o)
kind-few bytes None = tt
kind-few bytes (Some name) =
    let short : Bool = nat_lt (length bytes) (10 + length_at bytes) in
    let long : Bool = nat_lt (10 + length_at bytes) (length bytes) in
    let unnamed : Bool = not (nat_le 1 (connection_at bytes) && nat_le (connection_at bytes) MAX) in
    let whole : Result Message MsgFault = with_body (connection_at bytes) (message_epoch bytes) (body_at name (drop 10 bytes)) in
    let named : Result Message MsgFault = cond unnamed (Err fault.Field) whole in
    else-few short fault.Length (cond long (Err fault.Trailing) named) (else-few long fault.Trailing named (else-few unnamed fault.Field whole (body-few (connection_at bytes) (message_epoch bytes) (body_at name (drop 10 bytes)))))

decoded-few : (bytes : List ℕ) → ReadsFew (decoded_message bytes)
unfolding decoded_message
decoded-few bytes =
    let old : Bool = not (is_version (version_at bytes)) in
    let rest : Result Message MsgFault = with_kind bytes (kind_named (version_at bytes) (number_byte bytes)) in
    else-few (nat_lt (length bytes) 10) fault.Short (cond old (Err fault.Version) rest) (else-few old fault.Version rest (kind-few bytes (kind_named (version_at bytes) (number_byte bytes))))

-- ---- what is in hand

module _ (env : NodeEnv) where
  -- so many jobs at most, and one less where a request is to start
  abbrev Room : ℕ → Bool → List Job → Type 0
  Room n true jobs = length jobs + 1 ≤ n
  Room n false jobs = length jobs ≤ n

  room-few : (n : ℕ) (here : Bool) (jobs : List Job) → Room n here jobs → length jobs ≤ n
  room-few n true jobs h = omega (arith, h)
  room-few n false jobs h = h

  abbrev Few : ℕ → Work → Type 0
  Few n w = length w.jobs ≤ n

  -- of the requests of a batch one is started at most
  by_reads : (n size : ℕ) → KeptByReads env size (λ here vs w. Room n here w.jobs) (Few n)
  by_reads n size = record {
    hits = λ r path v vs w good is t h. omega (arith, h);
    queues = λ r path v vs w good is f h. let more = length-append w.jobs (own_job env r path ∷ []) in omega (arith, h, more);
    enters = λ here v vs w only h. h;
    plain = λ here w none h. room-few n here w.jobs h;
    asks = λ here path paths w e h. room-few n here w.jobs h;
  }

  first-few : (n : ℕ) (w : Work) → w.batch ≡ [] → length w.jobs + 1 ≤ n → Few n (state_of (reads_batch env true w))
  first-few n w none h =
      let vs : List Verdict = batch_of 8 w.service.block.recv.unread in
      state-in (Few n) (reads_batch env true w)
      (these-in env (λ here vs w. Room n here w.jobs) (Few n) (Few n) true (bytes_used 8 w.service.block.recv.unread) w vs (by_reads n (length vs)) none (λ e. omega (arith, h)) (λ v us e. h))

  -- turn by turn no job is queued
  goes-few : (n : ℕ) (w : Work) → Few n w → Few n (goes_on env w)
  goes-few n w few = turning-keeps env (Few n) (record { enters = λ v w h. h; asks = λ size path paths w e h. h; takes = λ used w none h. h; ends = λ w none h. h; serves = λ way e rest w may first is h. h }) w few

  -- of a Tag each that starts takes one of the nodes that are left
  by_starts : (n : ℕ) (nodes : List ℕ) → KeptByStarts env nodes (λ at es w. length w.jobs + (length nodes - at) ≤ n)
  by_starts n nodes = record {
    stays = λ at r e es w is named h. h;
    short = λ at r path e es w is named none h. h;
    hits = λ at node r path e es w is named there t c h. omega (arith, h);
    queues = λ at node r path e es w is named there t c h. let within = slice_get_within nodes at node there in let more = length-append w.jobs (own_job env r path ∷ []) in omega (arith, h, more, within);
    wants = λ at node r path e es w is named there f h. omega (arith, h);
  }

  starts-few : (n : ℕ) (nodes : List ℕ) (w : Work) → length w.jobs + length nodes ≤ n → Few n (tagged env nodes w)
  starts-few n nodes w few = let all = (tagged-in env nodes (λ at es w. length w.jobs + (length nodes - at) ≤ n) (by_starts n nodes) w (omega (arith, few))).1 in omega (arith, all)

  -- ---- the rules

  -- what a rule comes to queues eight jobs at most
  abbrev QueuesFew : NodeDeed → Type 0
  QueuesFew Drops = Unit {0}
  QueuesFew (Says messages) = Unit {0}
  QueuesFew (Does x) = length x.1.jobs ≤ 8

  -- what is in hand goes on, with so few jobs
  on-few : (w : Work) → length w.jobs ≤ 8 → length (goes_on env w).jobs ≤ 8
  on-few w few = goes-few 8 w few

  came-same : (f : Progress → Progress) (r : ℕ) (w : Work) → (came_for f r w).jobs ≡ w.jobs
  came-same f r w = cond_both (nat_lt w.service.count r) (record w { batch = come_on f (r - (w.service.count + 1)) w.batch }) w (λ (y : Work). y.jobs ≡ w.jobs) (λ t. refl) (λ t. refl)

  came-few : (f : Progress → Progress) (r : ℕ) (w : Work) → length w.jobs ≤ 8 → length (goes_on env (came_for f r w)).jobs ≤ 8
  came-few f r w few = on-few (came_for f r w) (let same : length (came_for f r w).jobs ≡ length w.jobs = ap length (came-same f r w) in omega (arith, same, few))

  abbrev MayQueue : NodeGets → Type 0
  MayQueue (Tagged number nodes) = length nodes ≤ 8
  MayQueue _ = Unit {0}

  -- it rests with these jobs, or goes back with them
  turns-few : (q : NodePart) (w : Work) → length w.jobs ≤ 8 → Turned QueuesFew env q [] w
  turns-few q w few = (λ rests. few, λ back. few)

  rules_few : (p : NodePart) → KeptByNode env p MayQueue QueuesFew
  rules_few p = record {
    drops = tt;
    hears = λ said b s m at. turns-few p (goes_on env (work_of (on_segment b said).1 s)) (on-few (work_of (on_segment b said).1 s) (omega arith));
    tags = λ number nodes b s m at asked same count. turns-few (record p { kept = without kind.Ask 0 p.kept }) (goes_on env (tagged env nodes (work_of b s)))
        (on-few (tagged env nodes (work_of b s)) (starts-few 8 nodes (work_of b s) (omega (arith, m))));
    comes = λ from r b s m at wanted. turns-few (record p { fetches = without kind.Fetch r p.fetches }) (goes_on env (came_for (come_progress from) r (work_of b s)))
        (came-few (come_progress from) r (work_of b s) (omega arith));
    reads = λ r path b s m at. turns-few p (goes_on env (came_for read_progress r (work_of b s))) (came-few read_progress r (work_of b s) (omega arith));
    begins = λ parts m new may. on-few (state_of (reads_batch env true (node_begins env parts))) (first-few 8 (node_begins env parts) refl (omega arith));
    takes_again = λ parts m again. tt;
    refuses = λ parts m is. omega arith;
    fires = λ b s m at. omega arith;
    resends = λ m none. tt;
    ends = λ back m told was. omega arith;
    leaves = λ b s m at back. omega arith;
  }

  rule-few : (p : NodePart) (g : NodeGets) → IsOfItsEpoch env p g → MayQueue g → QueuesFew (node_rule env p g)
  rule-few p g at m = node-keeps env p MayQueue QueuesFew (rules_few p) g at m

-- ---- a node's step

-- so many jobs more, at most
abbrev pub GainsFew : List Job → List Job → Type 0
GainsFew old new = length new ≤ length old + 8

module _ (k : NodeSetting) where
  still-gains : (jobs : List Job) → GainsFew jobs jobs
  still-gains jobs = omega arith

  deed-gains : (env : NodeEnv) (s : NodeState) (c : ℕ) (d : NodeDeed) → QueuesFew env d → GainsFew s.disk (node_deed k s c d).0.disk
  deed-gains env s c Drops few = omega arith
  deed-gains env s c (Says messages) few = let more = length-append s.disk [] in omega (arith, more)
  deed-gains env s c (Does x) few = let more = length-append s.disk x.1.jobs in omega (arith, more, few)

  rule-gains : (s : NodeState) (c epoch : ℕ) (g : NodeGets) → IsOfItsEpoch (node_env k s c epoch) (node_part s c) g → MayQueue (node_env k s c epoch) g
      → GainsFew s.disk (node_deed k s c (node_rule (node_env k s c epoch) (node_part s c) g)).0.disk
  rule-gains s c epoch g at m = deed-gains (node_env k s c epoch) s c (node_rule (node_env k s c epoch) (node_part s c) g) (rule-few (node_env k s c epoch) (node_part s c) g at m)

  file-gains : (s : NodeState) (from c epoch r : ℕ) (path : List ℕ) → GainsFew s.disk (aside s (fetched_file k s from c epoch r path)).0.disk
  file-gains s from c epoch r path =
      let job : Job = record { origin = from; c = c; epoch = record { 0 = epoch }; r = r; path = path } in
      let sent : NodeTurn = record (node_saying (content_sent k from c epoch r path ∷ [])) { notes = rec.Hit k.n path ∷ [] } in
      let queued : NodeTurn = record (node_saying []) { notes = rec.Queued k.n from c r path ∷ []; jobs = job ∷ [] } in
      let none = length-append s.disk [] in
      let one = length-append s.disk (job ∷ []) in
      cond_both (has_path s.cache.entries path) sent queued (λ (t : NodeTurn). GainsFew s.disk (aside s t).0.disk) (λ t. omega (arith, none)) (λ t. omega (arith, one))

  fetched-gains : (s : NodeState) (from c epoch r : ℕ) (path : List ℕ) (o : Option (List ℕ)) → GainsFew s.disk (fetched k s from c epoch r path o).0.disk
  fetched-gains s from c epoch r path None = omega arith
  fetched-gains s from c epoch r path (Some bytes) =
      cond_both (list_any (is_for c epoch r) s.disk) (s, nothing_done) (aside s (fetched_file k s from c epoch r path)) (λ (x : NodeState × Out). GainsFew s.disk x.0.disk) (λ t. omega arith) (λ t. file-gains s from c epoch r path)

  hears-gains : (s : NodeState) (from : Place) (c epoch : ℕ) (b : Body) → TagsFew b → GainsFew s.disk (node_hears k s from c epoch b).0.disk
  hears-gains s place.Front c epoch (body.Offer parts) few = rule-gains s c epoch (Offered parts) tt tt
  hears-gains s place.Front c epoch (body.Forward bytes) few = rule-gains s c epoch (Forwarded (decoded bytes c ToCluster)) tt tt
  hears-gains s place.Front c epoch (body.Tag number nodes) few = rule-gains s c epoch (Tagged number nodes) tt few
  hears-gains s place.Front c epoch body.EndedAck few = rule-gains s c epoch (Acknowledged false) tt tt
  hears-gains s place.Front c epoch body.Given few = rule-gains s c epoch (Acknowledged true) tt tt
  hears-gains s (place.Node from) c epoch (body.Fetch r path) few = fetched-gains s from c epoch r path (k.files path)
  hears-gains s (place.Node from) c epoch (body.Content r bytes) few = rule-gains s c epoch (Content from r) tt tt
  hears-gains s _ c epoch _ few = still-gains s.disk

  gets-gains : (s : NodeState) (from : Place) (given : Result Message MsgFault) → ReadsFew given → GainsFew s.disk (node_gets k s from given).0.disk
  gets-gains s from (Err fault) few = still-gains s.disk
  gets-gains s from (Ok m) few = hears-gains s from m.c m.epoch.0 m.body few

  -- a completed job is taken out
  without-less : (jobs : List Job) (j : ℕ) → length (without_job jobs j) ≤ length jobs
  without-less jobs j =
      let i : ℕ = j - 1 in
      let all = length-append (take i jobs) (drop (suc i) jobs) in
      let first = length-take i jobs in
      let last = length-drop (suc i) jobs in
      cond_both (j == 0) jobs (take i jobs ++ drop (suc i) jobs) (λ (js : List Job). length js ≤ length jobs) (λ t. omega arith) (λ t. omega (arith, all, first, last))

  brought-gains : (s : NodeState) (job : Job) → GainsFew s.disk (node_brought k s job).0.disk
  brought-gains s job =
      let env = node_env k s job.c job.epoch.0 in
      let none = length-append s.disk [] in
      let read : NodeState × Out = node_deed k s job.c (node_read env (node_part s job.c) job.r) in
      let sent : NodeState × Out = aside s (node_saying (content_sent k job.origin job.c job.epoch.0 job.r job.path ∷ [])) in
      cond_both (job.origin == k.n) read sent (λ (x : NodeState × Out). GainsFew s.disk x.0.disk)
      (λ t. rule-gains s job.c job.epoch.0 (Completed job.r job.path) tt tt)
      (λ t. omega (arith, none))

  disk-gains : (s : NodeState) (j : ℕ) (o : Option Job) → GainsFew s.disk (disk_step k s j o).0.disk
  disk-gains s j None = still-gains s.disk
  disk-gains s j (Some job) = let less = without-less s.disk j in let more = brought-gains (completed k s j job) job in omega (arith, less, more)

  pub step-gains : (s : NodeState) (i : BackIn) → GainsFew s.disk (node_step k s i).0.disk
  step-gains s (input.Message from bytes) = gets-gains s from (decoded_message bytes) (decoded-few bytes)
  step-gains s (input.Timer c) = rule-gains s c (node_epoch_at s c) Fires (λ row found. sym (ap (λ (o : Option BackRow). elim o [ None ↦ 0 | Some row ↦ row.epoch.0 ]) found)) tt
  step-gains s (input.Disk j) = disk-gains s j (job_at s.disk j)
