-- A step of a node: what it keeps of each connection, its disk, and what it does, is in range.
use Rattle.std.proofs.Common.{◌≡◌, ℕ, suc, ◌+◌, ◌-◌, ◌≤◌, ◌<◌, ◌^◌, ◌==◌, List, [], ◌∷◌, ◌++◌, length, take, drop, true, false, Option, Some, None, IfSome, Ok, Err, Result, refl, sym, ap, subst, arith, length-append, length-drop}
use Rattle.std.proofs.lemmas.Bool.{cond_both}
use Rattle.std.proofs.lemmas.List.{length-take}
use Rattle.std.specs.FinMap as table
use Rattle.std.specs.List.{AllByRecursion, list_any}
use Rattle.lard_law_view.specs.Prelude.{Acknowledged, BackIn, BackRow, Body, Completed, Content, Fires, Forwarded, IsMessage, IsNumber, IsPlaceInRange, IsRecordInRange, Job, Message, MsgFault, NodeDeed, NodeGets, NodeSetting, NodeState, NodeTurn, Offered, Out, Place, Rec, Said, SegFault, Tagged, ToCluster, aside, completed, content_bytes, content_sent, decoded, decoded_message, disk_step, fetched, fetched_file, has_path, is_for, job_at, node_armed, node_brought, node_deed, node_env, node_epoch_at, node_gets, node_hears, node_part, node_put, node_read, node_rule, node_saying, node_step, node_timers, nothing_done, with_first, without_job}
use Rattle.lard_base.specs.declared.place.Place.TheVariants as place
use Rattle.lard_rules.specs.Bounds as cluster
use Rattle.lard_laws.proofs.RecordsFit.{IsTold, told-decoded}
use Rattle.lard_laws.proofs.RecordsFrontStep.{message-number}
use Rattle.lard_laws.proofs.RecordsLetters.{IsLetter, bytes-message, conn-number, forward-read, is-message, offer-read, spells}
use Rattle.lard_laws.proofs.RecordsNamed.{AreNamed, IsNamed, contents, named}
use Rattle.lard_laws.proofs.RecordsNodes as node
use Rattle.lard_laws.proofs.RecordsNodes.{DeedFits, IsEarly, MayFit, NodeKeeps, keeps-wider}
use Rattle.lard_laws.proofs.RecordsOuts.{OutFits, nothing-fits, timers-range, turn-fits}
use Rattle.lard_laws.proofs.RecordsTurns.{IsTurn, sends}
use Rattle.lard_laws.proofs.RecordsWorks.{IsRequest, JobFits, got}
use Rattle.lard_law_view.proofs.Parts.{node-elsewhere, node-here}
use Rattle.lard_history.proofs.Each.{Each, Each-append}
use Rattle.lard_history.proofs.Seeing.{by_number}
use Rattle.lard_journal.specs.declared.rec.Rec.TheVariants as rec
use Rattle.lard_law_view.proofs.ByteLists.{AreBytes, each-drop, each-take}
use Rattle.lard_law_view.proofs.ContentRange.{IsContent}
use Rattle.lard_message.specs.declared.message.Body.TheVariants as body
use Rattle.lard_message.specs.Message as message
use Rattle.lard_rules.specs.declared.node.BackIn.TheVariants as input
use Rattle.lard_rules.proofs.NodeCases.{IsOfItsEpoch}
use Rattle.lard_rules.specs.Node.{Drops, Says, Does}

-- what a node keeps of all connections, and the jobs of its disk
pub record PlaceKeeps (n most : ℕ) (s : NodeState) : Type 0 where
  pub each : (c : ℕ) → NodeKeeps n most (node_part s c)
  pub jobs : Each JobFits s.disk

pub place-wider : (n most more : ℕ) (s : NodeState) → most ≤ more → PlaceKeeps n most s → PlaceKeeps n more s
place-wider n most more s le h = record { each = λ c. keeps-wider n most more (node_part s c) le (h.each c); jobs = h.jobs }

-- what comes to a node is of a place in range, and has bytes
abbrev pub InputFits : BackIn → Type 0
InputFits (input.Message from bytes) = IsPlaceInRange from × AreBytes bytes
InputFits (input.Timer c) = cluster.IsConnNumber c
InputFits (input.Disk j) = Unit {0}

-- each is a number
numbers : (ns : List ℕ) → AllByRecursion message.IsNodeNumber ns → Each IsNumber ns
numbers [] h = tt
numbers (n ∷ ns) h = let most = h.0.1 in (omega (arith, most), numbers ns h.1)

-- what another node is sent is a content, or nothing
content-bytes : (o : Option (List ℕ)) → IfSome o IsContent → IsContent (content_bytes o)
content-bytes None h = (tt, omega arith)
content-bytes (Some bytes) h = h

-- an epoch of a row, or 0
early-at : (o : Option BackRow) → IsEarly o → (elim o [ None ↦ 0 | Some row ↦ row.epoch.0 ]) < 2 ^ 16
early-at None h = omega arith
early-at (Some row) h = h

module _ (k : NodeSetting) (n-is : IsNumber k.n) (small : k.stream ≤ 2 ^ 30) (files : AreNamed k.files) (most : ℕ) (packets : most ≤ 2 ^ 20) where
  abbrev StepFits : NodeState × Out → Type 0
  StepFits x = PlaceKeeps k.n (most + length x.1.messages) x.0 × OutFits (place.Node k.n) x.1

  still : (s : NodeState) → PlaceKeeps k.n most s → StepFits (s, nothing_done)
  still s h = (place-wider k.n most (most + 0) s (omega arith) h, nothing-fits (place.Node k.n))

  -- nothing that is kept of a connection changes
  aside-fits : (s : NodeState) (t : NodeTurn) → PlaceKeeps k.n most s → IsTurn (place.Node k.n) t.notes [] [] t.messages → Each JobFits t.jobs → StepFits (aside s t)
  aside-fits s t h turn jobs = (
    record { each = λ c. keeps-wider k.n most (most + length t.messages) (node_part s c) (omega arith) (h.each c); jobs = Each-append JobFits s.disk t.jobs h.jobs jobs },
    turn-fits (place.Node k.n) t.notes [] [] t.messages [] 0 turn tt,
  )

  -- a rule of connection c
  deed-fits : (s : NodeState) (c : ℕ) (d : NodeDeed) → PlaceKeeps k.n most s → cluster.IsConnNumber c → DeedFits k.n most d → StepFits (node_deed k s c d)
  deed-fits s c Drops h n d = still s h
  deed-fits s c (Says messages) h n d = aside-fits s (node_saying messages) h (sends (place.Node k.n) messages d.0 d.1) tt
  deed-fits s c (Does x) h n d =
      let more : ℕ = most + length x.1.messages in (
        record {
          each = λ q. by_number (NodeKeeps k.n more (node_part (node_put s c x.0) q)) q c
              (λ same. subst (λ (i : ℕ). NodeKeeps k.n more (node_part (node_put s c x.0) i)) (sym same) (subst (NodeKeeps k.n more) (sym (node-here s c x.0)) d.0))
              (λ other. subst (NodeKeeps k.n more) (sym (node-elsewhere s c q x.0 other)) (keeps-wider k.n most more (node_part s q) (omega arith) (h.each q)));
          jobs = Each-append JobFits s.disk x.1.jobs h.jobs d.1.1;
        },
        turn-fits (place.Node k.n) x.1.notes x.1.segments x.1.gave x.1.messages (node_timers k.n c (node_part s c) x.0) x.1.answered d.1.0
            (timers-range (place.Node k.n) c (node_armed (node_part s c)) (node_armed x.0) n-is (conn-number c n)),
      )

  rule-fits : (s : NodeState) → PlaceKeeps k.n most s → length s.disk ≤ 2 ^ 30 → (c epoch : ℕ) → cluster.IsConnNumber c → epoch < 2 ^ 16 → (g : NodeGets)
      → IsOfItsEpoch (node_env k s c epoch) (node_part s c) g → MayFit g
      → StepFits (node_deed k s c (node_rule (node_env k s c epoch) (node_part s c) g))
  rule-fits s h short c epoch n early g at m = deed-fits s c (node_rule (node_env k s c epoch) (node_part s c) g) h n
      (node.rule-fits (node_env k s c epoch) refl n-is n early small files short most packets (node_part s c) (h.each c) g at m)

  forward-fits : (r : Result Said SegFault) → ((said : Said) → r ≡ Ok said → IsTold said) → MayFit (Forwarded r)
  forward-fits (Err fault) d = tt
  forward-fits (Ok said) d = d said refl

  -- a content for another node
  content-fits : (to c epoch r : ℕ) (path : List ℕ) → IsNumber to → cluster.IsConnNumber c → epoch < 2 ^ 16 → IsRequest r → IsLetter (place.Node k.n) (content_sent k to c epoch r path)
  content-fits to c epoch r path n conn early low =
      let fits = content-bytes (k.files path) (contents k.files files path) in
      (n, bytes-message c epoch (body.Content r (content_bytes (k.files path))) fits.0, tt, spells c epoch (body.Content r (content_bytes (k.files path))) conn early fits.1 low)

  module _ (s : NodeState) (h : PlaceKeeps k.n most s) (short : length s.disk ≤ 2 ^ 30) where
    -- ---- messages

    module _ (c epoch : ℕ) (n : cluster.IsConnNumber c) (early : epoch < 2 ^ 16) where
      file-fits : (from r : ℕ) (path file : List ℕ) → k.files path ≡ Some file → IsNumber from → r < 2 ^ 32 → StepFits (aside s (fetched_file k s from c epoch r path))
      file-fits from r path file is f low =
          let p : IsNamed path = named k.files files path file is in
          let job : Job = record { origin = from; c = c; epoch = record { 0 = epoch }; r = r; path = path } in
          let sent : List (Place × List ℕ) = content_sent k from c epoch r path ∷ [] in
          let r-is : IsNumber r = omega (arith, low) in
          cond_both (has_path s.cache.entries path) (record (node_saying sent) { notes = rec.Hit k.n path ∷ [] }) (record (node_saying []) { notes = rec.Queued k.n from c r path ∷ []; jobs = job ∷ [] }) (λ (t : NodeTurn). StepFits (aside s t))
          (λ t. aside-fits s (record (node_saying sent) { notes = rec.Hit k.n path ∷ [] }) h
          (record { notes = ((n-is, p.0), tt); segments = tt; few = omega arith; gave = tt; messages = (content-fits from c epoch r path f n early low, tt); few_messages = omega arith }) tt)
          (λ t. aside-fits s (record (node_saying []) { notes = rec.Queued k.n from c r path ∷ []; jobs = job ∷ [] }) h
          (record { notes = ((n-is, f, conn-number c n, r-is, p.0), tt); segments = tt; few = omega arith; gave = tt; messages = tt; few_messages = omega arith }) ((f, n, early, low, p), tt))

      fetched-fits : (from r : ℕ) (path : List ℕ) (o : Option (List ℕ)) → k.files path ≡ o → IsNumber from → r < 2 ^ 32 → StepFits (fetched k s from c epoch r path o)
      fetched-fits from r path None is f low = still s h
      fetched-fits from r path (Some file) is f low = cond_both (list_any (is_for c epoch r) s.disk) (s, nothing_done) (aside s (fetched_file k s from c epoch r path)) StepFits (λ t. still s h) (λ t. file-fits from r path file is f low)

    abbrev its : Body → ℕ → ℕ → Message
    its b c epoch = record { c = c; epoch = record { 0 = epoch }; body = b }

    hears-fits : (bytes : List ℕ) (from : Place) (c epoch : ℕ) (b : Body) → IsPlaceInRange from → AreBytes bytes → IsMessage (its b c epoch) → decoded_message bytes ≡ Ok (its b c epoch) → StepFits (node_hears k s from c epoch b)
    hears-fits bytes place.Front c epoch (body.Offer parts) f d is read =
        rule-fits s h short c epoch (message-number _ is) is.epoch (Offered parts) tt (record { valid = is.table; fits = is.fits; unread = offer-read bytes c epoch parts d read })
    hears-fits bytes place.Front c epoch (body.Forward segment) f d is read =
        rule-fits s h short c epoch (message-number _ is) is.epoch (Forwarded (decoded segment c ToCluster)) tt (forward-fits (decoded segment c ToCluster) (λ said of. told-decoded segment c ToCluster said of (forward-read bytes c epoch segment d read)))
    hears-fits bytes place.Front c epoch (body.Tag z nodes) f d is read = rule-fits s h short c epoch (message-number _ is) is.epoch (Tagged z nodes) tt (numbers nodes is.fits.1)
    hears-fits bytes place.Front c epoch body.EndedAck f d is read = rule-fits s h short c epoch (message-number _ is) is.epoch (Acknowledged false) tt tt
    hears-fits bytes place.Front c epoch body.Given f d is read = rule-fits s h short c epoch (message-number _ is) is.epoch (Acknowledged true) tt tt
    hears-fits bytes (place.Node from) c epoch (body.Fetch r path) f d is read = fetched-fits c epoch (message-number _ is) is.epoch from r path (k.files path) refl f is.fits
    hears-fits bytes (place.Node from) c epoch (body.Content r file) f d is read = rule-fits s h short c epoch (message-number _ is) is.epoch (Content from r) tt f
    hears-fits bytes _ c epoch _ f d is read = still s h

    gets-fits : (bytes : List ℕ) (from : Place) (r : Result Message MsgFault) → IsPlaceInRange from → AreBytes bytes → decoded_message bytes ≡ r → StepFits (node_gets k s from r)
    gets-fits bytes from (Err fault) f d is = still s h
    gets-fits bytes from (Ok m) f d is = hears-fits bytes from m.c m.epoch.0 m.body f d (is-message bytes m d is) is

    -- ---- the disk

    job-fits : (j : ℕ) → IfSome (job_at s.disk j) JobFits
    job-fits j = cond_both (j == 0) None _ (λ (o : Option Job). IfSome o JobFits) (λ t. tt) (λ t. got JobFits s.disk (j - 1) h.jobs)

    -- the others are in range as before
    completed-keeps : (j : ℕ) (job : Job) → PlaceKeeps k.n most (completed k s j job)
    completed-keeps j job = record {
      each = h.each;
      jobs = cond_both (j == 0) s.disk (take (j - 1) s.disk ++ drop (suc (j - 1)) s.disk) (Each JobFits) (λ t. h.jobs)
          (λ t. Each-append JobFits (take (j - 1) s.disk) (drop (suc (j - 1)) s.disk) (each-take JobFits (j - 1) s.disk h.jobs) (each-drop JobFits (suc (j - 1)) s.disk h.jobs));
    }

    -- and they are no more than before
    completed-short : (j : ℕ) → length (without_job s.disk j) ≤ 2 ^ 30
    completed-short j =
        let i : ℕ = j - 1 in
        let all = length-append (take i s.disk) (drop (suc i) s.disk) in
        let first = length-take i s.disk in
        let last = length-drop (suc i) s.disk in
        cond_both (j == 0) s.disk (take i s.disk ++ drop (suc i) s.disk) (λ (js : List Job). length js ≤ 2 ^ 30) (λ t. short) (λ t. omega (arith, all, first, last, short))

    -- what a job leads to, behind its record
    first-fits : (r : Rec) (x : NodeState × Out) → IsRecordInRange r → StepFits x → StepFits (with_first r x)
    first-fits r x n f = (f.0, record { notes = (n, f.1.notes); segments = f.1.segments; few = f.1.few; gave = f.1.gave; messages = f.1.messages; few_messages = f.1.few_messages; timers = f.1.timers })

    disk-fits : (j : ℕ) (o : Option Job) → IfSome o JobFits → StepFits (disk_step k s j o)
    disk-fits j None f = still s h
    disk-fits j (Some job) f =
        let after : NodeState = completed k s j job in
        let keeps : PlaceKeeps k.n most after = completed-keeps j job in
        let env = node_env k after job.c job.epoch.0 in
        let low = f.3 in
        let shorter : length after.disk ≤ 2 ^ 30 = completed-short j in
        first-fits (rec.Read k.n job.origin job.c job.r job.path) (node_brought k after job) (n-is, f.0, conn-number job.c f.1, omega (arith, low), f.4.0)
        (cond_both (job.origin == k.n) (node_deed k after job.c (node_read env (node_part after job.c) job.r)) (aside after (node_saying (content_sent k job.origin job.c job.epoch.0 job.r job.path ∷ []))) StepFits
        (λ t. rule-fits after keeps shorter job.c job.epoch.0 f.1 f.2 (Completed job.r job.path) tt tt)
        (λ t. aside-fits after (node_saying (content_sent k job.origin job.c job.epoch.0 job.r job.path ∷ [])) keeps
        (sends (place.Node k.n) _ (content-fits job.origin job.c job.epoch.0 job.r job.path f.0 f.1 f.2 f.3, tt) (omega arith)) tt))

    -- ---- whatever comes

    pub step-fits : (i : BackIn) → InputFits i → StepFits (node_step k s i)
    step-fits (input.Message from bytes) f = gets-fits bytes from (decoded_message bytes) f.0 f.1 refl
    step-fits (input.Timer c) f = rule-fits s h short c (node_epoch_at s c) f (early-at (table.get s.conns.rows c) (h.each c).early) Fires
        (λ row found. sym (ap (λ (o : Option BackRow). elim o [ None ↦ 0 | Some row ↦ row.epoch.0 ]) found)) tt
    step-fits (input.Disk j) f = disk-fits j (job_at s.disk j) (job-fits j)
