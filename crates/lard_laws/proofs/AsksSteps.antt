-- What a node sends in its step: its Asks go on with the jobs that its disk has then.
use Rattle.std.proofs.Common.{◌≡◌, ◌<◌, ◌^◌, ℕ, zero, suc, ◌+◌, ◌-◌, ◌==◌, Bool, true, false, cond, List, [], ◌∷◌, ◌++◌, length, map, Option, Some, None, Result, Ok, Err, refl, sym, ap, ◌∙◌, subst}
use Rattle.std.specs.Prelude.{slice_get}
use Rattle.std.proofs.lemmas.Bool.{cond_both}
use Rattle.std.proofs.lemmas.List.{length-append}
use Rattle.std.specs.FinMap as table
use Rattle.std.specs.List.{list_any}
use Rattle.lard_law_view.specs.Prelude.{Acknowledged, AreNumbered, BackRow, Body, Client, Completed, Conn, Content, ControlBlock, EndpointParts, Fires, Forwarded, Front, IsConnNumber, IsNodeEnv, IsViewed, Job, Machine, Message, MsgFault, Node, NodeDeed, NodeEnv, NodeGets, NodePart, NodeState, NodeTurn, Offered, Out, Packet, Part, Place, Rec, Recency, SpellsMessage, Station, Stay, Tagged, ToCluster, Was, aside, completed, conn, content_sent, decoded, decoded_message, disk_step, epoch_in, fetched, fetched_file, has_path, is_for, job_at, leaves_at, node_acknowledged, node_at, node_content, node_deed, node_env, node_epoch_at, node_forwarded, node_gets, node_hears, node_offered, node_part, node_read, node_rule, node_saying, node_setting, node_step, node_tagged, node_timer, node_timers, nothing_done, offer_answer, own, packet_at, part_of, sent_of, setting_of, timer_rows, with_first}
use Rattle.lard_laws.specs.AsksSent.{AsksGoOn, IsNextAsk, ask_by, last_ask}
use Rattle.lard_laws.proofs.AsksNodeAsks.{DeedAsks, IsNewer, MayAsk, rule-asks}
use Rattle.lard_laws.proofs.AsksSending.{PartAsks, asks_in}
use Rattle.lard_laws.proofs.AsksSends.{PartsAsk, lasts, newer, offer-said, small-here}
use Rattle.lard_law_view.proofs.OfKinds.{gave-unsent, note-unsent, timer-unsent}
use Rattle.lard_law_view.proofs.RecordKinds.{IsUnsent}
use Rattle.lard_law_connections.proofs.MotionPicking.{pick, segments-none}
use Rattle.lard_law_connections.proofs.PlacesTurns.{IsPlaced}
use Rattle.lard_law_view.specs.View.{sending}
use Rattle.lard_law_view.proofs.Heads.{was}
use Rattle.lard_law_view.proofs.Naming.{decoded-names}
use Rattle.lard_law_view.proofs.Nodes as nodes
use Rattle.lard_law_view.proofs.Nodes.{IsNodeDeed}
use Rattle.lard_law_view.proofs.Numbers.{client-number}
use Rattle.lard_law_view.proofs.Parts.{node-kept}
use Rattle.lard_law_view.proofs.Saying.{AreMessages, GaveAt, NotedAt}
use Rattle.lard_law_view.proofs.Timers.{IsTimerAt, timer_rows-are}
use Rattle.lard_law_view.proofs.Turned.{sent-messages}
use Rattle.lard_handoff_back.specs.declared.table.Adopt.TheVariants.{New}
use Rattle.lard_history.proofs.Each.{Each, Each-weaker}
use Rattle.lard_journal.specs.declared.rec.Rec.TheVariants as rec
use Rattle.lard_message.specs.declared.message.Body.TheVariants as body
use Rattle.lard_rules.specs.declared.node.BackIn.TheVariants as back
use Rattle.lard_rules.specs.Node.{Drops, Says, Does}
use Rattle.lard_rules.proofs.NodeCases.{IsHereWith, IsOfItsEpoch}

-- A node's step from this journal: the Asks of one connection go on, and nothing else is an Ask.
pub record Told (J : List Rec) (i : ℕ) (x : NodeState × Out) : Type 0 where
  pub c : ℕ
  pub asks : (d : ℕ) → AsksGoOn (IsNextAsk c d (length x.0.disk)) (last_ask i d (own c J)) (asks_in i d x.1.messages)
  pub segments : (j d : ℕ) → pick (ask_by j d) (map (sending (Node i)) x.1.segments) ≡ []
  pub notes : Each IsUnsent x.1.notes
  pub gave : Each IsUnsent x.1.gave
  pub timers : Each IsUnsent x.1.timers

module _ (m : Machine) (view : IsViewed m) (placed : (c : ℕ) → IsPlaced (conn m c)) (known : (c : ℕ) → PartsAsk (conn m c)) (i : ℕ) (s : NodeState) (there : node_at m.nodes i ≡ Some s) where
  abbrev Tells : NodeState × Out → Type 0
  Tells x = Told m.journal i x

  -- no Ask is sent
  none-told : (t : NodeState) (o : Out) → ((d : ℕ) → asks_in i d o.messages ≡ []) → o.segments ≡ [] → Each IsUnsent o.notes → o.gave ≡ [] → o.timers ≡ [] → Tells (t, o)
  none-told t o none segments notes gave timers = record {
    c = 0;
    asks = λ d. subst (AsksGoOn (IsNextAsk 0 d (length t.disk)) (last_ask i d (own 0 m.journal))) (sym (none d)) tt;
    segments = λ j d. ap (λ ss. pick (ask_by j d) (map (sending (Node i)) ss)) segments;
    notes = notes;
    gave = subst (Each IsUnsent) (sym gave) tt;
    timers = subst (Each IsUnsent) (sym timers) tt;
  }

  nothing-told : (t : NodeState) → Tells (t, nothing_done)
  nothing-told t = none-told t nothing_done (λ d. refl) refl tt refl refl

  -- ---- a rule of one connection, behind what the disk and the cache were told

  module _ (c epoch : ℕ) (number : IsConnNumber c) (cache : Recency) (disk : List Job) where
    abbrev x : Conn
    x = conn m c

    abbrev u : NodeState
    u = record s { cache = cache; disk = disk }

    abbrev env : NodeEnv
    env = node_env (node_setting m i) u c epoch

    abbrev p : NodePart
    p = node_part s c

    abbrev is-env : IsNodeEnv (setting_of m) c i epoch env
    is-env = record { place = refl; number = refl; files = refl; stream = refl; node = refl; epoch_is = refl; leaves = ap leaves_at (sym there); remains = view.remain i s there }

    timers-unsent : (q : NodePart) → Each IsUnsent (node_timers i c p q)
    unfolding timer_rows
    timers-unsent q =
        let P : Part = record (part_of m c) { nodes = λ k. p } in
        let Q : Part = record (part_of m c) { nodes = λ k. q } in
        Each-weaker (IsTimerAt (Node i) c) IsUnsent (timer-unsent (Node i) c) (timer_rows (Node i) c P Q) (timer_rows-are (Node i) c P Q)

    part-known : PartAsks c (lasts x i) p
    unfolding conn
    part-known = subst (PartAsks c (lasts x i)) (node-kept m i s c there) (known c i)

    deed-told : (d : NodeDeed) → DeedAsks c i (lasts x i) env refl p part-known d → IsNodeDeed i c p d → Tells (node_deed (node_setting m i) u c d)
    unfolding conn
    deed-told Drops asks good = nothing-told u
    deed-told (Says ms) asks good = record { c = c; asks = λ d. (asks (length (disk ++ []))).0 d; segments = λ j d. refl; notes = tt; gave = tt; timers = tt }
    deed-told (Does given) asks good =
        let many : env.queue + length given.1.jobs ≡ length (disk ++ given.1.jobs) = sym (length-append disk given.1.jobs) in
        record {
          c = c;
          asks = λ d. subst (λ (waiting : ℕ). AsksGoOn (IsNextAsk c d waiting) (last_ask i d (own c m.journal)) (asks_in i d given.1.messages)) many (asks.0.0 d);
          segments = λ j d. segments-none (ask_by j d) (Node i) c (λ k bytes. refl) given.1.segments asks.1;
          notes = Each-weaker (NotedAt (Node i) c) IsUnsent (note-unsent (Node i) c) given.1.notes good.0.0.notes;
          gave = Each-weaker (GaveAt (Node i) c) IsUnsent (gave-unsent (Node i) c) given.1.gave good.0.0.gave;
          timers = timers-unsent given.0;
        }

    -- its epoch, where it is here
    small : (b : ControlBlock) (y : Stay) → IsHereWith env.epoch p b y → env.epoch < 2 ^ 16
    unfolding conn
    small = subst (λ (q : NodePart). (b : ControlBlock) (y : Stay) → IsHereWith env.epoch q b y → env.epoch < 2 ^ 16) (node-kept m i s c there) (small-here (setting_of m) x i epoch env is-env (placed c))

    rule-told : (g : NodeGets) → IsOfItsEpoch env p g → MayAsk c i (lasts x i) env refl p part-known g → IsNodeDeed i c p (node_rule env p g)
        → Tells (node_deed (node_setting m i) u c (node_rule env p g))
    rule-told g at may good = deed-told (node_rule env p g) (rule-asks c i (lasts x i) env refl p part-known small g at may) good

    forwarded : (bytes : List ℕ) → Tells (node_deed (node_setting m i) u c (node_forwarded env p (decoded bytes c ToCluster)))
    forwarded bytes = rule-told (Forwarded (decoded bytes c ToCluster)) tt tt (nodes.forwarded-deed env refl number p (decoded bytes c ToCluster))

    tagged : (tag : ℕ) (ns : List ℕ) → Tells (node_deed (node_setting m i) u c (node_tagged env p tag ns))
    tagged tag ns = rule-told (Tagged tag ns) tt tt (nodes.tagged-deed env refl number p tag ns)

    content : (from r : ℕ) → Tells (node_deed (node_setting m i) u c (node_content env p from r))
    content from r = rule-told (Content from r) tt tt (nodes.content-deed env refl number p from r)

    read : (r : ℕ) → Tells (node_deed (node_setting m i) u c (node_read env p r))
    read r = rule-told (Completed r []) tt tt (nodes.read-deed env refl number p r)

    acknowledged : (back : Bool) → Tells (node_deed (node_setting m i) u c (node_acknowledged env back p))
    acknowledged back = rule-told (Acknowledged back) tt tt (nodes.acknowledged-deed env refl number p back)

    -- an Offer that was sent to it
    offered : (parts : EndpointParts) (bytes : List ℕ) → SpellsMessage c epoch (body.Offer parts) bytes → Was x Front (Node i) bytes → Tells (node_deed (node_setting m i) u c (node_offered env p parts))
    unfolding conn
    offered parts bytes spells sent =
        let kept_is = node-kept m i s c there in
        let new : offer_answer env.epoch ((part_of m c).nodes i).row ≡ New → IsNewer c i (lasts x i) env refl ((part_of m c).nodes i) (known c i) =
        newer (setting_of m) x i epoch env is-env (placed c) (known c) (offer-said (setting_of m) x i epoch env is-env (placed c) parts bytes spells sent) in
        rule-told (Offered parts) tt
        (λ e. let n = new (ap (λ (q : NodePart). offer_answer env.epoch q.row) kept_is ∙ e) in record { small = n.small; above = subst (λ (q : NodePart). epoch_in q < env.epoch) kept_is n.above })
        (nodes.offered-deed env refl number p parts)

    -- its timer fires
    fires : epoch ≡ epoch_in p → Tells (node_deed (node_setting m i) u c (node_timer env p))
    unfolding conn
    fires at =
        let kept_is = node-kept m i s c there in
        let kept : AreMessages c (Node i) (map sent_of p.kept) =
        subst (λ (q : NodePart). AreMessages c (Node i) (map sent_of q.kept)) kept_is (sent-messages x (Node i) ((part_of m c).nodes i).kept (view.sound c).between ((view.sound c).kept i)) in
        let fetches : AreMessages c (Node i) (map sent_of p.fetches) =
        subst (λ (q : NodePart). AreMessages c (Node i) (map sent_of q.fetches)) kept_is (sent-messages x (Node i) ((part_of m c).nodes i).fetches (view.sound c).between ((view.sound c).fetches i)) in
        rule-told Fires (λ row found. sym (at ∙ ap (λ (o : Option BackRow). epoch_in (record p { row = o })) found)) tt (nodes.fires-deed env refl number p kept fetches)

  -- ---- what a node does for another one

  fetched-told : (from c epoch r : ℕ) (path : List ℕ) (o : Option (List ℕ)) → Tells (fetched (node_setting m i) s from c epoch r path o)
  fetched-told from c epoch r path None = nothing-told s
  fetched-told from c epoch r path (Some bytes) = cond_both (list_any (is_for c epoch r) s.disk) (s, nothing_done) (aside s (fetched_file (node_setting m i) s from c epoch r path)) Tells
      (λ t. nothing-told s)
      (λ t. cond_both (has_path s.cache.entries path) _ _ (λ (u : NodeTurn). Tells (aside s u)) (λ t. none-told _ _ (λ d. refl) refl (tt, tt) refl refl) (λ t. none-told _ _ (λ d. refl) refl (tt, tt) refl refl))

  -- ---- a message comes

  module _ (k : ℕ) (l : Packet) (at : packet_at m.net k ≡ Some l) (is-to : l.to ≡ Node i) where
    module _ (msg : Message) (reads : decoded_message l.bytes ≡ Ok msg) where
      number : IsConnNumber msg.c
      number = (decoded-names msg l.bytes reads).number

      front-hears : l.from ≡ Front → (b : Body) → msg.body ≡ b → Tells (node_hears (node_setting m i) s Front msg.c msg.epoch.0 b)
      front-hears is-from (body.Offer parts) says =
          offered msg.c msg.epoch.0 number s.cache s.disk parts l.bytes (reads ∙ ap (λ b. Ok (record msg { body = b })) says)
          (was m k msg.c l at Front (Node i) is-from is-to (decoded-names msg l.bytes reads).named)
      front-hears is-from (body.Forward bytes) says = forwarded msg.c msg.epoch.0 number s.cache s.disk bytes
      front-hears is-from (body.Tag tag ns) says = tagged msg.c msg.epoch.0 number s.cache s.disk tag ns
      front-hears is-from body.EndedAck says = acknowledged msg.c msg.epoch.0 number s.cache s.disk false
      front-hears is-from body.Given says = acknowledged msg.c msg.epoch.0 number s.cache s.disk true
      front-hears is-from _ says = nothing-told s

      node-hears : (from : ℕ) (b : Body) → Tells (node_hears (node_setting m i) s (Node from) msg.c msg.epoch.0 b)
      node-hears from (body.Fetch r path) = fetched-told from msg.c msg.epoch.0 r path ((node_setting m i).files path)
      node-hears from (body.Content r bytes) = content msg.c msg.epoch.0 number s.cache s.disk from r
      node-hears from _ = nothing-told s

      client-hears : (d : ℕ) (b : Body) → Tells (node_hears (node_setting m i) s (Client d) msg.c msg.epoch.0 b)
      client-hears d _ = nothing-told s

    hears-from : (from : Place) → l.from ≡ from → (msg : Message) → decoded_message l.bytes ≡ Ok msg → Tells (node_hears (node_setting m i) s from msg.c msg.epoch.0 msg.body)
    hears-from Front is-from msg reads = front-hears msg reads is-from msg.body refl
    hears-from (Node from) is-from msg reads = node-hears msg reads from msg.body
    hears-from (Client d) is-from msg reads = client-hears msg reads d msg.body

    gets : (r : Result Message MsgFault) → decoded_message l.bytes ≡ r → Tells (node_gets (node_setting m i) s l.from r)
    gets (Err fault) reads = nothing-told s
    gets (Ok msg) reads = hears-from l.from refl msg reads

    pub message-told : Tells (node_step (node_setting m i) s (back.Message l.from l.bytes))
    message-told = gets (decoded_message l.bytes) refl

  -- ---- a timer, and a job

  pub timer-told : (c : ℕ) (y : Station) → table.get m.clients c ≡ Some y → Tells (node_step (node_setting m i) s (back.Timer c))
  unfolding conn part_of
  timer-told c y opened = fires c (node_epoch_at s c) (client-number (conn m c) y (view.sound c) opened) s.cache s.disk refl

  first-told : (r : Rec) (x : NodeState × Out) → IsUnsent r → Tells x → Tells (with_first r x)
  first-told r x un h = record { c = h.c; asks = h.asks; segments = h.segments; notes = (un, h.notes); gave = h.gave; timers = h.timers }

  all-got : (js : List Job) (k : ℕ) (job : Job) → slice_get js k ≡ Some job → AreNumbered js → IsConnNumber job.c
  all-got [] k job is e = let no : None ≡ Some job = is in absurd cc
  all-got (y ∷ js) zero job is e = let same : y ≡ job = cc in subst (λ (z : Job). IsConnNumber z.c) same e.0
  all-got (y ∷ js) (suc k) job is e = all-got js k job is e.1

  job-number : (j : ℕ) (job : Job) → job_at s.disk j ≡ Some job → IsConnNumber job.c
  job-number j job is = go (j == 0) is where
    go : (b : Bool) → cond b None (slice_get s.disk (j - 1)) ≡ Some job → IsConnNumber job.c
    go true e = let no : None ≡ Some job = e in absurd cc
    go false e = all-got s.disk (j - 1) job e (view.jobs i s there)

  job-told : (j : ℕ) (o : Option Job) → job_at s.disk j ≡ o → Tells (disk_step (node_setting m i) s j o)
  job-told j None is = nothing-told s
  job-told j (Some job) is =
      let u : NodeState = completed (node_setting m i) s j job in
      cond_both (job.origin == i) (node_deed (node_setting m i) u job.c (node_read (node_env (node_setting m i) u job.c job.epoch.0) (node_part u job.c) job.r))
      (aside u (node_saying (content_sent (node_setting m i) job.origin job.c job.epoch.0 job.r job.path ∷ []))) (λ (x : NodeState × Out). Tells (with_first (rec.Read i job.origin job.c job.r job.path) x))
      (λ t. first-told _ _ tt (read job.c job.epoch.0 (job-number j job is) u.cache u.disk job.r))
      (λ t. first-told _ _ tt (none-told _ _ (λ d. refl) refl tt refl refl))

  pub disk-told : (j : ℕ) → Tells (node_step (node_setting m i) s (back.Disk j))
  disk-told j = job-told j (job_at s.disk j) refl
