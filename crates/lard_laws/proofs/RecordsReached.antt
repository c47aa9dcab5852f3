-- Every record of every run is in range: by each event, and by the induction over events.
use Rattle.std.proofs.Common.{◌≡◌, ℕ, zero, suc, ◌+◌, ◌-◌, ◌≤◌, ◌<◌, ◌^◌, ◌==◌, List, [], ◌∷◌, ◌++◌, length, replicate, false, nat_lt, Option, Some, None, All, IfSome, Ok, Err, Result, refl, sym, ap, ◌∙◌, subst, arith}
use Rattle.std.proofs.lemmas.Bool.{cond_both, ltb-false}
use Rattle.std.specs.FinMap as table
use Rattle.std.specs.FinMap.{get-empty}
use Rattle.std.specs.Ordering.{nat_cmp}
use Rattle.std.specs.Prelude.{slice_get}
use Rattle.lard_base.proofs.Usable.{usable}
use Rattle.lard_law_view.specs.Prelude.{BackIn, ClientBlock, Config, Event, FrontIn, HasRule, IsNumber, IsPlaceInRange, IsReached, IsRecordInRange, IsViewed, MAX_SEGMENT_BYTES, Machine, MayClose, NodeState, Packet, Passes, Place, Rec, Station, StepFault, ToClient, Turn, bytes_in, client_aborts, client_acts, client_gets, client_goes_on, client_holds, client_injects, client_opens, client_shuts, client_takes, client_timer, client_writes, clocked, completes, config_check, conn, decoded, delivered, disk_at, drained, file_at, from_place, happens, has_other_open, is_client_armed, is_no_job, is_no_node, list_of, lose_at, lost, machine_opened, machine_start, machine_step, machine_to_client, machine_to_front, machine_wrote, no_stays, node_acts, node_at, node_gave, node_part, node_setting, node_step, nothing_kept, packet_at, part_of, passed, request, timer, timer_at, to_place, written_len}
use Rattle.lard_base.specs.declared.event.Event.TheVariants as event
use Rattle.lard_base.specs.declared.place.Place.TheVariants as place
use Rattle.lard_rules.specs.declared.fault.Refusal.TheVariants.{NoJob, NoNode, WasLost}
use Rattle.lard_rules.specs.declared.fault.StepFault.TheVariants.{Limit, Refused}
use Rattle.lard_laws.specs.Records.{IsRunFile, IsScheduled, RecordsAreInRange}
use Rattle.lard_law_connections.proofs.Forms.{ComesToFront}
use Rattle.lard_law_connections.proofs.Happened.{done-happens}
use Rattle.lard_law_connections.proofs.LeaversRuns.{may-come}
use Rattle.lard_laws.proofs.RecordsDisks.{DisksAreShort, disks-short}
use Rattle.lard_laws.proofs.RecordsFronts.{FrontKeeps, no-rest}
use Rattle.lard_laws.proofs.RecordsHolding.{HasRoom, Holds, IsPacket, NodeHolds, StationKeeps, client-holds, front-holds, node-holds, passed-holds}
use Rattle.lard_laws.proofs.RecordsLetters.{AsksBy, MayAsk, MaySay, SaysBy, conn-number}
use Rattle.lard_laws.proofs.RecordsNamed.{AreNamed, files-named}
use Rattle.lard_laws.proofs.RecordsNodes.{NodeKeeps}
use Rattle.lard_laws.proofs.RecordsNodeStep as node
use Rattle.lard_laws.proofs.RecordsNodeStep.{PlaceKeeps}
use Rattle.lard_laws.proofs.RecordsSizes.{IsSized, SizeFits, aborts-sized, fires-sized, gets-sized, holds-sized, injects-sized, opens-sized, shuts-sized, takes-sized, writes-sized}
use Rattle.lard_laws.proofs.RecordsWorks.{got}
use Rattle.lard_handoff_back.proofs.Putting.{beside_begun}
use Rattle.lard_law_view.proofs.After.{IsAfter, step-after}
use Rattle.lard_law_view.proofs.Carried.{reached-viewed}
use Rattle.lard_law_view.proofs.Runs.{passes-more, start-blank}
use Rattle.lard_rules.proofs.FrontStepping.{start-sound}
use Rattle.lard_history.proofs.Each.{Each}
use Rattle.lard_journal.specs.declared.rec.Rec.TheVariants as rec
use Rattle.lard_law_view.proofs.ByteLists.{AreBytes, all-each, bytes-decoded, each-all, index-bytes}
use Rattle.lard_law_view.proofs.ClientRange.{ClientFits, ClientKeeps, aborts-fits, fires-fits, gets-fits, holds-fits, injects-fits, opens-fits, shuts-fits, takes-fits, writes-fits}
use Rattle.lard_law_view.proofs.EventRange.{few-before}
use Rattle.lard_law_view.proofs.ToldEvents.{request-bytes}
use Rattle.lard_rules.specs.declared.fault.What.TheVariants.{Stream}
use Rattle.lard_rules.specs.declared.node.BackIn.TheVariants as back
use Rattle.lard_rules.specs.declared.front.FrontIn.TheVariants as input

-- ---- what a step gives

-- where a step is done, all holds behind it
abbrev Good : Result Machine StepFault → Type 0
Good (Ok n) = Holds n
Good (Err fault) = Unit {0}

-- a packet that arrives no more is as it was
lost-packets : (i : ℕ) (net : List Packet) → Each IsPacket net → Each IsPacket (lose_at i net)
lost-packets i [] h = tt
lost-packets zero (p ∷ ps) h = h
lost-packets (suc i) (p ∷ ps) h = (h.0, lost-packets i ps h.1)

lost-length : (i : ℕ) (net : List Packet) → length (lose_at i net) ≡ length net
lost-length i [] = refl
lost-length zero (p ∷ ps) = refl
lost-length (suc i) (p ∷ ps) = ap suc (lost-length i ps)

module _ (m : Machine) (view : IsViewed m) (small : m.config.stream ≤ 2 ^ 30) (files : AreNamed (file_at m.files)) (holds : Holds m)
    (room : HasRoom m.net m.journal) (disks : DisksAreShort m)
    (may : (e : Event) (comes : FrontIn) → ComesToFront m e comes → MayClose m.front comes) where
  packet-there : (k : ℕ) (p : Packet) → packet_at m.net k ≡ Some p → IsPacket p
  packet-there k p is = subst (λ (o : Option Packet). IfSome o IsPacket) is (cond_both (k == 0) None (slice_get m.net (k - 1)) (λ (o : Option Packet). IfSome o IsPacket) (λ t. tt) (λ t. got IsPacket m.net (k - 1) holds.past.packets))

  -- nothing but records
  passes : (e : Event) (own : List Rec) → IsScheduled e → Each IsRecordInRange own → Holds (passed m e own)
  passes e own given mine = passed-holds m e given holds.past room own m.net m.now mine holds.past.packets refl (omega arith) holds.parts

  -- ---- clients

  module _ (c : ℕ) (x : Station) (there : table.get m.clients c ≡ Some x) where
    kept : StationKeeps c (Some x)
    kept = subst (StationKeeps c) there (holds.parts.clients c)

    number : IsNumber x.client.c
    unfolding conn part_of
    number = subst IsNumber (sym ((view.sound c).client x there)) (conn-number c kept.0)

    goes : (e : Event) (own : List Rec) (given : ClientBlock × Turn) → IsScheduled e → Each IsRecordInRange own → (IsNumber x.client.c → ClientKeeps x.client → ClientFits given) → (IsSized x.client → SizeFits given) → Holds (client_goes_on m e own c x given)
    goes e own given g mine rule sized = client-holds m small files holds room e g own mine c x.iss (is_client_armed x.client) given kept.0 kept.3 (rule number kept.1) (sized kept.2)

  does-good : (e : Event) (own : List Rec) (c : ℕ) (rule : ClientBlock → ClientBlock × Turn) → IsScheduled e → Each IsRecordInRange own → ((x : ClientBlock) → IsNumber x.c → ClientKeeps x → ClientFits (rule x))
      → ((x : ClientBlock) → IsSized x → SizeFits (rule x)) → (o : Option Station) → table.get m.clients c ≡ o → Good (client_acts m e own c rule o)
  unfolding client_acts
  does-good e own c rule g mine fits sized None there = tt
  does-good e own c rule g mine fits sized (Some x) there = goes c x there e own (rule x.client) g mine (fits x.client) (sized x.client)

  wrote-good : (e : Event) (c : ℕ) (bytes : List ℕ) → IsScheduled e → AreBytes bytes → (o : Option Station) → table.get m.clients c ≡ o → Good (machine_wrote m e c bytes o)
  unfolding machine_wrote
  wrote-good e c bytes g are None there = tt
  wrote-good e c bytes g are (Some x) there = cond_both (nat_lt m.config.stream (written_len x.client bytes)) (Err (Limit Stream)) (Ok (client_goes_on m e [] c x (client_writes x.client bytes))) Good (λ t. tt)
      (λ t. let most : written_len x.client bytes ≤ m.config.stream = ltb-false m.config.stream (written_len x.client bytes) t in
      goes c x there e [] (client_writes x.client bytes) g tt (λ n keeps. writes-fits x.client n keeps bytes are (omega (arith, most, small))) (λ h. writes-sized x.client h bytes))

  opened-good : (c isn iss wnd mss : ℕ) → IsScheduled (event.Open c isn iss wnd mss) → HasRule (event.Open c isn iss wnd mss) → (o : Option Station) → Good (machine_opened m c isn iss wnd mss o)
  unfolding machine_opened
  opened-good c isn iss wnd mss g rule None = client-holds m small files holds room (event.Open c isn iss wnd mss) g (rec.Opened c isn iss wnd mss ∷ []) (g.0, tt) c iss false (client_opens c isn wnd mss) rule.6 rule.5 (opens-fits c isn wnd mss) (opens-sized c isn wnd mss)
  opened-good c isn iss wnd mss g rule (Some x) = tt

  -- ---- nodes

  node-acts : (e : Event) (own : List Rec) (n : ℕ) (i : BackIn) → IsScheduled e → Each IsRecordInRange own → node.InputFits i → (o : Option NodeState) → node_at m.nodes n ≡ o → Holds (node_acts m e own n i o)
  node-acts e own n i g mine fits None here = passes e own g mine
  node-acts e own n i g mine fits (Some s) here = node-holds m small files holds room e g own mine n s here (disks n s here) i fits

  -- ---- timers

  timer_at-good : (p : Place) (c : ℕ) (x : Station) → table.get m.clients c ≡ Some x → IsScheduled (event.Timer p c) → HasRule (event.Timer p c) → Good (timer_at m p c x)
  timer_at-good place.Front c x there g rule = front-holds m small files holds room (event.Timer place.Front c) g [] tt (input.Timer c) tt (kept c x there).0
  timer_at-good (place.Client d) c x there g rule = goes c x there (event.Timer (place.Client d) c) [] (client_timer x.client) g tt (fires-fits x.client) (fires-sized x.client)
  timer_at-good (place.Node n) c x there g rule =
      cond_both (is_no_node m.config.nodes n) (Err (Refused (NoNode n m.config.nodes))) (Ok (node_acts m (event.Timer (place.Node n) c) [] n (back.Timer c) (node_at m.nodes n))) Good (λ t. tt)
      (λ t. node-acts (event.Timer (place.Node n) c) [] n (back.Timer c) g tt (kept c x there).0 (node_at m.nodes n) refl)

  timer-good : (p : Place) (c : ℕ) → IsScheduled (event.Timer p c) → HasRule (event.Timer p c) → (o : Option Station) → table.get m.clients c ≡ o → Good (timer m p c o)
  unfolding timer
  timer-good p c g rule None there = tt
  timer-good p c g rule (Some x) there = timer_at-good p c x there g rule

  -- ---- packets

  module _ (k : ℕ) (g : IsScheduled (event.Deliver k)) where
    abbrev e : Event
    e = event.Deliver k

    mine : Each IsRecordInRange (rec.Got k ∷ [])
    mine = (g.0, tt)

    to-front : (bytes : List ℕ) (c : ℕ) → AreBytes bytes → length bytes ≤ MAX_SEGMENT_BYTES → (o : Option Station) → table.get m.clients c ≡ o → Holds (machine_to_front m k bytes c o)
    to-front bytes c h few None there = passes e (rec.Got k ∷ []) g mine
    to-front bytes c h few (Some x) there =
        front-holds m small files holds room e g (rec.Got k ∷ []) mine (input.Segment c (record { 0 = x.iss }) bytes) tt
        ((kept c x there).0, h, (kept c x there).3, few)

    from-place : (bytes : List ℕ) (from : Place) → ((n : ℕ) → from ≡ place.Node n → ComesToFront m e (input.Message n bytes)) → IsPlaceInRange from
        → AreBytes bytes → AsksBy from bytes
        → SaysBy from bytes → Holds (from_place m k bytes from)
    from-place bytes (place.Client c) came n h asks says = to-front bytes c h says (table.get m.clients c) refl
    from-place bytes place.Front came n h asks says = passes e (rec.Got k ∷ []) g mine
    from-place bytes (place.Node n) came f h asks says =
        front-holds m small files holds room e g (rec.Got k ∷ []) mine (input.Message n bytes) (may e (input.Message n bytes) (came n refl)) (f, h, asks)

    to-client : (bytes : List ℕ) (c : ℕ) → AreBytes bytes → (o : Option Station) → table.get m.clients c ≡ o → Holds (machine_to_client m k bytes c o)
    to-client bytes c h None there = passes e (rec.Got k ∷ []) g mine
    to-client bytes c h (Some x) there = goes c x there e (rec.Got k ∷ []) (client_gets x.client (decoded bytes c ToClient)) g mine
        (λ n keeps. gets-fits x.client n keeps (decoded bytes c ToClient) (λ said is. bytes-decoded bytes c ToClient said is h)) (λ sized. gets-sized x.client sized (decoded bytes c ToClient))

    to-place : (p : Packet) → packet_at m.net k ≡ Some p → (to : Place) → p.to ≡ to → IsPlaceInRange p.from → AreBytes p.bytes → MayAsk to p.from p.bytes
        → MaySay to p.from p.bytes
        → Holds (to_place m k p to)
    to-place p there place.Front goal f h asks says = from-place p.bytes p.from (λ n sender. (k, p, refl, there, sender, goal, refl)) f h asks says
    to-place p there (place.Client c) goal f h asks says = to-client p.bytes c h (table.get m.clients c) refl
    to-place p there (place.Node n) goal f h asks says = node-acts e (rec.Got k ∷ []) n (back.Message p.from p.bytes) g mine (f, h) (node_at m.nodes n) refl

    delivered-good : (o : Option Packet) → packet_at m.net k ≡ o → Good (delivered m k o)
    unfolding delivered
    delivered-good None there = tt
    delivered-good (Some p) there = let is : IsPacket p = packet-there k p there in
        cond_both p.lost (Err (Refused (WasLost k))) (Ok (to_place m k p p.to)) Good (λ t. tt) (λ t. to-place p there p.to refl is.0 is.1.1 is.1.2 is.1.3)

  lost-good : (k : ℕ) → IsScheduled (event.Lose k) → (o : Option Packet) → Good (lost m k o)
  unfolding lost
  lost-good k g None = tt
  lost-good k g (Some p) =
      cond_both p.lost (Err (Refused (WasLost k))) (Ok (passed (record m { net = lose_at (k - 1) m.net }) (event.Lose k) (rec.Lost k ∷ []))) Good (λ t. tt)
      (λ t. passed-holds m (event.Lose k) g holds.past room (rec.Lost k ∷ []) (lose_at (k - 1) m.net) m.now (g.0, tt) (lost-packets (k - 1) m.net holds.past.packets) (lost-length (k - 1) m.net) (omega arith) holds.parts)

  -- ---- nodes that close

  drained-good : (n : ℕ) → IsScheduled (event.Drain n) → Good (drained m n)
  unfolding drained
  drained-good n g =
      cond_both (is_no_node m.config.nodes n) _ _ Good (λ t. tt)
      (λ t. cond_both (has_other_open m.front.dispatch.books.loads n) _ _ Good
      (λ other. front-holds m small files holds room (event.Drain n) g [] tt (input.Drain n) other g.0)
      (λ last. tt))

  -- ---- disks, and the clock

  disk_at-good : (n j : ℕ) → IsScheduled (event.Disk n j) → (o : Option NodeState) → node_at m.nodes n ≡ o → Good (disk_at m n j o)
  disk_at-good n j g None here = tt
  disk_at-good n j g (Some s) here =
      cond_both (is_no_job s j) (Err (Refused (NoJob n j (length s.disk)))) (Ok (node_gave m (event.Disk n j) [] n (node_step (node_setting m n) s (back.Disk j)))) Good (λ t. tt)
      (λ t. node-holds m small files holds room (event.Disk n j) g [] tt n s here (disks n s here) (back.Disk j) tt)

  completes-good : (n j : ℕ) → IsScheduled (event.Disk n j) → Good (completes m n j)
  unfolding completes
  completes-good n j g = cond_both (is_no_node m.config.nodes n) (Err (Refused (NoNode n m.config.nodes))) (disk_at m n j (node_at m.nodes n)) Good (λ t. tt) (λ t. disk_at-good n j g (node_at m.nodes n) refl)

  clocked-good : (ms : ℕ) → IsScheduled (event.Clock ms) → Holds (clocked m ms)
  unfolding clocked
  clocked-good ms g =
      let clock = holds.past.time in
      let counted = holds.past.events in
      let few = room.records in
      let less = g.1 in
      passed-holds m (event.Clock ms) g holds.past room (rec.Clock (record { 0 = m.now + ms }) ∷ []) m.net (m.now + ms) (omega (arith, clock, counted, few, less), tt) holds.past.packets refl (omega (arith, less)) holds.parts

  -- ---- whatever happens

  happens-good : (e : Event) → IsScheduled e → HasRule e → Good (happens m e)
  happens-good (event.Open c isn iss wnd mss) g rule = opened-good c isn iss wnd mss g rule (table.get m.clients c)
  happens-good (event.Get c path) g rule = wrote-good (event.Get c path) c (request path) g (request-bytes path (index-bytes path g.1)) (table.get m.clients c) refl
  happens-good (event.Write c bytes) g rule = wrote-good (event.Write c bytes) c bytes g (index-bytes bytes g.0.1) (table.get m.clients c) refl
  happens-good (event.Shut c) g rule = does-good (event.Shut c) [] c client_shuts g tt shuts-fits shuts-sized (table.get m.clients c) refl
  happens-good (event.Abort c) g rule = does-good (event.Abort c) [] c client_aborts g tt aborts-fits aborts-sized (table.get m.clients c) refl
  happens-good (event.Hold c) g rule = does-good (event.Hold c) [] c client_holds g tt holds-fits holds-sized (table.get m.clients c) refl
  happens-good (event.Take c) g rule = does-good (event.Take c) [] c client_takes g tt takes-fits takes-sized (table.get m.clients c) refl
  happens-good (event.Inject c bytes) g rule = does-good (event.Inject c bytes) (rec.Injected c ∷ []) c (λ x. client_injects x bytes) g (g.0.0, tt)
      (λ x n keeps. injects-fits x n keeps bytes (index-bytes bytes g.0.1)) (λ x sized. injects-sized x sized bytes rule.1) (table.get m.clients c) refl
  happens-good (event.Deliver k) g rule = delivered-good k g (packet_at m.net k) refl
  happens-good (event.Lose k) g rule = lost-good k g (packet_at m.net k)
  happens-good (event.Timer p c) g rule = timer-good p c g rule (table.get m.clients c) refl
  happens-good (event.Disk n j) g rule = completes-good n j g
  happens-good (event.Drain n) g rule = drained-good n g
  happens-good (event.Clock ms) g rule = clocked-good ms g
  happens-good (event.Settle rounds) g rule = absurd rule

-- ---- every run

module _ (config : Config) (files : List (List ℕ × List ℕ)) (small : config.stream ≤ 2 ^ 30) (named : AreNamed (file_at files)) where
  -- a state that events lead to, with the settings of the start
  record IsOn (m : Machine) : Type 0 where
    reached : IsReached config files m
    config_is : m.config ≡ config
    files_are : m.files ≡ files

  on-more : (m n : Machine) (e : Event) → IsOn m → HasRule e → machine_step m e ≡ Ok n → IsOn n
  on-more m n e on rule is = let after : IsAfter m e n = step-after m (reached-viewed config files m on.reached) e n rule is in record {
    reached = (on.reached.0 ++ e ∷ [], passes-more on.reached.0 (machine_start config files) m n e on.reached.1 rule is);
    config_is = after.config ∙ on.config_is;
    files_are = after.files ∙ on.files_are;
  }

  step-holds : (m n : Machine) (e : Event) → IsOn m → Holds m → IsScheduled e → HasRule e → machine_step m e ≡ Ok n → Holds n
  step-holds m n e on h given rule is =
      let first = done-happens m n e is in
      let few = few-before (length m.net) (bytes_in m.net) (length m.journal) m.answered first.0 in
      let good : Good (happens m e) = happens-good m (reached-viewed config files m on.reached) (subst (λ (c : Config). c.stream ≤ 2 ^ 30) (sym on.config_is) small) (subst (λ (fs : List (List ℕ × List ℕ)). AreNamed (file_at fs)) (sym on.files_are) named) h
      (record { packets = few.0; records = few.1 }) (disks-short config files m on.reached few.1) (may-come config files m on.reached) e given rule in
      subst Good first.1 good

  passes-hold : (es : List Event) (m n : Machine) → IsOn m → Holds m → Each IsScheduled es → Passes m es n → Holds n
  passes-hold [] m n on h given same = subst Holds (sym same) h
  passes-hold (e ∷ es) m n on h given past =
      passes-hold es past.0 n (on-more m past.0 e on past.1 past.2) (step-holds m past.0 e on h given.0 past.1 past.2) given.1 past.3

  -- ---- the start

  -- a node that is there has one of the numbers
  replicated : (x : NodeState) (k i : ℕ) → IfSome (slice_get (replicate k x) i) (λ y. (y ≡ x) × (i < k))
  replicated x zero i = tt
  replicated x (suc k) zero = (refl, omega arith)
  replicated x (suc k) (suc i) = go (slice_get (replicate k x) i) (replicated x k i) where
    go : (o : Option NodeState) → IfSome o (λ y. (y ≡ x) × (i < k)) → IfSome o (λ y. (y ≡ x) × (suc i < suc k))
    go None h = tt
    go (Some y) h = let less = h.1 in (h.0, omega (arith, less))

  none-kept : (limit c : ℕ) → node_part (no_stays limit) c ≡ nothing_kept
  none-kept limit c = λ i. record { row = get-empty nat_cmp c i; stay = get-empty nat_cmp c i; kept = list_of (get-empty nat_cmp c i); fetches = list_of (get-empty nat_cmp c i); beside = beside_begun c i }

  blank-node : (n most : ℕ) → NodeKeeps n most nothing_kept
  blank-node n most = record { early = tt; here = tt; kept = tt; few = omega arith; fetches = tt; few_fetches = omega arith }

  start-holds : config.nodes ≤ 64 → config_check config ≡ Ok tt → Holds (machine_start config files)
  unfolding conn part_of
  start-holds few checked = record {
    parts = record {
      clients = λ c. subst (StationKeeps c) (sym (get-empty nat_cmp c)) tt;
      front = λ c. subst (FrontKeeps c) (sym (ap (λ x. x.part.front) (start-blank config files c))) (record { row = tt; rest = no-rest; kept = tt; few = omega arith });
      sound = start-sound config checked;
      nodes = start-nodes;
    };
    past = record { packets = tt; records = tt; events = omega arith; time = omega arith };
  } where
    start-nodes : (n : ℕ) → IfSome (node_at (replicate config.nodes (no_stays config.cache)) n) (NodeHolds 0 n)
    start-nodes zero = tt
    start-nodes (suc i) = go (slice_get (replicate config.nodes (no_stays config.cache)) i) (replicated (no_stays config.cache) config.nodes i) where
      go : (o : Option NodeState) → IfSome o (λ y. (y ≡ no_stays config.cache) × (i < config.nodes)) → IfSome o (NodeHolds 0 (suc i))
      go None h = tt
      go (Some s) h = let less = h.1 in (
        omega (arith, less, few),
        subst (PlaceKeeps (suc i) 0) (sym h.0) (record {
          each = λ c. subst (NodeKeeps (suc i) 0) (sym (none-kept config.cache c)) (blank-node (suc i) 0);
          jobs = tt;
        }),
      )

-- so all holds behind events of such files
pub run-holds : (config : Config) (files : List (List ℕ × List ℕ)) (es : List Event) (m : Machine) → config_check config ≡ Ok tt → All IsRunFile files → All IsScheduled es → Passes (machine_start config files) es m → Holds m
run-holds config files es m checked are given past =
    let u = usable config checked in
    passes-hold config files u.stream (files-named files are) es (machine_start config files) m (record { reached = ([], refl); config_is = refl; files_are = refl })
    (start-holds config files u.stream (files-named files are) u.nodes checked) (all-each IsScheduled es given) past

pub records-ranges : RecordsAreInRange
records-ranges config files es m checked are given past = each-all IsRecordInRange m.journal (run-holds config files es m checked are given past).past.records
