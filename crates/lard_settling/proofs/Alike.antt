-- What a step does depends on neither the journal before it nor how many events there were: it appends the same records behind
-- its event.
use Rattle.std.proofs.Common.{◌≡◌, ℕ, ◌+◌, ◌-◌, Bool, true, false, cond, nat_lt, List, [], ◌∷◌, ◌++◌, length, Option, Some, None, Result, Ok, Err, refl, subst}
use Rattle.std.specs.FinMap as table
use Rattle.std.specs.Prelude.{slice_set}
use Rattle.lard_law_view.specs.Prelude.{BackIn, ClientBlock, Event, FrontIn, FrontState, HasRule, Machine, NodeState, Out, Packet, Place, Rec, Station, StepFault, ToClient, Turn, client_aborts, client_acted, client_acts, client_gets, client_goes_on, client_holds, client_injects, client_opens, client_put, client_shuts, client_takes, client_timer, client_writes, clocked, completes, decoded, delivered, disk_at, drained, from_place, front_acts, front_gave, front_setting, front_step, happens, has_other_open, is_client_armed, is_no_job, is_no_node, lose_at, lost, machine_opened, machine_to_client, machine_to_front, machine_told, machine_wrote, node_acts, node_at, node_gave, node_setting, node_step, out_of, packet_at, packets_of, passed, request, segments_sent, sent_records, timer, to_place, written_len}
use Rattle.lard_base.specs.declared.event.Event.TheVariants as event
use Rattle.lard_base.specs.declared.place.Place.TheVariants as place
use Rattle.lard_journal.specs.declared.rec.Rec.TheVariants as rec
use Rattle.lard_rules.specs.declared.node.BackIn.TheVariants as back
use Rattle.lard_rules.specs.declared.front.FrontIn.TheVariants as input
use Rattle.lard_settling.specs.Written.{told_as}

-- Two machines behind steps of the same event, from machines that differ in these journals and numbers of events alone.
pub record AreAlike (J K : List Rec) (i k : ℕ) (e : Event) (m n : Machine) : Type 0 where
  pub base : Machine
  pub rows : List Rec
  pub left : m ≡ told_as base (J ++ rec.Event (i + 1) e ∷ rows) (i + 1)
  pub right : n ≡ told_as base (K ++ rec.Event (k + 1) e ∷ rows) (k + 1)

-- both are done, and related so, or neither is, for the same reason
abbrev pub BothDone : {A B : Type 0} → (A → A → Type 0) → Result A B → Result A B → Type 0
BothDone R (Ok m) (Ok n) = R m n
BothDone R (Err fault) (Err other) = fault ≡ other
BothDone R (Ok m) (Err other) = ⊥
BothDone R (Err fault) (Ok n) = ⊥

module _ {A B : Type 0} (R : A → A → Type 0) where
  -- where the second is done, so is the first
  pub first-done : (x y : Result A B) (n : A) → BothDone R x y → y ≡ Ok n → (m : A) × (x ≡ Ok m) × R m n
  first-done (Ok m) (Ok k) n both is = let same : k ≡ n = cc in (m, refl, subst (R m) same both)
  first-done (Ok m) (Err other) n both is = absurd both
  first-done (Err fault) (Ok k) n both is = absurd both
  first-done (Err fault) (Err other) n both is = cc

module _ (J K : List Rec) (i k : ℕ) (b : Machine) where
  -- both steps are done so, or neither is
  abbrev pub Alike : Event → Result Machine StepFault → Result Machine StepFault → Type 0
  Alike e x y = BothDone (AreAlike J K i k e) x y

  abbrev l : Machine
  l = told_as b J i

  abbrev r : Machine
  r = told_as b K k

  told-alike : (w : Machine) (e : Event) (own : List Rec) (p : Place) (o : Out) → AreAlike J K i k e (machine_told (told_as w J i) e own p o) (machine_told (told_as w K k) e own p o)
  unfolding machine_told
  told-alike w e own p o = record {
    base = record w { net = segments_sent w p o ++ packets_of p o.messages; answered = w.answered + o.answered };
    rows = own ++ o.notes ++ sent_records (length w.net + 1) p o.segments ++ o.gave ++ sent_records (length (segments_sent w p o) + 1) p o.messages ++ o.timers;
    left = refl;
    right = refl;
  }

  passed-alike : (w : Machine) (e : Event) (own : List Rec) → AreAlike J K i k e (passed (told_as w J i) e own) (passed (told_as w K k) e own)
  passed-alike w e own = record { base = w; rows = own; left = refl; right = refl }

  client-alike : (e : Event) (own : List Rec) (c iss : ℕ) (was : Bool) (given : ClientBlock × Turn) → AreAlike J K i k e (client_acted l e own c iss was given) (client_acted r e own c iss was given)
  client-alike e own c iss was given = told-alike (client_put b c (record { client = given.0; iss = iss })) e own (place.Client c) (out_of (place.Client c) c was (is_client_armed given.0) given.1)

  goes-alike : (e : Event) (own : List Rec) (c : ℕ) (x : Station) (given : ClientBlock × Turn) → AreAlike J K i k e (client_goes_on l e own c x given) (client_goes_on r e own c x given)
  goes-alike e own c x given = client-alike e own c x.iss (is_client_armed x.client) given

  given-alike : (e : Event) (own : List Rec) (given : FrontState × Out) → AreAlike J K i k e (front_gave l e own given) (front_gave r e own given)
  given-alike e own given = told-alike (record b { front = given.0 }) e own place.Front given.1

  front-alike : (e : Event) (own : List Rec) (x : FrontIn) → AreAlike J K i k e (front_acts l e own x) (front_acts r e own x)
  front-alike e own x = given-alike e own (front_step (front_setting b) b.front x)

  gave-alike : (e : Event) (own : List Rec) (n : ℕ) (given : NodeState × Out) → AreAlike J K i k e (node_gave l e own n given) (node_gave r e own n given)
  gave-alike e own n given = told-alike (record b { nodes = slice_set b.nodes (n - 1) given.0 }) e own (place.Node n) given.1

  node-alike : (e : Event) (own : List Rec) (n : ℕ) (x : BackIn) (s : Option NodeState) → AreAlike J K i k e (node_acts l e own n x s) (node_acts r e own n x s)
  node-alike e own n x None = passed-alike b e own
  node-alike e own n x (Some s) = gave-alike e own n (node_step (node_setting b n) s x)

  -- of two answers by a test
  either : (e : Event) (t : Bool) (x y u v : Result Machine StepFault) → Alike e x u → Alike e y v → Alike e (cond t x y) (cond t u v)
  either e true x y u v h g = h
  either e false x y u v h g = g

  opened-alike : (c isn iss wnd mss : ℕ) (o : Option Station) → Alike (event.Open c isn iss wnd mss) (machine_opened l c isn iss wnd mss o) (machine_opened r c isn iss wnd mss o)
  unfolding machine_opened
  opened-alike c isn iss wnd mss None = client-alike (event.Open c isn iss wnd mss) (rec.Opened c isn iss wnd mss ∷ []) c iss false (client_opens c isn wnd mss)
  opened-alike c isn iss wnd mss (Some x) = refl

  wrote-alike : (e : Event) (c : ℕ) (bytes : List ℕ) (o : Option Station) → Alike e (machine_wrote l e c bytes o) (machine_wrote r e c bytes o)
  unfolding machine_wrote
  wrote-alike e c bytes None = refl
  wrote-alike e c bytes (Some x) = either e (nat_lt b.config.stream (written_len x.client bytes)) _ _ _ _ refl (goes-alike e [] c x (client_writes x.client bytes))

  does-alike : (e : Event) (own : List Rec) (c : ℕ) (rule : ClientBlock → ClientBlock × Turn) (o : Option Station) → Alike e (client_acts l e own c rule o) (client_acts r e own c rule o)
  unfolding client_acts
  does-alike e own c rule None = refl
  does-alike e own c rule (Some x) = goes-alike e own c x (rule x.client)

  timer-alike : (p : Place) (c : ℕ) (o : Option Station) → Alike (event.Timer p c) (timer l p c o) (timer r p c o)
  unfolding timer
  timer-alike p c None = refl
  timer-alike place.Front c (Some x) = front-alike (event.Timer place.Front c) [] (input.Timer c)
  timer-alike (place.Client d) c (Some x) = goes-alike (event.Timer (place.Client d) c) [] c x (client_timer x.client)
  timer-alike (place.Node n) c (Some x) = either (event.Timer (place.Node n) c) (is_no_node b.config.nodes n) _ _ _ _ refl (node-alike (event.Timer (place.Node n) c) [] n (back.Timer c) (node_at b.nodes n))

  front-gets-alike : (q : ℕ) (bytes : List ℕ) (c : ℕ) (o : Option Station) → AreAlike J K i k (event.Deliver q) (machine_to_front l q bytes c o) (machine_to_front r q bytes c o)
  front-gets-alike q bytes c None = passed-alike b (event.Deliver q) (rec.Got q ∷ [])
  front-gets-alike q bytes c (Some x) = front-alike (event.Deliver q) (rec.Got q ∷ []) (input.Segment c (record { 0 = x.iss }) bytes)

  client-gets-alike : (q : ℕ) (bytes : List ℕ) (c : ℕ) (o : Option Station) → AreAlike J K i k (event.Deliver q) (machine_to_client l q bytes c o) (machine_to_client r q bytes c o)
  client-gets-alike q bytes c None = passed-alike b (event.Deliver q) (rec.Got q ∷ [])
  client-gets-alike q bytes c (Some x) = goes-alike (event.Deliver q) (rec.Got q ∷ []) c x (client_gets x.client (decoded bytes c ToClient))

  from-alike : (q : ℕ) (bytes : List ℕ) (from : Place) → AreAlike J K i k (event.Deliver q) (from_place l q bytes from) (from_place r q bytes from)
  from-alike q bytes (place.Client c) = front-gets-alike q bytes c (table.get b.clients c)
  from-alike q bytes place.Front = passed-alike b (event.Deliver q) (rec.Got q ∷ [])
  from-alike q bytes (place.Node n) = front-alike (event.Deliver q) (rec.Got q ∷ []) (input.Message n bytes)

  place-alike : (q : ℕ) (p : Packet) (to : Place) → AreAlike J K i k (event.Deliver q) (to_place l q p to) (to_place r q p to)
  place-alike q p place.Front = from-alike q p.bytes p.from
  place-alike q p (place.Client c) = client-gets-alike q p.bytes c (table.get b.clients c)
  place-alike q p (place.Node n) = node-alike (event.Deliver q) (rec.Got q ∷ []) n (back.Message p.from p.bytes) (node_at b.nodes n)

  delivered-alike : (q : ℕ) (o : Option Packet) → Alike (event.Deliver q) (delivered l q o) (delivered r q o)
  unfolding delivered
  delivered-alike q None = refl
  delivered-alike q (Some p) = either (event.Deliver q) p.lost _ _ _ _ refl (place-alike q p p.to)

  lost-alike : (q : ℕ) (o : Option Packet) → Alike (event.Lose q) (lost l q o) (lost r q o)
  unfolding lost
  lost-alike q None = refl
  lost-alike q (Some p) = either (event.Lose q) p.lost _ _ _ _ refl (passed-alike (record b { net = lose_at (q - 1) b.net }) (event.Lose q) (rec.Lost q ∷ []))

  disk-alike : (n j : ℕ) (o : Option NodeState) → Alike (event.Disk n j) (disk_at l n j o) (disk_at r n j o)
  disk-alike n j None = refl
  disk-alike n j (Some s) = either (event.Disk n j) (is_no_job s j) _ _ _ _ refl (gave-alike (event.Disk n j) [] n (node_step (node_setting b n) s (back.Disk j)))

  completes-alike : (n j : ℕ) → Alike (event.Disk n j) (completes l n j) (completes r n j)
  unfolding completes
  completes-alike n j = either (event.Disk n j) (is_no_node b.config.nodes n) _ _ _ _ refl (disk-alike n j (node_at b.nodes n))

  drained-alike : (n : ℕ) → Alike (event.Drain n) (drained l n) (drained r n)
  unfolding drained
  drained-alike n = either (event.Drain n) (is_no_node b.config.nodes n) _ _ _ _ refl
      (either (event.Drain n) (has_other_open b.front.dispatch.books.loads n) _ _ _ _ (front-alike (event.Drain n) [] (input.Drain n)) refl)

  clocked-alike : (ms : ℕ) → AreAlike J K i k (event.Clock ms) (clocked l ms) (clocked r ms)
  unfolding clocked
  clocked-alike ms = passed-alike (record b { now = b.now + ms }) (event.Clock ms) (rec.Clock (record { 0 = b.now + ms }) ∷ [])

  pub happens-alike : (e : Event) → HasRule e → Alike e (happens l e) (happens r e)
  happens-alike (event.Open c isn iss wnd mss) rule = opened-alike c isn iss wnd mss (table.get b.clients c)
  happens-alike (event.Get c path) rule = wrote-alike (event.Get c path) c (request path) (table.get b.clients c)
  happens-alike (event.Write c bytes) rule = wrote-alike (event.Write c bytes) c bytes (table.get b.clients c)
  happens-alike (event.Shut c) rule = does-alike (event.Shut c) [] c client_shuts (table.get b.clients c)
  happens-alike (event.Abort c) rule = does-alike (event.Abort c) [] c client_aborts (table.get b.clients c)
  happens-alike (event.Hold c) rule = does-alike (event.Hold c) [] c client_holds (table.get b.clients c)
  happens-alike (event.Take c) rule = does-alike (event.Take c) [] c client_takes (table.get b.clients c)
  happens-alike (event.Inject c bytes) rule = does-alike (event.Inject c bytes) (rec.Injected c ∷ []) c (λ x. client_injects x bytes) (table.get b.clients c)
  happens-alike (event.Deliver q) rule = delivered-alike q (packet_at b.net q)
  happens-alike (event.Lose q) rule = lost-alike q (packet_at b.net q)
  happens-alike (event.Timer p c) rule = timer-alike p c (table.get b.clients c)
  happens-alike (event.Disk n j) rule = completes-alike n j
  happens-alike (event.Drain n) rule = drained-alike n
  happens-alike (event.Clock ms) rule = clocked-alike ms
  happens-alike (event.Settle rounds) rule = absurd rule
