-- A step leads from run to run.
use Rattle.std.proofs.Common.{◌≡◌, ◌+◌, ◌-◌, ℕ, Bool, List, [], ◌∷◌, ◌++◌, true, false, cond, length, nat_lt, Option, Some, None, Result, Ok, Err, OnErr, OnOk, refl, sym, ap, ◌∙◌, subst, append-nil}
use Rattle.std.proofs.lemmas.Bool.{both_ways}
use Rattle.std.specs.FinMap as table
use Rattle.std.specs.Prelude.{is_err, slice_set}
use Rattle.lard_base.specs.declared.config.Config.{Config}
use Rattle.lard_base.specs.declared.event.Event.{Event}
use Rattle.lard_base.specs.declared.event.Event.TheVariants as event
use Rattle.lard_base.specs.declared.place.Place.{Place}
use Rattle.lard_base.specs.declared.place.Place.TheVariants as place
use Rattle.lard_client.specs.Control.{ClientBlock, is_client_armed, written_len}
use Rattle.lard_dispatch.specs.Tally.{has_other_open}
use Rattle.lard_rules.specs.Bounds.{HasRule}
use Rattle.lard_rules.specs.Machine.{IsReached, Steps, client_acted, client_acts, client_goes_on, client_put, clocked, completes, delivered, disk_at, drained, from_place, front_acts, front_gave, front_setting, happens, is_no_job, is_no_node, limit_reached, lost, machine_step, node_acts, node_at, node_gave, node_setting, machine_opened, timer, passed, machine_to_client, machine_to_front, to_place, machine_told, told_rows, unless_limit, machine_wrote}
use Rattle.lard_rules.specs.declared.fault.StepFault.{StepFault}
use Rattle.lard_rules.specs.declared.fault.StepFault.TheVariants.{Refused, Limit, NoMemory}
use Rattle.lard_rules.specs.declared.machine.Machine.{Machine}
use Rattle.lard_laws.specs.Lawful.{IsLawful}
use Rattle.lard_laws.proofs.Lawful.{journals-lawful}
use Rattle.lard_world.specs.Runs.{IsRun}
use Rattle.lard_laws.proofs.RunsHear.{run-hears}
use Rattle.lard_stepping.specs.Sound.{IsSet, IsMachineSound, MayReach, MayDeliver, MayHear, MayStep}
use Rattle.lard_world.specs.World.{is_short}
use Rattle.lard_stepping.proofs.Sound.{closed_sound}
use Rattle.lard_files.specs.Files.{file_at}
use Rattle.lard_journal.specs.Inner.{inner_of, turned_at}
use Rattle.lard_journal.specs.declared.rec.Rec.{Rec}
use Rattle.lard_journal.specs.declared.rec.Rec.TheVariants as rec
use Rattle.lard_rules.specs.declared.front.FrontState.{FrontState}
use Rattle.lard_rules.specs.FrontPlace.{front_step}
use Rattle.lard_history.specs.Journal.{request}
use Rattle.lard_rules.specs.declared.fault.What.{What}
use Rattle.lard_net.specs.Net.{Packet, lose_at, packet_at}
use Rattle.lard_rules.specs.declared.node.BackIn.{BackIn}
use Rattle.lard_rules.specs.declared.node.BackIn.TheVariants as back
use Rattle.lard_rules.specs.declared.node.NodeState.{NodeState}
use Rattle.lard_rules.specs.NodePlace.{node_step}
use Rattle.lard_rules.specs.declared.front.FrontIn.{FrontIn}
use Rattle.lard_rules.specs.declared.front.FrontIn.TheVariants as input
use Rattle.lard_rules.specs.declared.places.Out.{Out}
use Rattle.lard_rules.specs.declared.places.Station.{Station}
use Rattle.lard_rules.specs.declared.places.Turn.{Turn}
use Rattle.lard_rules.specs.Outs.{out_of}
use Rattle.lard_rules.specs.Client.{client_opens, client_writes, client_shuts, client_holds, client_takes, client_aborts, client_timer, client_gets, client_injects}
use Rattle.lard_segment.specs.declared.segment.Dir.TheVariants.{ToClient}
use Rattle.lard_segment.specs.Segment.{decoded}
use Rattle.lard_law_settles.specs.Enough.{RestsWithEnough}
use Rattle.lard_law_settles.proofs.EnoughLaw.{settles-rest}
use Rattle.lard_settling.specs.Settling.{BeginsByMark, IsFrontOf, is_mark}
use Rattle.lard_settling.specs.Steps.{as_inner, inner_given, inner_step, settle_begun, settle_closed}
use Rattle.lard_settling.specs.Written.{IsWrittenOut, told_as, written_out}
use Rattle.lard_settling.proofs.Written.{given-done, written}

-- ---- a step changes neither the numbers of the run nor its files, and takes no record back

pub record GoesOn (m n : Machine) : Type 0 where
  pub config : n.config ≡ m.config
  pub files : n.files ≡ m.files
  pub more : List Rec
  pub journal : n.journal ≡ m.journal ++ more
  pub begins : BeginsByMark more

abbrev Goes : Machine → Result Machine StepFault → Type 0
Goes m (Ok n) = GoesOn m n
Goes m (Err fault) = Unit {0}

module _ (m : Machine) where
  -- a place acted in w, which is m with what it keeps put back
  told-goes : (w : Machine) (e : Event) (own : List Rec) (p : Place) (o : Out) → w.config ≡ m.config → w.files ≡ m.files → w.journal ≡ m.journal → GoesOn m (machine_told w e own p o)
  unfolding machine_told
  told-goes w e own p o config files journal = record {
    config = config;
    files = files;
    more = told_rows w e own p o;
    journal = ap (λ (J : List Rec). J ++ told_rows w e own p o) journal;
    begins = refl;
  }

  -- none acted
  passed-goes : (w : Machine) (e : Event) (own : List Rec) → w.config ≡ m.config → w.files ≡ m.files → w.journal ≡ m.journal → GoesOn m (passed w e own)
  passed-goes w e own config files journal = record {
    config = config;
    files = files;
    more = rec.Event (w.events + 1) e ∷ own;
    journal = ap (λ (J : List Rec). J ++ rec.Event (w.events + 1) e ∷ own) journal;
    begins = refl;
  }

  client-goes : (e : Event) (own : List Rec) (c iss : ℕ) (was : Bool) (given : ClientBlock × Turn) → GoesOn m (client_acted m e own c iss was given)
  client-goes e own c iss was given = told-goes (client_put m c (record { client = given.0; iss = iss })) e own (place.Client c) (out_of (place.Client c) c was (is_client_armed given.0) given.1) refl refl refl

  goes-goes : (e : Event) (own : List Rec) (c : ℕ) (x : Station) (given : ClientBlock × Turn) → GoesOn m (client_goes_on m e own c x given)
  goes-goes e own c x given = client-goes e own c x.iss (is_client_armed x.client) given

  given-goes : (e : Event) (own : List Rec) (given : FrontState × Out) → GoesOn m (front_gave m e own given)
  given-goes e own given = told-goes (record m { front = given.0 }) e own place.Front given.1 refl refl refl

  front-goes : (e : Event) (own : List Rec) (i : FrontIn) → GoesOn m (front_acts m e own i)
  front-goes e own i = given-goes e own (front_step (front_setting m) m.front i)

  gave-goes : (e : Event) (own : List Rec) (n : ℕ) (given : NodeState × Out) → GoesOn m (node_gave m e own n given)
  gave-goes e own n given = told-goes (record m { nodes = slice_set m.nodes (n - 1) given.0 }) e own (place.Node n) given.1 refl refl refl

  node-goes : (e : Event) (own : List Rec) (n : ℕ) (i : BackIn) (s : Option NodeState) → GoesOn m (node_acts m e own n i s)
  node-goes e own n i None = passed-goes m e own refl refl refl
  node-goes e own n i (Some s) = gave-goes e own n (node_step (node_setting m n) s i)

  -- of two answers by a test
  either : (b : Bool) (x y : Result Machine StepFault) → Goes m x → Goes m y → Goes m (cond b x y)
  either true x y h k = h
  either false x y h k = k

  opened-goes : (c isn iss wnd mss : ℕ) (o : Option Station) → Goes m (machine_opened m c isn iss wnd mss o)
  unfolding machine_opened
  opened-goes c isn iss wnd mss None =
      client-goes (event.Open c isn iss wnd mss) (rec.Opened c isn iss wnd mss ∷ []) c iss false (client_opens c isn wnd mss)
  opened-goes c isn iss wnd mss (Some x) = tt

  wrote-goes : (e : Event) (c : ℕ) (bytes : List ℕ) (o : Option Station) → Goes m (machine_wrote m e c bytes o)
  unfolding machine_wrote
  wrote-goes e c bytes None = tt
  wrote-goes e c bytes (Some x) = either (nat_lt m.config.stream (written_len x.client bytes)) _ _ tt (goes-goes e [] c x (client_writes x.client bytes))

  does-goes : (e : Event) (own : List Rec) (c : ℕ) (rule : ClientBlock → ClientBlock × Turn) (o : Option Station) → Goes m (client_acts m e own c rule o)
  unfolding client_acts
  does-goes e own c rule None = tt
  does-goes e own c rule (Some x) = goes-goes e own c x (rule x.client)

  timer-goes : (p : Place) (c : ℕ) (o : Option Station) → Goes m (timer m p c o)
  unfolding timer
  timer-goes p c None = tt
  timer-goes place.Front c (Some x) = front-goes (event.Timer place.Front c) [] (input.Timer c)
  timer-goes (place.Client d) c (Some x) = goes-goes (event.Timer (place.Client d) c) [] c x (client_timer x.client)
  timer-goes (place.Node n) c (Some x) = either (is_no_node m.config.nodes n) _ _ tt (node-goes (event.Timer (place.Node n) c) [] n (back.Timer c) (node_at m.nodes n))

  front-gets-goes : (k : ℕ) (bytes : List ℕ) (c : ℕ) (o : Option Station) → GoesOn m (machine_to_front m k bytes c o)
  front-gets-goes k bytes c None = passed-goes m (event.Deliver k) (rec.Got k ∷ []) refl refl refl
  front-gets-goes k bytes c (Some x) = front-goes (event.Deliver k) (rec.Got k ∷ []) (input.Segment c (record { 0 = x.iss }) bytes)

  client-gets-goes : (k : ℕ) (bytes : List ℕ) (c : ℕ) (o : Option Station) → GoesOn m (machine_to_client m k bytes c o)
  client-gets-goes k bytes c None = passed-goes m (event.Deliver k) (rec.Got k ∷ []) refl refl refl
  client-gets-goes k bytes c (Some x) = goes-goes (event.Deliver k) (rec.Got k ∷ []) c x (client_gets x.client (decoded bytes c ToClient))

  from-goes : (k : ℕ) (bytes : List ℕ) (from : Place) → GoesOn m (from_place m k bytes from)
  from-goes k bytes (place.Client c) = front-gets-goes k bytes c (table.get m.clients c)
  from-goes k bytes place.Front = passed-goes m (event.Deliver k) (rec.Got k ∷ []) refl refl refl
  from-goes k bytes (place.Node n) = front-goes (event.Deliver k) (rec.Got k ∷ []) (input.Message n bytes)

  place-goes : (k : ℕ) (p : Packet) (to : Place) → GoesOn m (to_place m k p to)
  place-goes k p place.Front = from-goes k p.bytes p.from
  place-goes k p (place.Client c) = client-gets-goes k p.bytes c (table.get m.clients c)
  place-goes k p (place.Node n) = node-goes (event.Deliver k) (rec.Got k ∷ []) n (back.Message p.from p.bytes) (node_at m.nodes n)

  delivered-goes : (k : ℕ) (o : Option Packet) → Goes m (delivered m k o)
  unfolding delivered
  delivered-goes k None = tt
  delivered-goes k (Some p) = either p.lost _ _ tt (place-goes k p p.to)

  lost-goes : (k : ℕ) (o : Option Packet) → Goes m (lost m k o)
  unfolding lost
  lost-goes k None = tt
  lost-goes k (Some p) = either p.lost _ _ tt (passed-goes (record m { net = lose_at (k - 1) m.net }) (event.Lose k) (rec.Lost k ∷ []) refl refl refl)

  disk-goes : (n j : ℕ) (o : Option NodeState) → Goes m (disk_at m n j o)
  disk-goes n j None = tt
  disk-goes n j (Some s) = either (is_no_job s j) _ _ tt (gave-goes (event.Disk n j) [] n (node_step (node_setting m n) s (back.Disk j)))

  completes-goes : (n j : ℕ) → Goes m (completes m n j)
  unfolding completes
  completes-goes n j = either (is_no_node m.config.nodes n) _ _ tt (disk-goes n j (node_at m.nodes n))

  drains-goes : (n : ℕ) → Goes m (drained m n)
  unfolding drained
  drains-goes n =
      either (is_no_node m.config.nodes n) _ _ tt (either (has_other_open m.front.dispatch.books.loads n) _ _ (front-goes (event.Drain n) [] (input.Drain n)) tt)

  clocked-goes : (ms : ℕ) → GoesOn m (clocked m ms)
  unfolding clocked
  clocked-goes ms = passed-goes (record m { now = m.now + ms }) (event.Clock ms) (rec.Clock (record { 0 = m.now + ms }) ∷ []) refl refl refl

  happens-goes : (e : Event) → Goes m (happens m e)
  happens-goes (event.Open c isn iss wnd mss) = opened-goes c isn iss wnd mss (table.get m.clients c)
  happens-goes (event.Get c path) = wrote-goes (event.Get c path) c (request path) (table.get m.clients c)
  happens-goes (event.Write c bytes) = wrote-goes (event.Write c bytes) c bytes (table.get m.clients c)
  happens-goes (event.Shut c) = does-goes (event.Shut c) [] c client_shuts (table.get m.clients c)
  happens-goes (event.Abort c) = does-goes (event.Abort c) [] c client_aborts (table.get m.clients c)
  happens-goes (event.Hold c) = does-goes (event.Hold c) [] c client_holds (table.get m.clients c)
  happens-goes (event.Take c) = does-goes (event.Take c) [] c client_takes (table.get m.clients c)
  happens-goes (event.Inject c bytes) = does-goes (event.Inject c bytes) (rec.Injected c ∷ []) c (λ x. client_injects x bytes) (table.get m.clients c)
  happens-goes (event.Deliver k) = delivered-goes k (packet_at m.net k)
  happens-goes (event.Lose k) = lost-goes k (packet_at m.net k)
  happens-goes (event.Timer p c) = timer-goes p c (table.get m.clients c)
  happens-goes (event.Disk n j) = completes-goes n j
  happens-goes (event.Drain n) = drains-goes n
  happens-goes (event.Clock ms) = clocked-goes ms
  happens-goes (event.Settle rounds) = record { config = refl; files = refl; more = []; journal = sym (append-nil m.journal); begins = tt }

  unless-goes : (o : Option What) (given : Result Machine StepFault) → Goes m given → Goes m (unless_limit o given)
  unless-goes None given h = h
  unless-goes (Some what) given h = tt

  step-goes : (e : Event) → Goes m (machine_step m e)
  unfolding machine_step
  step-goes e = unless-goes (limit_reached m) (happens m e) (happens-goes e)

  pub step-goes-on : (n : Machine) (e : Event) → machine_step m e ≡ Ok n → GoesOn m n
  step-goes-on n e is = subst (Goes m) is (step-goes e)

-- ---- what leads on

-- n goes on from m, whose run it continues
module _ (m n : Machine) (same : GoesOn m n) where
  -- it is written out with its own numbers and files
  own-written : IsWrittenOut m.config m.files n → IsWrittenOut n.config n.files n
  own-written w = subst (λ (config : Config). IsWrittenOut config n.files n) (sym same.config) (subst (λ (files : List (List ℕ × List ℕ)). IsWrittenOut m.config files n) (sym same.files) w)

  pub on-run : IsRun m → IsWrittenOut m.config m.files n → IsMachineSound n → IsRun n
  on-run r w sound = record { reached = own-written w; set = subst IsSet (sym same.config) r.set; sound = sound }

step-written : (m n : Machine) (e : Event) → IsRun m → HasRule e → machine_step m e ≡ Ok n → IsWrittenOut m.config m.files n
step-written m n e r rule is = (written m.config m.files).steps m n e r.reached rule is

-- the record that begins a step still does as that of an inner step
mark-turned : (r : Rec) → is_mark r ≡ true → is_mark (inner_of r) ≡ true
mark-turned (rec.Event i e) h = refl
mark-turned _ h = h

begins-turned : (more : List Rec) → BeginsByMark more → BeginsByMark (turned_at 0 more)
begins-turned [] h = tt
begins-turned (r ∷ rs) h = mark-turned r h

pub turned-on : (J more : List Rec) → BeginsByMark more → IsFrontOf J (turned_at (length J) (J ++ more))
turned-on [] more h = (turned_at 0 more, refl, begins-turned more h)
turned-on (r ∷ J) more h = let f = turned-on J more h in (f.0, ap (λ (l : List Rec). r ∷ l) f.1, f.2)

pub inner-goes-on : (m n : Machine) (e : Event) → inner_step m e ≡ Ok n → GoesOn m n
unfolding inner_step
inner-goes-on m n e is =
    let x = given-done (as_inner m) (inner_given m) (λ k. refl) (λ fault. refl) (machine_step m e) n is in
    let on : GoesOn m x.0 = step-goes-on m x.0 e x.1 in
    let rows = turned-on m.journal on.more on.begins in
    subst (GoesOn m) (sym x.2) (record { config = on.config; files = on.files; more = rows.0; journal = ap (turned_at (length m.journal)) on.journal ∙ rows.1; begins = rows.2 })

begun-is : (m n : Machine) (rounds : ℕ) → settle_begun m rounds ≡ Ok n → passed m (event.Settle rounds) [] ≡ n
unfolding settle_begun
begun-is m n rounds = go (limit_reached m) where
  go : (o : Option What) → unless_limit o (Ok (passed m (event.Settle rounds) [])) ≡ Ok n → passed m (event.Settle rounds) [] ≡ n
  go None is = cc
  go (Some what) is = cc

pub begun-goes-on : (m n : Machine) (rounds : ℕ) → settle_begun m rounds ≡ Ok n → GoesOn m n
begun-goes-on m n rounds is = subst (GoesOn m) (begun-is m n rounds is) (record { config = refl; files = refl; more = rec.Event (m.events + 1) (event.Settle rounds) ∷ []; journal = refl; begins = refl })

-- ---- what a call says

-- the journal of a world that has run, with its settles written out, obeys the laws
pub run-lawful : (m : Machine) → IsRun m → IsLawful m.config (file_at m.files) (written_out m.journal)
run-lawful m r = subst (IsLawful m.config (file_at m.files)) r.reached.journal (journals-lawful m.config m.files r.reached.plain r.set.usable r.reached.reached)

module _ (old new : Machine) (run : IsRun old) where
  abbrev Lawful : Machine → Type 0
  Lawful m = IsLawful old.config (file_at old.files) (written_out m.journal)

  -- so do those of all that its run leads to
  on-lawful : GoesOn old new → IsWrittenOut old.config old.files new → Lawful new
  on-lawful on w = subst (IsLawful old.config (file_at old.files)) w.journal (journals-lawful old.config old.files w.plain run.set.usable w.reached)

  module _ (given : Result Machine StepFault) (leads : given ≡ Ok new → GoesOn old new × IsWrittenOut old.config old.files new) where
    -- and obeys them after a call that does what is given, done or not
    pub still-lawful : (result : Result (Unit {0}) StepFault) → Steps given old new result → Lawful new
    still-lawful (Ok done) steps = on-lawful (leads steps).0 (leads steps).1
    still-lawful (Err NoMemory) steps = subst (λ (J : List Rec). IsLawful old.config (file_at old.files) (written_out J)) (sym steps) (run-lawful old run)
    still-lawful (Err (Refused reason)) steps = subst Lawful (sym steps.0) (run-lawful old run)
    still-lawful (Err (Limit what)) steps = subst Lawful (sym steps.0) (run-lawful old run)

    -- a world whose memory sufficed has run
    pub runs-on : (result : Result (Unit {0}) StepFault) → Steps given old new result → OnOk result (IsMachineSound new) → is_short result ≡ false → IsRun new
    runs-on (Ok done) steps sound some = on-run old new (leads steps).0 run (leads steps).1 sound
    runs-on (Err NoMemory) steps sound some = absurd (both_ways true some refl)
    runs-on (Err (Refused reason)) steps sound some = subst IsRun (sym steps.0) run
    runs-on (Err (Limit what)) steps sound some = subst IsRun (sym steps.0) run

  -- what the calls of a world do leads on
  pub step-leads : (e : Event) → HasRule e → machine_step old e ≡ Ok new → GoesOn old new × IsWrittenOut old.config old.files new
  step-leads e rule is = (step-goes-on old new e is, step-written old new e run rule is)

  pub inner-leads : (e : Event) → HasRule e → inner_step old e ≡ Ok new → GoesOn old new × IsWrittenOut old.config old.files new
  inner-leads e rule is = (inner-goes-on old new e is, (written old.config old.files).inner_steps old new e run.reached rule is)

  pub begun-leads : (rounds : ℕ) → settle_begun old rounds ≡ Ok new → GoesOn old new × IsWrittenOut old.config old.files new
  begun-leads rounds is = (begun-goes-on old new rounds is, (written old.config old.files).settle old new rounds run.reached is)

-- what holds of a call that is done, where it is
pub where-done : {A B : Type 0} (result : Result A B) (P : Type 0) → OnOk result P → is_err result ≡ false → P
where-done (Ok done) P h fine = h
where-done (Err fault) P h fine = absurd (both_ways true fine refl)

-- a settle that closes
pub closed-run : (m : Machine) (rounds left : ℕ) → IsRun m → IsRun (settle_closed m rounds left)
closed-run m rounds left r = record { reached = (written m.config m.files).closes m rounds left r.reached; set = r.set; sound = closed_sound m rounds left r.sound }

-- where it closes in a state with such numbers, it rests if its rounds were enough
pub closed-rests : {E : Type 0} (old new : Machine) (rounds left : ℕ) (result : Result (Unit {0}) E) → IsRun old → OnOk result (new ≡ settle_closed old rounds left) → OnOk result (RestsWithEnough new)
closed-rests old new rounds left (Ok done) run is = subst RestsWithEnough (sym is) (settles-rest (settle_closed old rounds left) run.set.usable)
closed-rests old new rounds left (Err fault) run is = tt

-- closed or not, its journal obeys the laws
pub closed-lawful : {E : Type 0} (old new : Machine) (rounds left : ℕ) (result : Result (Unit {0}) E) → IsRun old → OnOk result (new ≡ settle_closed old rounds left) → OnErr result (new.journal ≡ old.journal)
    → IsLawful old.config (file_at old.files) (written_out new.journal)
closed-lawful old new rounds left (Ok done) run is same = subst (λ (m : Machine). IsLawful old.config (file_at old.files) (written_out m.journal)) (sym is) (run-lawful (settle_closed old rounds left) (closed-run old rounds left run))
closed-lawful old new rounds left (Err fault) run is same = subst (λ (J : List Rec). IsLawful old.config (file_at old.files) (written_out J)) (sym same) (run-lawful old run)

-- ---- what comes to the front end

-- in a run without settles
plain-hears : (config : Config) (files : List (List ℕ × List ℕ)) (m : Machine) (J : List Rec) (events : ℕ) → IsReached config files m → (e : Event) → MayStep (told_as m J events) e
plain-hears config files m J events r (event.Deliver k) = go (packet_at m.net k) refl where
  from-place : (p : Packet) → packet_at m.net k ≡ Some p → p.to ≡ place.Front → (from : Place) → p.from ≡ from → MayHear (told_as m J events) p.bytes from
  from-place p at goal (place.Node n) sender = run-hears config files m r k p n at sender goal
  from-place p at goal _ sender = tt

  to-place : (p : Packet) → packet_at m.net k ≡ Some p → (to : Place) → p.to ≡ to → MayReach (told_as m J events) p.bytes p.from to
  to-place p at place.Front goal = from-place p at goal p.from refl
  to-place p at _ goal = tt

  go : (o : Option Packet) → packet_at m.net k ≡ o → MayDeliver (told_as m J events) o
  go None at = tt
  go (Some p) at = to-place p at p.to refl
plain-hears config files m J events r _ = tt

pub run-steps : (m : Machine) → IsRun m → (e : Event) → MayStep m e
run-steps m run e = subst (λ (n : Machine). MayStep n e) (sym run.reached.same) (plain-hears m.config m.files run.reached.plain m.journal m.events run.reached.reached e)
