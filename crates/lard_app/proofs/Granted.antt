-- All records of a run with settles are in range.
use Rattle.std.proofs.Common.{◌≡◌, ◌⊎◌, inl, inr, ◌≤◌, ◌<◌, ℕ, zero, suc, ◌+◌, Bool, true, false, cond, List, [], ◌∷◌, ◌++◌, length, replicate, Option, Some, None, Result, Ok, Err, refl, sym, ap, ◌∙◌, subst, arith, length-append}
use Rattle.std.proofs.lemmas.Bool.Decides.{nat_tests}
use Rattle.std.proofs.lemmas.Option.{slice_get_within}
use Rattle.std.specs.FinMap.{FinMap, entries, get, get-empty, get-insert, get-remove, insert, keys, remove, values}
use Rattle.std.specs.List.{fold}
use Rattle.std.specs.Ordering.{eq_by_cmp, nat_cmp}
use Rattle.std.specs.Cmp.{nat_cmp_total}
use Rattle.std.specs.Prelude.{All}
use Rattle.lard_agenda.specs.Agenda.{agenda_of, held_by, holders, on_way, held_step, noted_by, nothing_noted, way_step}
use Rattle.lard_agenda.specs.declared.agenda.Agenda.{Agenda}
use Rattle.lard_law_view.specs.Prelude.{Config, Event, HasRule, IsEventInRange, IsNumber, IsPlaceInRange, IsRecordInRange, MAX_RECORDS, Machine, NodeState, Rec, StepFault, config_check, machine_start, machine_step, node_at}
use Rattle.lard_base.specs.declared.event.Event.TheVariants as event
use Rattle.lard_laws.specs.Records.{IsRunFile, IsScheduled}
use Rattle.lard_laws.proofs.RecordsReached.{records-ranges}
use Rattle.lard_history.proofs.Each.{Each, Each-append, Each-weaker}
use Rattle.lard_journal.specs.declared.rec.Rec.TheVariants as rec
use Rattle.lard_law_view.proofs.ByteLists.{all-each, each-all}
use Rattle.lard_settling.specs.Events.{EndsInside, GoesThrough, LeadsTo, MayCome, event_step, stepped_from}
use Rattle.lard_settling.specs.Settling.{Stop, completions, deliveries, firings, settle_left, takes}
use Rattle.lard_settling.specs.Left.{is_holder, jobs_of}
use Rattle.lard_settling.specs.Steps.{closing, inner_step, settle_begun, settle_closed}
use Rattle.lard_settling.specs.Written.{IsWrittenOut, is_settle, steps_with, written_from, written_rec}
use Rattle.lard_settling.proofs.Plain.{AreUnmarked, is_mark}
use Rattle.lard_settling.proofs.Written.{written}
use Rattle.lard_app.specs.Replay.{came_to}
use Rattle.lard_app.specs.Happened.{step_of, step_told, steps_told}
use Rattle.lard_law_settles.proofs.Events.{begun-is, either-kind, plain-rule, plain-step}
use Rattle.lard_law_settles.proofs.Few.{config-is, few-left}
use Rattle.lard_law_settles.proofs.Firing.{IsInner, OfTimer, each-filter, each-map, each-parts, entries-each, firings-each, firings-inner, inner-rule}
use Rattle.lard_law_settles.proofs.Given.{begun-few, InnerRows, StepRows, inner-rows, step-rows}
use Rattle.lard_law_settles.proofs.Inside.{KeptInside, SettleLands, settle-lands}
use Rattle.lard_app.proofs.Reached.{Told, written-told}
use Rattle.lard_app.proofs.Telling.{plain-events}

-- ---- what a record of a step or a settle was given

abbrev pub IsGranted : Rec → Type 0
IsGranted (rec.Event i e) = IsNumber i × IsScheduled e
IsGranted (rec.Inner e) = IsScheduled e
IsGranted (rec.Settled rounds) = IsNumber rounds
IsGranted (rec.Unsettled rounds left) = IsNumber rounds × IsNumber left
IsGranted _ = Unit {0}

abbrev AreGranted : List Rec → Type 0
AreGranted J = Each IsGranted J

unmarked-granted : (r : Rec) → is_mark r ≡ false → IsGranted r
unmarked-granted (rec.Event i e) h = cc
unmarked-granted (rec.Inner e) h = cc
unmarked-granted (rec.Settled rounds) h = cc
unmarked-granted (rec.Unsettled rounds left) h = cc
unmarked-granted _ h = tt

rows-granted : (rs : List Rec) → AreUnmarked rs → AreGranted rs
rows-granted rs h = Each-weaker (λ r. is_mark r ≡ false) IsGranted unmarked-granted rs h

-- ---- the events of the steps

step-granted : (e : Event) → IsScheduled e → Each IsScheduled (step_of e)
step-granted e h = go (is_settle e) where
  go : (b : Bool) → Each IsScheduled (cond b [] (e ∷ []))
  go true = tt
  go false = (h, tt)

rec-granted : (r : Rec) → IsGranted r → Each IsScheduled (step_told r)
rec-granted (rec.Event i e) h = step-granted e h.1
rec-granted (rec.Inner e) h = step-granted e h
rec-granted _ h = tt

told-granted : (J : List Rec) → AreGranted J → Each IsScheduled (steps_told J)
told-granted [] h = tt
told-granted (r ∷ J) h = Each-append IsScheduled (step_told r) (steps_told J) (rec-granted r h.0) (told-granted J h.1)

-- ---- ranges

rec-ranged : (i : ℕ) (r : Rec) → IsGranted r → Each IsRecordInRange (written_rec i r) → IsRecordInRange r
rec-ranged i (rec.Event k e) g h = (g.0, g.1.0)
rec-ranged i (rec.Inner e) g h = g.0
rec-ranged i (rec.Settled rounds) g h = g
rec-ranged i (rec.Unsettled rounds left) g h = g
rec-ranged i _ g h = h.0

all-ranged : (i : ℕ) (J : List Rec) → AreGranted J → Each IsRecordInRange (written_from i J) → Each IsRecordInRange J
all-ranged i [] g h = tt
all-ranged i (r ∷ J) g h =
    let parts = each-parts IsRecordInRange (written_rec i r) (written_from (steps_with i r) J) h in
    (rec-ranged i r g.0 parts.0, all-ranged (steps_with i r) J g.1 parts.1)

-- ---- what an agenda keeps is in range

same-key : (q k : ℕ) → eq_by_cmp nat_cmp q k ≡ true → q ≡ k
same-key q k h = grind (arith, nat_tests, h)

module _ {X : Type 0} (P : ℕ → X → Type 0) where
  -- each value that a map has
  abbrev AreSo : FinMap nat_cmp X → Type 0
  AreSo m = (k : ℕ) (v : X) → get m k ≡ Some v → P k v

  insert-so : (m : FinMap nat_cmp X) (k : ℕ) (w : X) → AreSo m → P k w → AreSo (insert m k w)
  insert-so m k w h p q v e = go (eq_by_cmp nat_cmp q k) refl (sym (get-insert nat_cmp_total m k w q) ∙ e) where
    go : (b : Bool) → eq_by_cmp nat_cmp q k ≡ b → cond b (Some w) (get m q) ≡ Some v → P q v
    go true t is = let same : w ≡ v = cc in subst (λ n. P n v) (sym (same-key q k t)) (subst (P k) same p)
    go false t is = h q v is

  remove-so : (m : FinMap nat_cmp X) (k : ℕ) → AreSo m → AreSo (remove m k)
  remove-so m k h q v e = go (eq_by_cmp nat_cmp q k) (sym (get-remove nat_cmp_total m k q) ∙ e) where
    go : (b : Bool) → cond b None (get m q) ≡ Some v → P q v
    go true is = cc
    go false is = h q v is

  empty-so : (m : FinMap nat_cmp X) → ((q : ℕ) → get m q ≡ None) → AreSo m
  empty-so m none q v e = let h : None ≡ Some v = sym (none q) ∙ e in absurd cc

-- a packet's number, and a client's
abbrev IsWay : ℕ → Unit {0} → Type 0
IsWay k u = IsNumber k

abbrev IsHeld : ℕ → ℕ → Type 0
IsHeld k c = IsNumber c

one-way : (way : FinMap nat_cmp (Unit {0})) (r : Rec) → IsRecordInRange r → AreSo IsWay way → AreSo IsWay (way_step way r)
one-way way (rec.Sent k from to bytes) g h = insert-so IsWay way k tt h g.0
one-way way (rec.Got k) g h = remove-so IsWay way k h
one-way way (rec.Lost k) g h = remove-so IsWay way k h
one-way way _ g h = h

event-held : (held : FinMap nat_cmp ℕ) (e : Event) → IsEventInRange e → AreSo IsHeld held → AreSo IsHeld (held_by held e)
event-held held (event.Hold c) g h = insert-so IsHeld held c c h g
event-held held (event.Take c) g h = remove-so IsHeld held c h
event-held held _ g h = h

one-held : (held : FinMap nat_cmp ℕ) (r : Rec) → IsRecordInRange r → AreSo IsHeld held → AreSo IsHeld (held_step held r)
one-held held (rec.Event i e) g h = event-held held e g.1 h
one-held held (rec.Inner e) g h = event-held held e g h
one-held held _ g h = h

all-kept : (J : List Rec) (a : Agenda) → Each IsRecordInRange J → AreSo IsWay a.way → AreSo IsHeld a.held → AreSo IsWay (fold noted_by a J).way × AreSo IsHeld (fold noted_by a J).held
all-kept [] a g h k = (h, k)
all-kept (r ∷ J) a g h k = all-kept J (noted_by a r) g.1 (one-way a.way r g.0 h) (one-held a.held r g.0 k)

agenda-kept : (J : List Rec) → Each IsRecordInRange J → AreSo IsWay (agenda_of J).way × AreSo IsHeld (agenda_of J).held
unfolding agenda_of
agenda-kept J g = all-kept J nothing_noted g (empty-so IsWay nothing_noted.way (λ q. get-empty nat_cmp q)) (empty-so IsHeld nothing_noted.held (λ q. get-empty nat_cmp q))

timer-ranged : (r : Rec) → IsRecordInRange r → OfTimer (λ p c. IsPlaceInRange p × IsNumber c) r
timer-ranged (rec.Armed p c kind) g = g
timer-ranged (rec.Cleared p c kind) g = g
timer-ranged _ g = tt

each-both : {A : Type 0} (P Q : A → Type 0) (xs : List A) → Each P xs → Each Q xs → Each (λ x. P x × Q x) xs
each-both P Q [] h k = tt
each-both P Q (x ∷ xs) h k = ((h.0, k.0), each-both P Q xs h.1 k.1)

replicate-each : {A : Type 0} (P : A → Type 0) (n : ℕ) (x : A) → P x → Each P (replicate n x)
replicate-each P zero x h = tt
replicate-each P (suc n) x h = (h, replicate-each P n x h)

-- ---- a state

-- It can be written out, and what its records were given is in range.
pub record IsGrantedBy (config : Config) (files : List (List ℕ × List ℕ)) (m : Machine) : Type 0 where
  pub written : IsWrittenOut config files m
  pub all : AreGranted m.journal
  pub events : m.events ≤ length m.journal

closing-granted : (done left : ℕ) → IsNumber done → IsNumber left → IsGranted (closing done left)
closing-granted done zero h few = h
closing-granted done (suc left) h few = (h, few)

-- an event's number, where few records stand before it
numbered : (events records : ℕ) → events ≤ records → records < MAX_RECORDS → IsNumber (events + 1)
numbered events records le few = omega (arith, le, few)

module _ (config : Config) (files : List (List ℕ × List ℕ)) (checked : config_check config ≡ Ok tt) (nodes : IsNumber config.nodes) (are : Each IsRunFile files) where
  abbrev Is : Machine → Type 0
  Is m = IsGrantedBy config files m

  -- the events of the run without settles
  pub granted-events : (m : Machine) (g : Is m) → Each IsScheduled g.written.reached.0
  granted-events m g = subst (Each IsScheduled) (sym (plain-events config files m g.written)) (told-granted m.journal g.all)

  pub granted-ranged : (m : Machine) → Is m → Each IsRecordInRange m.journal
  granted-ranged m g =
      let w : IsWrittenOut config files m = g.written in
      let es : List Event = w.reached.0 in
      let given : Each IsScheduled es = granted-events m g in
      let all : All IsRecordInRange w.plain.journal = records-ranges config files es w.plain checked (each-all IsRunFile files are) (each-all IsScheduled es given) w.reached.1 in
      all-ranged 0 m.journal g.all (subst (Each IsRecordInRange) w.journal (all-each IsRecordInRange w.plain.journal all))

  -- an event of an inner step
  abbrev IsInnerGiven : Event → Type 0
  IsInnerGiven e = IsInner e × IsScheduled e

  -- one record that was given stands behind others, with rows that were not
  more-granted : (J rows : List Rec) (r : Rec) → AreGranted J → IsGranted r → AreUnmarked rows → AreGranted (J ++ r ∷ rows)
  more-granted J rows r h g plain = Each-append IsGranted J (r ∷ rows) h (g, rows-granted rows plain)

  longer : (J rows : List Rec) (r : Rec) → length J + 1 ≤ length (J ++ r ∷ rows)
  longer J rows r = let sum : length (J ++ r ∷ rows) ≡ length J + length (r ∷ rows) = length-append J (r ∷ rows) in omega (arith, sum)

  inner-granted : (m n : Machine) (e : Event) → Is m → IsInnerGiven e → inner_step m e ≡ Ok n → Is n
  inner-granted m n e g q is =
      let on : InnerRows m e n = inner-rows config files m n e g.written (inner-rule e q.0) is in
      record {
        written = (written config files).inner_steps m n e g.written (inner-rule e q.0) is;
        all = subst AreGranted (sym on.are) (more-granted m.journal on.rows (rec.Inner e) g.all q.1 on.unmarked);
        events = let le = longer m.journal on.rows (rec.Inner e) in let long : length n.journal ≡ length (m.journal ++ rec.Inner e ∷ on.rows) = ap (λ (J : List Rec). length J) on.are in omega (arith, le, long, g.events, on.events);
      }

  closed-granted : (m : Machine) (done most : ℕ) → Is m → done ≤ most → IsNumber most → Is (settle_closed m done (settle_left m))
  closed-granted m done most g le small = record {
    written = (written config files).closes m done (settle_left m) g.written;
    all = more-granted m.journal [] (closing done (settle_left m)) g.all (closing-granted done (settle_left m) (omega (arith, le, small)) (let few = few-left config files m checked g.written in omega (arith, few))) tt;
    events = let more = longer m.journal [] (closing done (settle_left m)) in omega (arith, more, g.events);
  }

  take-given : (m : Machine) → Is m → Each IsInnerGiven (takes m)
  take-given m g =
      let kept = (agenda-kept m.journal (granted-ranged m g)).1 in
      let held : FinMap nat_cmp ℕ = (agenda_of m.journal).held in
      let each : Each IsNumber (values held) = each-map (λ (e : ℕ × ℕ). IsNumber e.1) IsNumber (λ (e : ℕ × ℕ). e.1) (λ e h. h) (entries held) (entries-each IsHeld held kept) in
      each-map IsNumber IsInnerGiven event.Take (λ c h. (tt, (h, tt))) _ (each-filter IsNumber (is_holder m) (holders (agenda_of m.journal)) each)

  deliver-given : (m : Machine) → Is m → Each IsInnerGiven (deliveries m)
  deliver-given m g =
      let kept = (agenda-kept m.journal (granted-ranged m g)).0 in
      let way : FinMap nat_cmp (Unit {0}) = (agenda_of m.journal).way in
      let each : Each IsNumber (keys way) = each-map (λ (e : ℕ × Unit {0}). IsNumber e.0) IsNumber (λ (e : ℕ × Unit {0}). e.0) (λ e h. h) (entries way) (entries-each IsWay way kept) in
      each-map IsNumber IsInnerGiven event.Deliver (λ k h. (tt, (h, tt))) (on_way (agenda_of m.journal)) each

  -- a node that is there has a number in range
  node-number : (m : Machine) (n : ℕ) (s : NodeState) → Is m → node_at m.nodes n ≡ Some s → IsNumber n
  node-number m zero s g at = omega arith
  node-number m (suc i) s g at =
      let t : Told m = written-told config files m g.written checked in
      let within = slice_get_within m.nodes i s at in
      let config_is : m.config.nodes ≡ config.nodes = ap (λ (k : Machine). k.config.nodes) g.written.same ∙ ap (λ (c : Config). c.nodes) (config-is config files g.written.plain g.written.reached) in
      omega (arith, within, t.nodes, config_is, nodes)

  complete-given : (m : Machine) (n : ℕ) → Is m → Each IsInnerGiven (completions m n)
  complete-given m n g = go (node_at m.nodes n) refl where
    go : (o : Option NodeState) → node_at m.nodes n ≡ o → Each IsInnerGiven (replicate (jobs_of o) (event.Disk n 1))
    go None at = tt
    go (Some s) at = replicate-each IsInnerGiven (jobs_of (Some s)) (event.Disk n 1) (refl, ((node-number m n s g at, omega arith), tt))

  fire-given : (m : Machine) → Is m → Each IsInnerGiven (firings m)
  fire-given m g = each-both IsInner IsScheduled (firings m) (firings-inner m)
      (firings-each (λ p c. IsPlaceInRange p × IsNumber c) IsScheduled (λ p c h. (h, tt)) m (Each-weaker IsRecordInRange (OfTimer (λ p c. IsPlaceInRange p × IsNumber c)) timer-ranged m.journal (granted-ranged m g)))

  kept-granted : (most : ℕ) → IsNumber most → KeptInside Is IsInnerGiven most
  kept-granted most small = record {
    inner = inner-granted;
    closes = λ m done g le. closed-granted m done most g le small;
    takes = take-given;
    deliveries = deliver-given;
    completions = complete-given;
    firings = fire-given;
  }

  begun-granted : (m n : Machine) (rounds : ℕ) → Is m → IsNumber rounds → settle_begun m rounds ≡ Ok n → Is n
  begun-granted m n rounds g small is =
      let few = begun-few m n rounds is in
      subst Is (begun-is m n rounds is) (record {
        written = subst (IsWrittenOut config files) (sym (begun-is m n rounds is)) ((written config files).settle m n rounds g.written is);
        all = more-granted m.journal [] (rec.Event (m.events + 1) (event.Settle rounds)) g.all (numbered m.events (length m.journal) g.events few, (small, tt)) tt;
        events = let more = longer m.journal [] (rec.Event (m.events + 1) (event.Settle rounds)) in omega (arith, more, g.events);
      })

  -- ---- events

  settle-granted : (m : Machine) (rounds : ℕ) → Is m → IsNumber rounds → Is (came_to (event_step m (event.Settle rounds)))
  settle-granted m rounds g small =
      over (event_step m (event.Settle rounds)) (settle-lands Is IsInnerGiven rounds (kept-granted rounds small) m rounds (omega arith) (λ n is. begun-granted m n rounds g small is)) where
        over : (x : Result Machine Stop) → SettleLands Is IsInnerGiven rounds (kept-granted rounds small) m rounds x → Is (came_to x)
        over (Ok n) h = h
        over (Err stop) (inl h) = subst Is (sym h.0) g
        over (Err stop) (inr h) = h.0

  plain-granted : (m : Machine) (e : Event) (x : Result Machine StepFault) → Is m → HasRule e → IsScheduled e → machine_step m e ≡ x → Is (came_to (stepped_from m x))
  plain-granted m e (Err f) g rule given is = g
  plain-granted m e (Ok n) g rule given is =
      let on : StepRows m e n = step-rows config files m n e g.written rule is in
      record {
        written = (written config files).steps m n e g.written rule is;
        all = subst AreGranted (sym on.are) (more-granted m.journal on.rows (rec.Event (m.events + 1) e) g.all (numbered m.events (length m.journal) g.events on.few, given) on.unmarked);
        events = let le = longer m.journal on.rows (rec.Event (m.events + 1) e) in
            let long : length n.journal ≡ length (m.journal ++ rec.Event (m.events + 1) e ∷ on.rows) = ap (λ (J : List Rec). length J) on.are in omega (arith, le, long, g.events, on.events);
      }

  event-granted : (m : Machine) (e : Event) → Is m → MayCome e → IsScheduled e → Is (came_to (event_step m e))
  event-granted m e g may given = go (either-kind e) where
    go : (is_settle e ≡ false) ⊎ ((rounds : ℕ) × (e ≡ event.Settle rounds)) → Is (came_to (event_step m e))
    go (inl plain) = subst (λ (x : Result Machine Stop). Is (came_to x)) (sym (plain-step m e plain)) (plain-granted m e (machine_step m e) g (plain-rule e plain may) given refl)
    go (inr s) = subst (λ (d : Event). Is (came_to (event_step m d))) (sym s.1) (settle-granted m s.0 g (subst IsScheduled s.1 given).0)

  goes-granted : (es : List Event) (m n : Machine) → Is m → Each IsScheduled es → GoesThrough m es n → Is n
  goes-granted [] m n g given goes = subst Is (sym goes) g
  goes-granted (e ∷ es) m n g given goes = goes-granted es goes.0 n (subst (λ (x : Result Machine Stop). Is (came_to x)) goes.2 (event-granted m e g goes.1 given.0)) given.1 goes.3

  inside-granted : (es : List Event) (m n : Machine) → Is m → Each IsScheduled es → EndsInside m es n → Is n
  inside-granted es m n g given i =
      let parts = each-parts IsScheduled i.before (event.Settle i.rounds ∷ []) (subst (Each IsScheduled) i.are given) in
      subst (λ (x : Result Machine Stop). Is (came_to x)) i.stops (event-granted i.behind (event.Settle i.rounds) (goes-granted i.before m i.behind g parts.0 i.goes) tt parts.1.0)

  pub leads-granted : (es : List Event) (n : Machine) → Each IsScheduled es → LeadsTo (machine_start config files) es n → Is n
  leads-granted es n given l = go l where
    begins : Is (machine_start config files)
    begins = record { written = (written config files).begins; all = tt; events = omega arith }

    go : LeadsTo (machine_start config files) es n → Is n
    go (inl goes) = goes-granted es (machine_start config files) n begins given goes
    go (inr i) = inside-granted es (machine_start config files) n begins given i
