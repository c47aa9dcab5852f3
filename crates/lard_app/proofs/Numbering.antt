-- A journal has a record of each event of the schedule, by number.
use Rattle.std.proofs.Common.{◌≡◌, ◌⊎◌, inl, inr, ◌<◌, ℕ, zero, suc, ◌+◌, false, List, [], ◌∷◌, ◌++◌, length, Result, Ok, Err, refl, sym, ap, ◌∙◌, subst, append_assoc, append-nil, arith}
use Rattle.lard_law_view.specs.Prelude.{Config, Event, Machine, Rec, machine_start, passed}
use Rattle.lard_base.specs.declared.event.Event.TheVariants as event
use Rattle.lard_journal.specs.declared.rec.Rec.TheVariants as rec
use Rattle.lard_settling.specs.Events.{EndsInside, GoesThrough, LeadsTo, MayCome, event_step}
use Rattle.lard_settling.specs.Settling.{Stop, settle_left}
use Rattle.lard_settling.specs.Steps.{closing, inner_step, settle_begun, settle_closed}
use Rattle.lard_settling.specs.Written.{IsWrittenOut, is_settle}
use Rattle.lard_settling.proofs.Plain.{AreUnmarked, is_mark}
use Rattle.lard_settling.proofs.Written.{written}
use Rattle.lard_app.specs.Replay.{came_to}
use Rattle.lard_app.specs.Happened.{event_told, events_told, numbered_from}
use Rattle.lard_law_settles.proofs.Events.{begun-is, either-kind, plain-done, plain-rule}
use Rattle.lard_law_settles.proofs.Firing.{IsInner, inner-rule}
use Rattle.lard_law_settles.proofs.Given.{InnerRows, StepRows, inner-rows, step-rows}
use Rattle.lard_law_settles.proofs.Inside.{KeptInside, SettleLands, settle-lands}
use Rattle.lard_app.proofs.Written.{event-written, kept-inside}

-- ---- journals

events-append : (J K : List Rec) → events_told (J ++ K) ≡ events_told J ++ events_told K
events-append [] K = refl
events-append (r ∷ J) K = ap (λ es. event_told r ++ es) (events-append J K) ∙ sym (append_assoc (event_told r) (events_told J) (events_told K))

unmarked-none : (r : Rec) → is_mark r ≡ false → event_told r ≡ []
unmarked-none (rec.Event i e) h = cc
unmarked-none _ h = refl

rows-none : (rs : List Rec) → AreUnmarked rs → events_told rs ≡ []
rows-none [] h = refl
rows-none (r ∷ rs) h = ap (λ es. es ++ events_told rs) (unmarked-none r h.0) ∙ rows-none rs h.1

-- records behind which no event is told
same-told : (J rows : List Rec) (r : Rec) → event_told r ≡ [] → AreUnmarked rows → events_told (J ++ r ∷ rows) ≡ events_told J
same-told J rows r none plain = events-append J (r ∷ rows) ∙ ap (λ es. events_told J ++ (es ++ events_told rows)) none ∙ ap (λ es. events_told J ++ es) (rows-none rows plain) ∙ append-nil (events_told J)

one-told : (J rows : List Rec) (i : ℕ) (e : Event) → AreUnmarked rows → events_told (J ++ rec.Event i e ∷ rows) ≡ events_told J ++ (i, e) ∷ []
one-told J rows i e plain = events-append J (rec.Event i e ∷ rows) ∙ ap (λ es. events_told J ++ ((i, e) ∷ es)) (rows-none rows plain)

closing-none : (done left : ℕ) → event_told (closing done left) ≡ []
closing-none done zero = refl
closing-none done (suc left) = refl

-- ---- events

-- one more event was told, by the next number
abbrev TellsOne : Machine → Event → Machine → Type 0
TellsOne m e n = (events_told n.journal ≡ events_told m.journal ++ (m.events + 1, e) ∷ []) × (n.events ≡ m.events + 1)

module _ (config : Config) (files : List (List ℕ × List ℕ)) where
  -- as many were told as in b
  record IsAsIn (b n : Machine) : Type 0 where
    pub written_out : IsWrittenOut config files n
    pub told : events_told n.journal ≡ events_told b.journal
    pub events : n.events ≡ b.events

  inner-as : (b m n : Machine) (e : Event) → IsAsIn b m → IsInner e → inner_step m e ≡ Ok n → IsAsIn b n
  inner-as b m n e p q is =
      let on : InnerRows m e n = inner-rows config files m n e p.written_out (inner-rule e q) is in
      record {
        written_out = (written config files).inner_steps m n e p.written_out (inner-rule e q) is;
        told = ap events_told on.are ∙ same-told m.journal on.rows (rec.Inner e) refl on.unmarked ∙ p.told;
        events = on.events ∙ p.events;
      }

  closed-as : (b m : Machine) (done : ℕ) → IsAsIn b m → IsAsIn b (settle_closed m done (settle_left m))
  closed-as b m done p = record {
    written_out = (written config files).closes m done (settle_left m) p.written_out;
    told = same-told m.journal [] (closing done (settle_left m)) (closing-none done (settle_left m)) tt ∙ p.told;
    events = p.events;
  }

  kept-as : (b : Machine) (most : ℕ) → KeptInside (IsAsIn b) IsInner most
  kept-as b most =
      let kept : KeptInside (λ m. IsWrittenOut config files m) IsInner most = kept-inside config files most in
      record {
        inner = inner-as b;
        closes = λ m done p le. closed-as b m done p;
        takes = λ m p. kept.takes m p.written_out;
        deliveries = λ m p. kept.deliveries m p.written_out;
        completions = λ m n p. kept.completions m n p.written_out;
        firings = λ m p. kept.firings m p.written_out;
      }

  as-one : (m n : Machine) (rounds : ℕ) → IsAsIn (passed m (event.Settle rounds) []) n → TellsOne m (event.Settle rounds) n
  as-one m n rounds p = (p.told ∙ one-told m.journal [] (m.events + 1) (event.Settle rounds) tt, p.events)

  -- a settle that came to its end, or had begun
  abbrev SettleTells : Machine → ℕ → Result Machine Stop → Type 0
  SettleTells m rounds (Ok n) = TellsOne m (event.Settle rounds) n
  SettleTells m rounds (Err stop) = (stop.0 ≡ m) ⊎ TellsOne m (event.Settle rounds) stop.0

  settle-tells : (m : Machine) (rounds : ℕ) → IsWrittenOut config files m → SettleTells m rounds (event_step m (event.Settle rounds))
  settle-tells m rounds w = over (event_step m (event.Settle rounds)) (settle-lands (IsAsIn b) IsInner rounds (kept-as b rounds) m rounds (omega arith) begins) where
    b : Machine
    b = passed m (event.Settle rounds) []

    begins : (n : Machine) → settle_begun m rounds ≡ Ok n → IsAsIn b n
    begins n is =
        let same : passed m (event.Settle rounds) [] ≡ n = begun-is m n rounds is in
        subst (IsAsIn b) same (record { written_out = subst (IsWrittenOut config files) (sym same) ((written config files).settle m n rounds w is); told = refl; events = refl })

    over : (x : Result Machine Stop) → SettleLands (IsAsIn b) IsInner rounds (kept-as b rounds) m rounds x → SettleTells m rounds x
    over (Ok n) h = as-one m n rounds h
    over (Err stop) (inl h) = inl h.0
    over (Err stop) (inr h) = inr (as-one m stop.0 rounds h.0)

  event-tells : (m n : Machine) (e : Event) → IsWrittenOut config files m → MayCome e → event_step m e ≡ Ok n → TellsOne m e n
  event-tells m n e w may is = go (either-kind e) where
    go : (is_settle e ≡ false) ⊎ ((rounds : ℕ) × (e ≡ event.Settle rounds)) → TellsOne m e n
    go (inl plain) =
        let on : StepRows m e n = step-rows config files m n e w (plain-rule e plain may) (plain-done m n e plain is) in
        (ap events_told on.are ∙ one-told m.journal on.rows (m.events + 1) e on.unmarked, on.events)
    go (inr s) = subst (λ (d : Event). TellsOne m d n) (sym s.1) (subst (SettleTells m s.0) (sym (ap (event_step m) s.1) ∙ is) (settle-tells m s.0 w))

  -- ---- runs

  numbered-more : (i : ℕ) (es : List Event) (e : Event) (xs : List (ℕ × Event)) → (xs ++ (i, e) ∷ []) ++ numbered_from (i + 1) es ≡ xs ++ numbered_from i (e ∷ es)
  numbered-more i es e xs = append_assoc xs ((i, e) ∷ []) (numbered_from (i + 1) es)

  goes-number : (es : List Event) (m n : Machine) → IsWrittenOut config files m → GoesThrough m es n → events_told n.journal ≡ events_told m.journal ++ numbered_from (m.events + 1) es
  goes-number [] m n w g = ap (λ (k : Machine). events_told k.journal) g ∙ sym (append-nil (events_told m.journal))
  goes-number (e ∷ es) m n w g =
      let one : TellsOne m e g.0 = event-tells m g.0 e w g.1 g.2 in
      let w_ : IsWrittenOut config files g.0 = subst (λ (x : Result Machine Stop). IsWrittenOut config files (came_to x)) g.2 (event-written config files m e w g.1) in
      goes-number es g.0 n w_ g.3 ∙ ap (λ xs. xs ++ numbered_from (g.0.events + 1) es) one.0 ∙ ap (λ i. (events_told m.journal ++ (m.events + 1, e) ∷ []) ++ numbered_from (i + 1) es) one.1
      ∙ numbered-more (m.events + 1) es e (events_told m.journal)

  -- one more event behind others has the number behind theirs
  goes-count : (d : Event) (es : List Event) (m n : Machine) → IsWrittenOut config files m → GoesThrough m es n
      → IsWrittenOut config files n × (numbered_from (m.events + 1) (es ++ d ∷ []) ≡ numbered_from (m.events + 1) es ++ (n.events + 1, d) ∷ [])
  goes-count d [] m n w g = (subst (IsWrittenOut config files) (sym g) w, ap (λ (k : Machine). (k.events + 1, d) ∷ []) (sym g))
  goes-count d (e ∷ es) m n w g =
      let one : TellsOne m e g.0 = event-tells m g.0 e w g.1 g.2 in
      let w_ : IsWrittenOut config files g.0 = subst (λ (x : Result Machine Stop). IsWrittenOut config files (came_to x)) g.2 (event-written config files m e w g.1) in
      let more = goes-count d es g.0 n w_ g.3 in
      let later : numbered_from (m.events + 1 + 1) (es ++ d ∷ []) ≡ numbered_from (m.events + 1 + 1) es ++ (n.events + 1, d) ∷ [] =
      subst (λ i. numbered_from (i + 1) (es ++ d ∷ []) ≡ numbered_from (i + 1) es ++ (n.events + 1, d) ∷ []) one.1 more.1 in
      (more.0, ap (λ xs. (m.events + 1, e) ∷ xs) later)

  inside-number : (es : List Event) (m n : Machine) → IsWrittenOut config files m → EndsInside m es n → events_told n.journal ≡ events_told m.journal ++ numbered_from (m.events + 1) es
  inside-number es m n w i =
      let d : Event = event.Settle i.rounds in
      let before = goes-number i.before m i.behind w i.goes in
      let count = goes-count d i.before m i.behind w i.goes in
      let one : TellsOne i.behind d n = begun (subst (SettleTells i.behind i.rounds) i.stops (settle-tells i.behind i.rounds count.0)) in
      one.0 ∙ ap (λ xs. xs ++ (i.behind.events + 1, d) ∷ []) before ∙ append_assoc (events_told m.journal) (numbered_from (m.events + 1) i.before) ((i.behind.events + 1, d) ∷ [])
      ∙ ap (λ xs. events_told m.journal ++ xs) (sym count.1) ∙ ap (λ (ds : List Event). events_told m.journal ++ numbered_from (m.events + 1) ds) (sym i.are) where
        begun : SettleTells i.behind i.rounds (Err (n, i.fault)) → TellsOne i.behind (event.Settle i.rounds) n
        begun (inl same) = absurd (let longer : length i.behind.journal < length n.journal = i.begun in let equal : length n.journal ≡ length i.behind.journal = ap (λ (k : Machine). length k.journal) same in omega (arith, longer, equal))
        begun (inr h) = h

  pub leads-number : (es : List Event) (n : Machine) → LeadsTo (machine_start config files) es n → events_told n.journal ≡ numbered_from 1 es
  leads-number es n (inl g) = goes-number es (machine_start config files) n (written config files).begins g
  leads-number es n (inr i) = inside-number es (machine_start config files) n (written config files).begins i
