-- Each event of a run with settles has the form of one that a schedule gives: those of the schedule, and those of inner steps.
use Rattle.std.proofs.Common.{◌≡◌, ◌⊎◌, inl, inr, ◌≤◌, ℕ, zero, suc, ◌+◌, true, false, List, [], ◌∷◌, ◌++◌, Ok, Err, refl, sym, ap, ◌∙◌, subst, nat_eq}
use Rattle.lard_base.specs.declared.event.Event.TheVariants as event
use Rattle.lard_base.specs.declared.place.Place.TheVariants as place
use Rattle.lard_history.proofs.Each.{Each, Each-append, Each-weaker}
use Rattle.lard_history.proofs.Seeing.{same_number}
use Rattle.lard_journal.specs.declared.rec.Rec.TheVariants as rec
use Rattle.lard_law_settles.proofs.SettlesEvents.{begun-is, either-kind, plain-done, plain-rule}
use Rattle.lard_law_settles.proofs.SettlesFiring.{IsInner, deliver-inner, disk-inner, firings-inner, inner-rule, take-inner}
use Rattle.lard_law_settles.proofs.SettlesGiven.{InnerRows, StepRows, inner-rows, step-rows}
use Rattle.lard_law_settles.proofs.SettlesInside.{InnerKept, IsClosed, SettleEnds, settle-ends}
use Rattle.lard_law_view.specs.Prelude.{Config, Event, HasTimer, Machine, Place, Rec, StepFault, machine_start, passed}
use Rattle.lard_report.specs.Formed.{IsEventFormed}
use Rattle.lard_schedule.specs.Events.{may_keep}
use Rattle.lard_settling.proofs.Plain.{AreUnmarked, is_mark}
use Rattle.lard_settling.proofs.Written.{written}
use Rattle.lard_settling.specs.Events.{GoesThrough, LeadsTo, MayCome, event_step}
use Rattle.lard_settling.specs.Settling.{settle_left}
use Rattle.lard_settling.specs.Steps.{closing, settle_begun}
use Rattle.lard_settling.specs.Written.{IsWrittenOut, is_settle}

-- so it is of the event that a record tells of
abbrev pub EventFormed : Rec → Type 0
EventFormed (rec.Event i e) = IsEventFormed e
EventFormed (rec.Inner e) = IsEventFormed e
EventFormed _ = Unit {0}

-- ---- single records

unmarked-formed : (r : Rec) → is_mark r ≡ false → EventFormed r
unmarked-formed (rec.Event i e) plain = let no : true ≡ false = plain in cc
unmarked-formed (rec.Inner e) plain = let no : true ≡ false = plain in cc
unmarked-formed _ plain = tt

closing-formed : (done left : ℕ) → EventFormed (closing done left)
closing-formed done zero = tt
closing-formed done (suc left) = tt

-- the timer of a client is its own
timer-formed : (p : Place) (c : ℕ) → HasTimer p c → may_keep p c ≡ true
timer-formed place.Front c h = refl
timer-formed (place.Node n) c h = refl
timer-formed (place.Client d) c h = subst (λ (k : ℕ). nat_eq d k ≡ true) h (same_number d)

inner-formed : (e : Event) → IsInner e → IsEventFormed e
inner-formed (event.Take c) h = tt
inner-formed (event.Deliver k) h = tt
inner-formed (event.Disk n j) h = tt
inner-formed (event.Timer p c) h = timer-formed p c (inner-rule (event.Timer p c) h)
inner-formed _ h = absurd h

-- what a step adds
step-formed : (J : List Rec) (h : Rec) (rows : List Rec) → Each EventFormed J → EventFormed h → AreUnmarked rows → Each EventFormed (J ++ h ∷ rows)
step-formed J h rows before one plain = Each-append EventFormed J (h ∷ rows) before (one, Each-weaker (λ r. is_mark r ≡ false) EventFormed unmarked-formed rows plain)

-- ---- runs

module _ (config : Config) (files : List (List ℕ × List ℕ)) where
  record Is (m : Machine) : Type 0 where
    written_out : IsWrittenOut config files m
    formed : Each EventFormed m.journal

  kept : InnerKept Is IsInner
  kept = record {
    inner = λ m n e h inner is.
        let on : InnerRows m e n = inner-rows config files m n e h.written_out (inner-rule e inner) is in
        record {
          written_out = (written config files).inner_steps m n e h.written_out (inner-rule e inner) is;
          formed = subst (Each EventFormed) (sym on.are) (step-formed m.journal (rec.Inner e) on.rows h.formed (inner-formed e inner) on.unmarked);
        };
    takes = λ m h. take-inner _;
    deliveries = λ m h. deliver-inner _;
    completions = λ m n h. disk-inner n _;
    firings = λ m h. firings-inner m;
  }

  begun-formed : (m n : Machine) (rounds : ℕ) → 1 ≤ rounds → Is m → settle_begun m rounds ≡ Ok n → Is n
  begun-formed m n rounds some h is =
      let same : passed m (event.Settle rounds) [] ≡ n = begun-is m n rounds is in
      record {
        written_out = (written config files).settle m n rounds h.written_out is;
        formed = subst (λ (k : Machine). Each EventFormed k.journal) same (step-formed m.journal (rec.Event (m.events + 1) (event.Settle rounds)) [] h.formed some tt);
      }

  settle-formed : (m : Machine) (rounds : ℕ) → 1 ≤ rounds → Is m → SettleEnds Is IsInner m rounds (event_step m (event.Settle rounds))
  settle-formed m rounds some h = settle-ends Is IsInner kept m rounds (λ n is. begun-formed m n rounds some h is)

  closed-formed : (n : Machine) (rounds : ℕ) → IsClosed Is IsInner rounds n → Is n
  closed-formed n rounds c = subst Is (sym c.is) (record {
    written_out = (written config files).closes c.last c.done (settle_left c.last) c.holds.written_out;
    formed = Each-append EventFormed c.last.journal (closing c.done (settle_left c.last) ∷ []) c.holds.formed (closing-formed c.done (settle_left c.last), tt);
  })

  event-formed : (m n : Machine) (e : Event) → IsEventFormed e → Is m → MayCome e → event_step m e ≡ Ok n → Is n
  event-formed m n e formed h may is = go (either-kind e) where
    go : (is_settle e ≡ false) ⊎ ((rounds : ℕ) × (e ≡ event.Settle rounds)) → Is n
    go (inl plain) =
        let rule = plain-rule e plain may in
        let done = plain-done m n e plain is in
        let on : StepRows m e n = step-rows config files m n e h.written_out rule done in
        record {
          written_out = (written config files).steps m n e h.written_out rule done;
          formed = subst (Each EventFormed) (sym on.are) (step-formed m.journal (rec.Event (m.events + 1) e) on.rows h.formed formed on.unmarked);
        }
    go (inr s) =
        let done : event_step m (event.Settle s.0) ≡ Ok n = sym (ap (event_step m) s.1) ∙ is in
        closed-formed n s.0 (subst (SettleEnds Is IsInner m s.0) done (settle-formed m s.0 (subst IsEventFormed s.1 formed) h))

  goes-formed : (es : List Event) (m n : Machine) → Each IsEventFormed es → Is m → GoesThrough m es n → Is n
  goes-formed [] m n formed h goes = subst Is (sym goes) h
  goes-formed (e ∷ es) m n formed h goes = goes-formed es goes.0 n formed.1 (event-formed m goes.0 e formed.0 h goes.1 goes.2) goes.3

  stop-formed : (m n : Machine) (rounds : ℕ) (fault : StepFault) → 1 ≤ rounds → Is m → event_step m (event.Settle rounds) ≡ Err (n, fault) → Is n
  stop-formed m n rounds fault some h is = go (subst (SettleEnds Is IsInner m rounds) is (settle-formed m rounds some h)) where
    go : SettleEnds Is IsInner m rounds (Err (n, fault)) → Is n
    go (inl began) = subst Is (sym began.0) h
    go (inr ended) = ended.0

  begins : Is (machine_start config files)
  begins = record { written_out = (written config files).begins; formed = tt }

  parts : (xs ys : List Event) → Each IsEventFormed (xs ++ ys) → Each IsEventFormed xs × Each IsEventFormed ys
  parts [] ys h = (tt, h)
  parts (x ∷ xs) ys h = let more = parts xs ys h.1 in ((h.0, more.0), more.1)

  -- wherever it ended
  pub events-formed : (es : List Event) (m : Machine) → Each IsEventFormed es → LeadsTo (machine_start config files) es m → IsWrittenOut config files m × Each EventFormed m.journal
  events-formed es m formed (inl goes) = let h : Is m = goes-formed es (machine_start config files) m formed begins goes in (h.written_out, h.formed)
  events-formed es m formed (inr i) =
      let both = parts i.before (event.Settle i.rounds ∷ []) (subst (Each IsEventFormed) i.are formed) in
      let h : Is m = stop-formed i.behind m i.rounds i.fault both.1.0 (goes-formed i.before (machine_start config files) i.behind both.0 begins i.goes) i.stops in
      (h.written_out, h.formed)
