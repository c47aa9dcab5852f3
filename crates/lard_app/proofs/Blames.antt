-- Why an event is not done, or not to its end: what a fault of it says of the journal before, and the other way round.
use Rattle.std.proofs.Common.{◌≡◌, ◌⊎◌, ℕ, false, Option, Some, Result, Ok, Err, refl, sym, ap, ◌∙◌, subst, inl, inr}
use Rattle.lard_law_view.specs.Prelude.{Event, Machine, Refusal, StepFault, What, config_check, machine_step}
use Rattle.lard_base.specs.declared.event.Event.TheVariants as event
use Rattle.lard_rules.specs.declared.fault.StepFault.TheVariants as fault
use Rattle.lard_rules.specs.declared.fault.What.TheVariants as what
use Rattle.lard_settling.specs.Events.{event_step, settled_to, stepped_from}
use Rattle.lard_settling.specs.Settling.{Stop, settled}
use Rattle.lard_law_settles.proofs.Whole.{settles-stop}
use Rattle.lard_settling.specs.Steps.{settle_begun}
use Rattle.lard_settling.specs.Written.{IsWrittenOut, is_settle}
use Rattle.lard_app.specs.Causes.{HasReached, IsUntimely, IsWithinLimits, MayNotCome, ReachesLimit, WritesTooMuch}
use Rattle.lard_law_settles.proofs.Events.{either-kind, plain-step}
use Rattle.lard_app.proofs.Events.{begun-not, plain-stopped}
use Rattle.lard_app.proofs.Failures.{IsFault, fault-step, limit_found, limit_there, limit-step, step-fault}
use Rattle.lard_law_settles.proofs.Firing.{IsInner}
use Rattle.lard_app.proofs.Reached.{Told, written-told}
use Rattle.lard_app.proofs.Written.{StepNotDone, fault-inner, inner-fault, settle-stop}

-- ---- limits

-- the event's own limit, or one before the step
abbrev pub ReachesBefore : Machine → Event → What → Type 0
ReachesBefore m e w = HasReached m.journal w ⊎ (IsWithinLimits m.journal × (w ≡ what.Stream) × WritesTooMuch m.config.stream m.journal e)

-- of an event that is no settle
plain-reaches : (m : Machine) (e : Event) (w : What) → is_settle e ≡ false → (ReachesLimit m e w → ReachesBefore m e w) × (ReachesBefore m e w → ReachesLimit m e w)
plain-reaches m (event.Settle rounds) w h = cc
plain-reaches m (event.Open c isn iss wnd mss) w h = (λ r. r, λ r. r)
plain-reaches m (event.Get c path) w h = (λ r. r, λ r. r)
plain-reaches m (event.Write c bytes) w h = (λ r. r, λ r. r)
plain-reaches m (event.Shut c) w h = (λ r. r, λ r. r)
plain-reaches m (event.Abort c) w h = (λ r. r, λ r. r)
plain-reaches m (event.Hold c) w h = (λ r. r, λ r. r)
plain-reaches m (event.Take c) w h = (λ r. r, λ r. r)
plain-reaches m (event.Deliver j) w h = (λ r. r, λ r. r)
plain-reaches m (event.Lose j) w h = (λ r. r, λ r. r)
plain-reaches m (event.Timer p c) w h = (λ r. r, λ r. r)
plain-reaches m (event.Disk n j) w h = (λ r. r, λ r. r)
plain-reaches m (event.Drain n) w h = (λ r. r, λ r. r)
plain-reaches m (event.Clock ms) w h = (λ r. r, λ r. r)
plain-reaches m (event.Inject c bytes) w h = (λ r. r, λ r. r)

plain-untimely : (m : Machine) (e : Event) (reason : Refusal) → is_settle e ≡ false → (MayNotCome m e reason → IsWithinLimits m.journal × IsUntimely m e reason) × (IsWithinLimits m.journal × IsUntimely m e reason → MayNotCome m e reason)
plain-untimely m (event.Settle rounds) reason h = cc
plain-untimely m (event.Open c isn iss wnd mss) reason h = (λ r. r, λ r. r)
plain-untimely m (event.Get c path) reason h = (λ r. r, λ r. r)
plain-untimely m (event.Write c bytes) reason h = (λ r. r, λ r. r)
plain-untimely m (event.Shut c) reason h = (λ r. r, λ r. r)
plain-untimely m (event.Abort c) reason h = (λ r. r, λ r. r)
plain-untimely m (event.Hold c) reason h = (λ r. r, λ r. r)
plain-untimely m (event.Take c) reason h = (λ r. r, λ r. r)
plain-untimely m (event.Deliver j) reason h = (λ r. r, λ r. r)
plain-untimely m (event.Lose j) reason h = (λ r. r, λ r. r)
plain-untimely m (event.Timer p c) reason h = (λ r. r, λ r. r)
plain-untimely m (event.Disk n j) reason h = (λ r. r, λ r. r)
plain-untimely m (event.Drain n) reason h = (λ r. r, λ r. r)
plain-untimely m (event.Clock ms) reason h = (λ r. r, λ r. r)
plain-untimely m (event.Inject c bytes) reason h = (λ r. r, λ r. r)

-- what keeps faults as they are, and is done where its part is, has the fault of its part
fault-kept : {A B C : Type 0} (g : Result A C → Result B C) → ((a : A) → (b : B) × (g (Ok a) ≡ Ok b)) → ((c : C) → g (Err c) ≡ Err c) → (y : Result A C) (c : C) → g y ≡ Err c → y ≡ Err c
fault-kept g ok err (Ok a) c is = let no = sym (ok a).1 ∙ is in cc
fault-kept g ok err (Err d) c is = let same = sym (err d) ∙ is in cc

-- a settle that is not done stops where its event does
settled-stop : (m : Machine) (rounds : ℕ) (stop : Stop) → event_step m (event.Settle rounds) ≡ Err stop → settled m rounds ≡ Err stop
unfolding event_step
settled-stop m rounds stop is = fault-kept settled_to (λ a. (a.0, refl)) (λ c. refl) (settled m rounds) stop is

-- the limit of what an input has is none of a journal
pub unreached : (m : Machine) (e : Event) → ¬ (ReachesLimit m e what.Input)
unreached m e r = go (either-kind e) where
  before : ¬ (ReachesBefore m e what.Input)
  before (inl l) = l
  before (inr h) = let both : what.Input ≡ what.Stream = h.1 in cc

  go : (is_settle e ≡ false) ⊎ ((rounds : ℕ) × (e ≡ event.Settle rounds)) → ⊥
  go (inl nots) = before ((plain-reaches m e what.Input nots).0 r)
  go (inr s) = (subst (λ (d : Event). ReachesLimit m d what.Input) s.1 r).3

-- no client writes in an inner step
inner-writes : (m : Machine) (d : Event) → IsInner d → ¬ (WritesTooMuch m.config.stream m.journal d)
inner-writes m (event.Take c) h w = w
inner-writes m (event.Deliver k) h w = w
inner-writes m (event.Disk n j) h w = w
inner-writes m (event.Timer p c) h w = w
inner-writes m _ h w = absurd h

-- ---- faults and their causes

-- what is known of a step that was not done
abbrev pub IsBlamed : Machine → Event → StepFault → Type 0
IsBlamed m e f = ((w : What) × HasReached m.journal w × (fault.Limit w ≡ f)) ⊎ (IsWithinLimits m.journal × IsFault m e f)

err_fault : {A : Type 0} (f g : StepFault) → ◌≡◌ {A = Result A StepFault} (Err f) (Err g) → f ≡ g
err_fault f g e = cc

limit_same : (v w : What) → fault.Limit v ≡ fault.Limit w → v ≡ w
limit_same v w e = cc

no-untimely-limit : (w : What) (f : StepFault) (reason : Refusal) → fault.Limit w ≡ f → f ≡ fault.Refused reason → ⊥
no-untimely-limit w f reason e by = let both : fault.Limit w ≡ fault.Refused reason = e ∙ by in cc

blamed-untimely : (m : Machine) (e : Event) (f : StepFault) (reason : Refusal) → IsBlamed m e f → f ≡ fault.Refused reason → IsWithinLimits m.journal × IsUntimely m e reason
blamed-untimely m e f reason (inl l) by = absurd (no-untimely-limit l.0 f reason l.2 by)
blamed-untimely m e f reason (inr l) by = (l.0, subst (IsFault m e) by l.1)

blamed-reaches : (m : Machine) (e : Event) (f : StepFault) (w : What) → IsBlamed m e f → f ≡ fault.Limit w → ReachesBefore m e w
blamed-reaches m e f w (inl l) by = inl (subst (HasReached m.journal) (limit_same l.0 w (l.2 ∙ by)) l.1)
blamed-reaches m e f w (inr l) by = let h : IsFault m e (fault.Limit w) = subst (IsFault m e) by l.1 in inr (l.0, h.0, h.1)

blamed-some : (m : Machine) (e : Event) (f : StepFault) → IsBlamed m e f → ¬ (f ≡ fault.NoMemory)
blamed-some m e f (inl l) is = let both : fault.Limit l.0 ≡ fault.NoMemory = l.2 ∙ is in cc
blamed-some m e f (inr l) is = subst (IsFault m e) is l.1

-- inside a settle it is a limit of the journal
reached-only : (m : Machine) (d : Event) (w : What) → IsInner d → ReachesBefore m d w → HasReached m.journal w
reached-only m d w inner (inl l) = l
reached-only m d w inner (inr h) = absurd (inner-writes m d inner h.2)

-- a settle that had not begun, where a limit was reached
begun-limit : (m : Machine) → Told m → (rounds : ℕ) (f : StepFault) (w : What) → settle_begun m rounds ≡ Err f → HasReached m.journal w → f ≡ fault.Limit w
begun-limit m t rounds f w is here =
    let l = begun-not m rounds f is in
    sym l.2 ∙ ap fault.Limit (some_same l.0 w (sym l.1 ∙ limit_there m t w here)) where
      some_same : (v u : What) → ◌≡◌ {A = Option What} (Some v) (Some u) → v ≡ u
      some_same v u e = cc

-- ---- an event that was not done, or not to its end

-- its fault has a cause: the event may not come, or a limit was reached
abbrev pub Blames : Machine → Event → StepFault → Type 0
Blames m e f = ((reason : Refusal) → f ≡ fault.Refused reason → MayNotCome m e reason) × ((w : What) → f ≡ fault.Limit w → ReachesLimit m e w) × ¬ (f ≡ fault.NoMemory)

limit-some : (w : What) (f : StepFault) → fault.Limit w ≡ f → ¬ (f ≡ fault.NoMemory)
limit-some w f e none = let both : fault.Limit w ≡ fault.NoMemory = e ∙ none in cc

module _ (m : Machine) (w : IsWrittenOut m.config m.files m) (checked : config_check m.config ≡ Ok tt) where
  told : Told m
  told = written-told m.config m.files m w checked

  -- an event that is no settle
  plain-blames : (e : Event) (stop : Stop) → is_settle e ≡ false → event_step m e ≡ Err stop → Blames m e stop.1
  plain-blames e stop nots is =
      let blamed = step-fault m told e stop.1 (plain-stopped m e stop nots is).1 in (
        λ reason by. (plain-untimely m e reason nots).1 (blamed-untimely m e stop.1 reason blamed by),
        λ v by. (plain-reaches m e v nots).1 (blamed-reaches m e stop.1 v blamed by),
        blamed-some m e stop.1 blamed,
      )

  settle-blames : (rounds : ℕ) (stop : Stop) → event_step m (event.Settle rounds) ≡ Err stop → Blames m (event.Settle rounds) stop.1
  settle-blames rounds stop is = go (settle-stop m.config m.files m rounds stop w is) where
    go : StepNotDone m.config m.files m rounds stop → Blames m (event.Settle rounds) stop.1
    go (inl b) =
        let l = begun-not m rounds stop.1 b.1 in
        let there : HasReached stop.0.journal l.0 = subst (λ (n : Machine). HasReached n.journal l.0) (sym b.0) (limit_found m told l.0 l.1) in (
          λ reason by. absurd (no-untimely-limit l.0 stop.1 reason l.2 by),
          λ v by. (stop.0, stop.1, is, subst (HasReached stop.0.journal) (limit_same l.0 v (l.2 ∙ by)) there),
          limit-some l.0 stop.1 l.2,
        )
    go (inr b) =
        let d : Event = b.1.0 in
        let blamed = step-fault stop.0 (written-told m.config m.files stop.0 b.0 checked) d stop.1 (inner-fault stop.0 d stop.1 b.1.2) in
        let limit = settles-stop m.config m.files m stop.0 rounds stop.1 checked w (settled-stop m rounds stop is) in (
          λ reason by. absurd (no-untimely-limit limit.0 stop.1 reason (sym limit.1) by),
          λ v by. (stop.0, stop.1, is, reached-only stop.0 d v b.1.1 (blamed-reaches stop.0 d stop.1 v blamed by)),
          blamed-some stop.0 d stop.1 blamed,
        )

  pub event-blames : (e : Event) (stop : Stop) → event_step m e ≡ Err stop → Blames m e stop.1
  event-blames e stop is = go (either-kind e) where
    go : (is_settle e ≡ false) ⊎ ((rounds : ℕ) × (e ≡ event.Settle rounds)) → Blames m e stop.1
    go (inl nots) = plain-blames e stop nots is
    go (inr r) = subst (λ (d : Event). Blames m d stop.1) (sym r.1) (settle-blames r.0 stop (sym (ap (event_step m) r.1) ∙ is))

  -- ---- and back

  not-done : (e : Event) (f : StepFault) → is_settle e ≡ false → machine_step m e ≡ Err f → event_step m e ≡ Err (m, f)
  not-done e f nots is = plain-step m e nots ∙ ap (stepped_from m) is

  pub untimely-stops : (e : Event) (reason : Refusal) → MayNotCome m e reason → event_step m e ≡ Err (m, fault.Refused reason)
  untimely-stops e reason u = go (either-kind e) where
    go : (is_settle e ≡ false) ⊎ ((rounds : ℕ) × (e ≡ event.Settle rounds)) → event_step m e ≡ Err (m, fault.Refused reason)
    go (inl nots) = let v : IsWithinLimits m.journal × IsUntimely m e reason = (plain-untimely m e reason nots).0 u in not-done e (fault.Refused reason) nots (fault-step m told e (fault.Refused reason) v.0 v.1)
    go (inr r) = absurd (subst (λ (d : Event). MayNotCome m d reason) r.1 u)

  -- it stops there, by that limit
  abbrev pub StopsBy : Event → What → Type 0
  StopsBy e v = (n : Machine) × (event_step m e ≡ Err (n, fault.Limit v))

  pub reaches-stop : (e : Event) (v : What) → ReachesLimit m e v → StopsBy e v
  reaches-stop e v r = go (either-kind e) where
    before : is_settle e ≡ false → ReachesBefore m e v → StopsBy e v
    before nots (inl l) = (m, not-done e (fault.Limit v) nots (limit-step m told e v l))
    before nots (inr h) = (m, not-done e (fault.Limit v) nots (fault-step m told e (fault.Limit v) h.0 (h.1, h.2)))

    inside : (rounds : ℕ) → ReachesLimit m (event.Settle rounds) v → StopsBy (event.Settle rounds) v
    inside rounds u = of (settle-stop m.config m.files m rounds (u.0, u.1) w u.2) where
      of : StepNotDone m.config m.files m rounds (u.0, u.1) → StopsBy (event.Settle rounds) v
      of (inl b) =
          let here : HasReached m.journal v = subst (λ (n : Machine). HasReached n.journal v) b.0 u.3 in
          (u.0, u.2 ∙ ap (λ g. Err (u.0, g)) (begun-limit m told rounds u.1 v b.1 here))
      of (inr b) =
          let inner_told : Told u.0 = written-told m.config m.files u.0 b.0 checked in
          let same : u.1 ≡ fault.Limit v = err_fault u.1 (fault.Limit v) (sym b.1.2 ∙ fault-inner u.0 b.1.0 (fault.Limit v) (limit-step u.0 inner_told b.1.0 v u.3)) in
          (u.0, u.2 ∙ ap (λ g. Err (u.0, g)) same)

    go : (is_settle e ≡ false) ⊎ ((rounds : ℕ) × (e ≡ event.Settle rounds)) → StopsBy e v
    go (inl nots) = before nots ((plain-reaches m e v nots).0 r)
    go (inr q) = subst (λ (d : Event). StopsBy d v) (sym q.1) (inside q.0 (subst (λ (d : Event). ReachesLimit m d v) q.1 r))
