-- What events lead to can be written out, settles and all, and where a settle ended inside: which step was not done.
use Rattle.std.proofs.Common.{◌≡◌, ◌⊎◌, inl, inr, ℕ, false, List, [], ◌∷◌, ◌++◌, Result, Ok, Err, refl, sym, ap, ◌∙◌, subst, arith}
use Rattle.lard_law_view.specs.Prelude.{Config, Event, HasRule, Machine, StepFault, machine_step}
use Rattle.lard_base.specs.declared.event.Event.TheVariants as event
use Rattle.lard_settling.specs.Events.{GoesThrough, MayCome, event_step, stepped_from}
use Rattle.lard_settling.specs.Settling.{Stop, settle_left}
use Rattle.lard_settling.specs.Steps.{inner_given, inner_step, settle_begun}
use Rattle.lard_settling.specs.Written.{AreWrittenOut, IsWrittenOut, is_settle}
use Rattle.lard_settling.proofs.Written.{written}
use Rattle.lard_app.specs.Replay.{came_to}
use Rattle.lard_law_settles.proofs.Events.{either-kind, plain-rule, plain-step}
use Rattle.lard_law_settles.proofs.Firing.{IsInner, deliver-inner, disk-inner, firings-inner, inner-rule, take-inner}
use Rattle.lard_law_settles.proofs.Inside.{KeptInside, SettleLands, settle-lands}

-- ---- the faults of inner steps

-- an inner step that is not done has the fault of its step
pub inner-fault : (m : Machine) (e : Event) (f : StepFault) → inner_step m e ≡ Err f → machine_step m e ≡ Err f
unfolding inner_step
inner-fault m e f = go (machine_step m e) where
  go : (x : Result Machine StepFault) → inner_given m x ≡ Err f → x ≡ Err f
  go (Ok n) is = cc
  go (Err g) is = let same : g ≡ f = cc in ap (λ h. Err h) same

pub fault-inner : (m : Machine) (e : Event) (f : StepFault) → machine_step m e ≡ Err f → inner_step m e ≡ Err f
unfolding inner_step
fault-inner m e f is = ap (inner_given m) is

-- ---- one more event

pub goes-more : (es : List Event) (m k n : Machine) (e : Event) → GoesThrough m es k → MayCome e → event_step k e ≡ Ok n → GoesThrough m (es ++ e ∷ []) n
goes-more [] m k n e g may is = (n, may, ap (λ (q : Machine). event_step q e) (sym g) ∙ is, refl)
goes-more (d ∷ es) m k n e g may is = (g.0, g.1, g.2, goes-more es g.0 k n e g.3 may is)

-- ---- what can be written out

module _ (config : Config) (files : List (List ℕ × List ℕ)) where
  abbrev Is : Machine → Type 0
  Is m = IsWrittenOut config files m

  pub kept-inside : (most : ℕ) → KeptInside Is IsInner most
  kept-inside most =
      let all : AreWrittenOut config files = written config files in
      record {
        inner = λ m n e p q is. all.inner_steps m n e p (inner-rule e q) is;
        closes = λ m done p le. all.closes m done (settle_left m) p;
        takes = λ m p. take-inner _;
        deliveries = λ m p. deliver-inner _;
        completions = λ m n p. disk-inner n _;
        firings = λ m p. firings-inner m;
      }

  settle-written : (m : Machine) (rounds : ℕ) → Is m → SettleLands Is IsInner rounds (kept-inside rounds) m rounds (event_step m (event.Settle rounds))
  settle-written m rounds w = settle-lands Is IsInner rounds (kept-inside rounds) m rounds (omega arith) (λ n is. (written config files).settle m n rounds w is)

  -- the step that was not done where a settle ended the run: that of its event, or an inner one behind it
  abbrev pub StepNotDone : Machine → ℕ → Stop → Type 0
  StepNotDone m rounds stop = ((stop.0 ≡ m) × (settle_begun m rounds ≡ Err stop.1)) ⊎ (Is stop.0 × ((d : Event) × IsInner d × (inner_step stop.0 d ≡ Err stop.1)))

  pub settle-stop : (m : Machine) (rounds : ℕ) (stop : Stop) → Is m → event_step m (event.Settle rounds) ≡ Err stop → StepNotDone m rounds stop
  settle-stop m rounds stop w is = subst (SettleLands Is IsInner rounds (kept-inside rounds) m rounds) is (settle-written m rounds w)

  settle-is : (m : Machine) (rounds : ℕ) → Is m → Is (came_to (event_step m (event.Settle rounds)))
  settle-is m rounds w = go (event_step m (event.Settle rounds)) (settle-written m rounds w) where
    go : (x : Result Machine Stop) → SettleLands Is IsInner rounds (kept-inside rounds) m rounds x → Is (came_to x)
    go (Ok n) h = h
    go (Err stop) (inl h) = subst Is (sym h.0) w
    go (Err stop) (inr h) = h.0

  plain-is : (m : Machine) (e : Event) (x : Result Machine StepFault) → Is m → HasRule e → machine_step m e ≡ x → Is (came_to (stepped_from m x))
  plain-is m e (Ok n) w rule is = (written config files).steps m n e w rule is
  plain-is m e (Err f) w rule is = w

  -- behind an event, done or not
  pub event-written : (m : Machine) (e : Event) → Is m → MayCome e → Is (came_to (event_step m e))
  event-written m e w may = go (either-kind e) where
    go : (is_settle e ≡ false) ⊎ ((rounds : ℕ) × (e ≡ event.Settle rounds)) → Is (came_to (event_step m e))
    go (inl nots) = subst (λ (x : Result Machine Stop). Is (came_to x)) (sym (plain-step m e nots)) (plain-is m e (machine_step m e) w (plain-rule e nots may) refl)
    go (inr s) = subst (λ (d : Event). Is (came_to (event_step m d))) (sym s.1) (settle-is m s.0 w)
