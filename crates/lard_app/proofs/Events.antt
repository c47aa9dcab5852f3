-- What comes of an event, a step or a settle: numbers, files and records stay; and what it leaves that ended inside.
use Rattle.std.proofs.Common.{◌≡◌, ◌⊎◌, inl, inr, ℕ, ◌+◌, ◌<◌, false, List, [], ◌∷◌, ◌++◌, length, Option, Some, None, Result, Ok, Err, refl, sym, ap, ◌∙◌, subst, append-nil, arith, length-append}
use Rattle.lard_law_view.specs.Prelude.{Event, Machine, Rec, StepFault, What, limit_reached, machine_step, passed, unless_limit}
use Rattle.lard_base.specs.declared.event.Event.TheVariants as event
use Rattle.lard_rules.specs.declared.fault.StepFault.TheVariants as fault
use Rattle.lard_settle.proofs.Growth.{closed-front, front-over}
use Rattle.lard_settle.proofs.Runs.{GoesOn, inner-goes-on, step-goes-on}
use Rattle.lard_history.proofs.Each.{Each}
use Rattle.lard_journal.specs.declared.rec.Rec.TheVariants as rec
use Rattle.lard_settling.specs.Events.{event_step, stepped_from}
use Rattle.lard_settling.specs.Settling.{Stop, completions, deliveries, firings, settle_left, takes}
use Rattle.lard_settling.specs.Steps.{settle_begun, settle_closed}
use Rattle.lard_settling.specs.Written.{is_settle}
use Rattle.lard_app.specs.Replay.{came_to}
use Rattle.lard_law_settles.proofs.Events.{begun-is, either-kind, plain-step}
use Rattle.lard_law_settles.proofs.Inside.{KeptInside, SettleLands, settle-lands}

-- ---- a journal that goes on

goes-over : (m n k : Machine) → GoesOn m n → GoesOn n k → GoesOn m k
goes-over m n k h g =
    let front = front-over m.journal n.journal k.journal (h.more, h.journal, h.begins) (g.more, g.journal, g.begins) in record {
      config = g.config ∙ h.config;
      files = g.files ∙ h.files;
      more = front.0;
      journal = front.1;
      begins = front.2;
    }

goes-nowhere : (m : Machine) → GoesOn m m
goes-nowhere m = record { config = refl; files = refl; more = []; journal = sym (append-nil m.journal); begins = tt }

-- one that has not begun was stopped by a limit
pub begun-not : (m : Machine) (rounds : ℕ) (f : StepFault) → settle_begun m rounds ≡ Err f → (w : What) × (limit_reached m ≡ Some w) × (fault.Limit w ≡ f)
unfolding settle_begun
begun-not m rounds f = go (limit_reached m) refl where
  go : (o : Option What) → limit_reached m ≡ o → unless_limit o (Ok (passed m (event.Settle rounds) [])) ≡ Err f → (w : What) × (o ≡ Some w) × (fault.Limit w ≡ f)
  go None l is = cc
  go (Some what) l is = (what, refl, cc)

every : (es : List Event) → Each (λ e. Unit {0}) es
every [] = tt
every (e ∷ es) = (tt, every es)

-- all that inner steps lead to goes on
goes-inside : (b : Machine) (most : ℕ) → KeptInside (GoesOn b) (λ e. Unit {0}) most
goes-inside b most = record {
  inner = λ m n e p q is. goes-over b m n p (inner-goes-on m n e is);
  closes = λ m done p le.
      let front = closed-front m done (settle_left m) in
      goes-over b m (settle_closed m done (settle_left m)) p (record { config = refl; files = refl; more = front.0; journal = front.1; begins = front.2 });
  takes = λ m p. every (takes m);
  deliveries = λ m p. every (deliveries m);
  completions = λ m n p. every (completions m n);
  firings = λ m p. every (firings m);
}

-- ---- what an event comes to

module _ (m : Machine) (rounds : ℕ) where
  abbrev begun : Machine
  begun = passed m (event.Settle rounds) []

  -- a settle comes to the same state, by a fault, or to one that goes on from where it had begun
  abbrev SettleGoes : Result Machine Stop → Type 0
  SettleGoes (Ok n) = GoesOn begun n
  SettleGoes (Err stop) = (stop.0 ≡ m) ⊎ GoesOn begun stop.0

  settle-goes : SettleGoes (event_step m (event.Settle rounds))
  settle-goes =
      over (event_step m (event.Settle rounds))
      (settle-lands (GoesOn begun) (λ e. Unit {0}) rounds (goes-inside begun rounds) m rounds (omega arith) (λ n is. subst (GoesOn begun) (begun-is m n rounds is) (goes-nowhere begun))) where
        over : (x : Result Machine Stop) → SettleLands (GoesOn begun) (λ e. Unit {0}) rounds (goes-inside begun rounds) m rounds x → SettleGoes x
        over (Ok n) h = h
        over (Err stop) (inl h) = inl h.0
        over (Err stop) (inr h) = inr h.0

  from-begun : (n : Machine) → GoesOn begun n → GoesOn m n
  from-begun n g = goes-over m begun n (record { config = refl; files = refl; more = rec.Event (m.events + 1) (event.Settle rounds) ∷ []; journal = refl; begins = refl }) g

  begun-longer : (n : Machine) → GoesOn begun n → length m.journal < length n.journal
  begun-longer n g =
      let first = ap (λ (J : List Rec). length J) g.journal in
      let second = length-append (m.journal ++ rec.Event (m.events + 1) (event.Settle rounds) ∷ []) g.more in
      let third = length-append m.journal (rec.Event (m.events + 1) (event.Settle rounds) ∷ []) in
      omega (arith, first, second, third)

  pub settle-came : GoesOn m (came_to (event_step m (event.Settle rounds)))
  settle-came = go (event_step m (event.Settle rounds)) settle-goes where
    go : (x : Result Machine Stop) → SettleGoes x → GoesOn m (came_to x)
    go (Ok n) h = from-begun n h
    go (Err stop) (inl same) = subst (GoesOn m) (sym same) (goes-nowhere m)
    go (Err stop) (inr h) = from-begun stop.0 h

  -- where the run ended in it, it had not begun, or its records are there
  pub settle-stays : (stop : Stop) → event_step m (event.Settle rounds) ≡ Err stop → (stop.0 ≡ m) ⊎ (length m.journal < length stop.0.journal)
  settle-stays stop is = go (subst SettleGoes is settle-goes) where
    go : SettleGoes (Err stop) → (stop.0 ≡ m) ⊎ (length m.journal < length stop.0.journal)
    go (inl same) = inl same
    go (inr h) = inr (begun-longer stop.0 h)

plain-came : (m : Machine) (e : Event) (x : Result Machine StepFault) → machine_step m e ≡ x → GoesOn m (came_to (stepped_from m x))
plain-came m e (Ok n) is = step-goes-on m n e is
plain-came m e (Err f) is = goes-nowhere m

-- numbers and files stay, and no record is taken back
pub event-came : (m : Machine) (e : Event) → GoesOn m (came_to (event_step m e))
event-came m e = go (either-kind e) where
  go : (is_settle e ≡ false) ⊎ ((rounds : ℕ) × (e ≡ event.Settle rounds)) → GoesOn m (came_to (event_step m e))
  go (inl nots) = subst (λ (x : Result Machine Stop). GoesOn m (came_to x)) (sym (plain-step m e nots)) (plain-came m e (machine_step m e) refl)
  go (inr is) = subst (λ (d : Event). GoesOn m (came_to (event_step m d))) (sym is.1) (settle-came m is.0)

-- an event that is done
pub event-goes : (m n : Machine) (e : Event) → event_step m e ≡ Ok n → GoesOn m n
event-goes m n e is = subst (λ (x : Result Machine Stop). GoesOn m (came_to x)) is (event-came m e)

-- the machine where the run ended in an event
pub event-left : (m : Machine) (e : Event) (stop : Stop) → event_step m e ≡ Err stop → GoesOn m stop.0
event-left m e stop is = subst (λ (x : Result Machine Stop). GoesOn m (came_to x)) is (event-came m e)

plain-stop : (m : Machine) (x : Result Machine StepFault) (stop : Stop) → stepped_from m x ≡ Err stop → (stop.0 ≡ m) × (x ≡ Err stop.1)
plain-stop m (Ok n) stop is = cc
plain-stop m (Err f) stop is = let same : ◌≡◌ {A = Stop} (m, f) stop = cc in (ap (λ (s : Stop). s.0) (sym same), ap (λ (s : Stop). Err s.1) same)

-- where the run ended in an event that is no settle, its step was not done
pub plain-stopped : (m : Machine) (e : Event) (stop : Stop) → is_settle e ≡ false → event_step m e ≡ Err stop → (stop.0 ≡ m) × (machine_step m e ≡ Err stop.1)
plain-stopped m e stop nots is = plain-stop m (machine_step m e) stop (sym (plain-step m e nots) ∙ is)

-- no record came of an event in which the run ended, and nothing changed; or it is a settle that had begun
pub event-stays : (m : Machine) (e : Event) (stop : Stop) → event_step m e ≡ Err stop → (stop.0 ≡ m) ⊎ ((rounds : ℕ) × (e ≡ event.Settle rounds) × (length m.journal < length stop.0.journal))
event-stays m e stop is = go (either-kind e) where
  go : (is_settle e ≡ false) ⊎ ((rounds : ℕ) × (e ≡ event.Settle rounds)) → (stop.0 ≡ m) ⊎ ((rounds : ℕ) × (e ≡ event.Settle rounds) × (length m.journal < length stop.0.journal))
  go (inl nots) = inl (plain-stopped m e stop nots is).0
  go (inr s) = of (settle-stays m s.0 stop (sym (ap (event_step m) s.1) ∙ is)) where
    of : (stop.0 ≡ m) ⊎ (length m.journal < length stop.0.journal) → (stop.0 ≡ m) ⊎ ((rounds : ℕ) × (e ≡ event.Settle rounds) × (length m.journal < length stop.0.journal))
    of (inl same) = inl same
    of (inr longer) = inr (s.0, s.1, longer)
