-- Events one after another: what of them happened, and why they end.
use Rattle.std.proofs.Common.{◌≡◌, ◌⊎◌, ◌↔◌, inl, inr, ℕ, suc, ◌+◌, ◌<◌, List, [], ◌∷◌, ◌++◌, length, Result, Ok, Err, refl, sym, ap, ◌∙◌, subst, add-zero, arith}
use Rattle.lard_law_view.specs.Prelude.{Event, Machine, StepFault}
use Rattle.lard_base.specs.declared.event.Event.TheVariants as event
use Rattle.lard_rules.specs.declared.fault.StepFault.TheVariants as fault
use Rattle.lard_history.proofs.Each.{Each}
use Rattle.lard_settling.specs.Events.{GoesThrough, LeadsTo, MayCome, event_step}
use Rattle.lard_settling.specs.Settling.{Stop}
use Rattle.lard_app.specs.declared.status.Status.{Status}
use Rattle.lard_app.specs.declared.status.Status.TheVariants.{Done, Usage, Refused, ReadFault, WriteFault, NoMemory, Limit}
use Rattle.lard_app.specs.Generate.{EndsEvent, EndsLeft, EndsPlay, played}
use Rattle.lard_app.specs.Replay.{ended_by}
use Rattle.lard_app.proofs.Blames.{Blames, event-blames, reaches-stop}
use Rattle.lard_app.proofs.Events.{event-stays}
use Rattle.lard_app.proofs.Fit.{IsFit, next-fit}
use Rattle.lard_app.proofs.Timely.{AreTimely, IsTimely}

-- a fault is no good end
not-done : (line : ℕ) (f : StepFault) → ¬ (ended_by line f ≡ Done)
not-done line (fault.Refused reason) e = cc
not-done line (fault.Limit what) e = cc
not-done line fault.NoMemory e = cc

-- an event that is done leads on, and one that is not is the last
played-goes : (line : ℕ) (m n : Machine) (e : Event) (es : List Event) → event_step m e ≡ Ok n → played line m (e ∷ es) ≡ played (line + 1) n es
played-goes line m n e es is = rw (is, played) refl

played-stops : (line : ℕ) (m : Machine) (e : Event) (es : List Event) (stop : Stop) → event_step m e ≡ Err stop → played line m (e ∷ es) ≡ (stop.0, ended_by line stop.1)
played-stops line m e es stop is = rw (is, played) refl

-- ---- what happened

-- a front of the events happened, and all of them where the run is done
pub record Front (line : ℕ) (m : Machine) (events : List Event) : Type 0 where
  pub done : List Event
  pub rest : List Event
  pub are : events ≡ done ++ rest
  pub leads : LeadsTo m done (played line m events).0
  pub all : (played line m events).1 ≡ Done → rest ≡ []

-- one event more stands before those that lead on
leads-behind : (e : Event) (es : List Event) (m n k : Machine) → MayCome e → event_step m e ≡ Ok n → LeadsTo n es k → LeadsTo m (e ∷ es) k
leads-behind e es m n k may is (inl goes) = inl (n, may, is, goes)
leads-behind e es m n k may is (inr i) = inr (record {
  before = e ∷ i.before;
  rounds = i.rounds;
  are = ap (λ (ds : List Event). e ∷ ds) i.are;
  behind = i.behind;
  goes = (n, may, is, i.goes);
  fault = i.fault;
  stops = i.stops;
  begun = i.begun;
})

pub front : (line : ℕ) (m : Machine) (events : List Event) → Each MayCome events → Front line m events
front line m [] may = record { done = []; rest = []; are = refl; leads = inl refl; all = λ e. refl }
front line m (e ∷ es) may = go (event_step m e) refl (λ n. front (line + 1) n es may.1) where
  none : (stop : Stop) → event_step m e ≡ Err stop → (rest : List Event) → (played line m (e ∷ es)).1 ≡ Done → rest ≡ []
  none stop is rest h = absurd (not-done line stop.1 (sym (ap (λ (p : Machine × Status). p.1) (played-stops line m e es stop is)) ∙ h))

  stopped : (stop : Stop) → event_step m e ≡ Err stop → (stop.0 ≡ m) ⊎ ((rounds : ℕ) × (e ≡ event.Settle rounds) × (length m.journal < length stop.0.journal)) → Front line m (e ∷ es)
  stopped stop is (inl same) = record {
    done = [];
    rest = e ∷ es;
    are = refl;
    leads = subst (λ (p : Machine × Status). LeadsTo m [] p.0) (sym (played-stops line m e es stop is)) (inl same);
    all = none stop is (e ∷ es);
  }
  stopped stop is (inr s) = record {
    done = e ∷ [];
    rest = es;
    are = refl;
    leads = subst (λ (p : Machine × Status). LeadsTo m (e ∷ []) p.0) (sym (played-stops line m e es stop is)) (inr (record {
      before = [];
      rounds = s.0;
      are = ap (λ (d : Event). d ∷ []) s.1;
      behind = m;
      goes = refl;
      fault = stop.1;
      stops = sym (ap (event_step m) s.1) ∙ is;
      begun = s.2;
    }));
    all = none stop is es;
  }

  go : (x : Result Machine Stop) → event_step m e ≡ x → ((n : Machine) → Front (line + 1) n es) → Front line m (e ∷ es)
  go (Err stop) is later = stopped stop is (event-stays m e stop is)
  go (Ok n) is later =
      let f = later n in
      record {
        done = e ∷ f.done;
        rest = f.rest;
        are = ap (λ (ds : List Event). e ∷ ds) f.are;
        leads = subst (λ (p : Machine × Status). LeadsTo m (e ∷ f.done) p.0) (sym (played-goes line m n e es is)) (leads-behind e f.done m n (played (line + 1) n es).0 may.0 is f.leads);
        all = λ h. f.all (sym (ap (λ (p : Machine × Status). p.1) (played-goes line m n e es is)) ∙ h);
      }

-- where the run is done, all of them were done
pub played-done : (line : ℕ) (m : Machine) (events : List Event) → Each MayCome events → (played line m events).1 ≡ Done → GoesThrough m events (played line m events).0
played-done line m [] may h = refl
played-done line m (e ∷ es) may h = go (event_step m e) refl (λ n. played-done (line + 1) n es may.1) where
  go : (x : Result Machine Stop) → event_step m e ≡ x → ((n : Machine) → (played (line + 1) n es).1 ≡ Done → GoesThrough n es (played (line + 1) n es).0) → GoesThrough m (e ∷ es) (played line m (e ∷ es)).0
  go (Err stop) is later = absurd (not-done line stop.1 (sym (ap (λ (p : Machine × Status). p.1) (played-stops line m e es stop is)) ∙ h))
  go (Ok n) is later =
      let same = played-goes line m n e es is in
      subst (λ (p : Machine × Status). GoesThrough m (e ∷ es) p.0) (sym same) (n, may.0, is, later n (sym (ap (λ (p : Machine × Status). p.1) same) ∙ h))

-- ---- why they end

-- a fault of an event that may come is a limit
fault-ends : (m : Machine) (line : ℕ) (e : Event) (f : StepFault) → IsTimely m e → Blames m e f → EndsEvent m line e (ended_by line f)
fault-ends m line e (fault.Refused reason) t b = absurd (t reason (b.0 reason refl))
fault-ends m line e (fault.Limit w) t b = (refl, b.1 w refl)
fault-ends m line e fault.NoMemory t b = absurd (b.2 refl)

-- the event stops, and that ends the run so
abbrev Stops : Machine → ℕ → Event → Status → Type 0
Stops m line e status = (stop : Stop) × (event_step m e ≡ Err stop) × (ended_by line stop.1 ≡ status)

event-stops : (m : Machine) → IsFit m → (line : ℕ) (e : Event) (status : Status) → EndsEvent m line e status → Stops m line e status
event-stops m fit line e (Limit number v) u =
    let r = reaches-stop m fit.written fit.checked e v u.1 in ((r.0, fault.Limit v), r.1, ap (λ l. Limit l v) (sym u.0))
event-stops m fit line e (Refused number cause) u = absurd u
event-stops m fit line e Done u = absurd u
event-stops m fit line e Usage u = absurd u
event-stops m fit line e ReadFault u = absurd u
event-stops m fit line e WriteFault u = absurd u
event-stops m fit line e NoMemory u = absurd u

pub ends-play : (line : ℕ) (m : Machine) (events : List Event) (status : Status) → Each MayCome events → IsFit m → AreTimely m events → (played line m events).1 ≡ status → EndsPlay m line events status
ends-play line m [] status may fit timely h = record { before = []; rest = []; are = refl; state = m; goes = refl; ends = sym h }
ends-play line m (e ∷ es) status may fit timely h = go (event_step m e) refl (λ n k later. ends-play (line + 1) n es status may.1 k later) where
  go : (x : Result Machine Stop) → event_step m e ≡ x → ((n : Machine) → IsFit n → AreTimely n es → (played (line + 1) n es).1 ≡ status → EndsPlay n (line + 1) es status) → EndsPlay m line (e ∷ es) status
  go (Err stop) is later =
      let ended : ended_by line stop.1 ≡ status = sym (ap (λ (p : Machine × Status). p.1) (played-stops line m e es stop is)) ∙ h in
      record {
        before = [];
        rest = e ∷ es;
        are = refl;
        state = m;
        goes = refl;
        ends = subst (EndsEvent m (line + 0) e) ended (subst (λ l. EndsEvent m l e (ended_by line stop.1)) (sym (add-zero line)) (fault-ends m line e stop.1 timely.0 (event-blames m fit.written fit.checked e stop is)));
      }
  go (Ok n) is later =
      let r = later n (next-fit m n e may.0 fit is) (timely.1 n may.0 is) (sym (ap (λ (p : Machine × Status). p.1) (played-goes line m n e es is)) ∙ h) in
      let sum : line + 1 + length r.before ≡ line + suc (length r.before) = omega arith in
      record {
        before = e ∷ r.before;
        rest = r.rest;
        are = ap (λ (ds : List Event). e ∷ ds) r.are;
        state = r.state;
        goes = (n, may.0, is, r.goes);
        ends = subst (λ l. EndsLeft r.state l r.rest status) sum r.ends;
      }

left-ends : (line : ℕ) (m : Machine) (rest : List Event) (status : Status) → IsFit m → EndsLeft m line rest status → (played line m rest).1 ≡ status
left-ends line m [] status fit u = sym u
left-ends line m (e ∷ es) status fit u = let s = event-stops m fit line e status u in ap (λ (p : Machine × Status). p.1) (played-stops line m e es s.0 s.1) ∙ s.2

play-ends : (before : List Event) (line : ℕ) (m n : Machine) (rest : List Event) (status : Status) → IsFit m → GoesThrough m before n → EndsLeft n (line + length before) rest status → (played line m (before ++ rest)).1 ≡ status
play-ends [] line m n rest status fit goes u = left-ends line m rest status fit (subst (λ l. EndsLeft m l rest status) (add-zero line) (subst (λ (k : Machine). EndsLeft k (line + 0) rest status) goes u))
play-ends (e ∷ es) line m n rest status fit goes u =
    let sum : line + suc (length es) ≡ line + 1 + length es = omega arith in
    let later = play-ends es (line + 1) goes.0 n rest status (next-fit m goes.0 e goes.1 fit goes.2) goes.3 (subst (λ l. EndsLeft n l rest status) sum u) in
    ap (λ (p : Machine × Status). p.1) (played-goes line m goes.0 e (es ++ rest) goes.2) ∙ later

-- events end with a status exactly where its cause is there
pub caused : (line : ℕ) (m : Machine) (events : List Event) → Each MayCome events → IsFit m → AreTimely m events → (status : Status) → ((played line m events).1 ≡ status) ↔ EndsPlay m line events status
caused line m events may fit timely status = (
  λ h. ends-play line m events status may fit timely h,
  λ p. ap (λ (es : List Event). (played line m es).1) p.are ∙ play-ends p.before line m p.state p.rest status fit p.goes p.ends,
)

-- ---- what the code does of them

-- one more event was done
pub played-on : (line : ℕ) (m n : Machine) (e : Event) (es all : List Event) (given : Machine × Status) → event_step m e ≡ Ok n → all ≡ e ∷ es → played line m all ≡ given → played (line + 1) n es ≡ given
played-on line m n e es all given is are h = sym (played-goes line m n e es is) ∙ ap (played line m) (sym are) ∙ h
