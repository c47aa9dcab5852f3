-- The journal of a run with settles is sound: its settles stand in order, and with them written out it is that of a run without any.
use Rattle.std.proofs.Common.{◌≡◌, ◌⊎◌, inl, inr, ℕ, false, List, [], ◌∷◌, Ok, Err, sym, ap, ◌∙◌, subst}
use Rattle.lard_law_view.specs.Prelude.{Config, Event, Machine, StepFault, file_at, machine_start}
use Rattle.lard_base.specs.declared.event.Event.TheVariants as event
use Rattle.lard_law_audit.specs.Laws.{SettledRunsAreSound}
use Rattle.lard_law_audit.proofs.Settled.{settled-sound}
use Rattle.lard_law_settles.proofs.SettlesEvents.{either-kind, plain-done, plain-rule}
use Rattle.lard_law_settles.proofs.SettlesFiring.{IsInner, deliver-inner, disk-inner, firings-inner, inner-rule, take-inner}
use Rattle.lard_law_settles.proofs.SettlesInside.{InnerKept, IsClosed, SettleEnds, settle-ends}
use Rattle.lard_law_settles.proofs.SettlesOrder.{in-order}
use Rattle.lard_laws.proofs.Lawful.{journals-lawful}
use Rattle.lard_laws.specs.Lawful.{IsLawful}
use Rattle.lard_settling.proofs.Written.{written}
use Rattle.lard_settling.specs.Events.{GoesThrough, LeadsTo, MayCome, event_step}
use Rattle.lard_settling.specs.Settling.{settle_left}
use Rattle.lard_settling.specs.Written.{IsWrittenOut, is_settle}

module _ (config : Config) (files : List (List ℕ × List ℕ)) where
  abbrev Is : Machine → Type 0
  Is m = IsWrittenOut config files m

  kept : InnerKept Is IsInner
  kept = record {
    inner = λ m n e h inner is. (written config files).inner_steps m n e h (inner-rule e inner) is;
    takes = λ m h. take-inner _;
    deliveries = λ m h. deliver-inner _;
    completions = λ m n h. disk-inner n _;
    firings = λ m h. firings-inner m;
  }

  settle-written : (m : Machine) (rounds : ℕ) → Is m → SettleEnds Is IsInner m rounds (event_step m (event.Settle rounds))
  settle-written m rounds h = settle-ends Is IsInner kept m rounds (λ n is. (written config files).settle m n rounds h is)

  closed-written : (n : Machine) (rounds : ℕ) → IsClosed Is IsInner rounds n → Is n
  closed-written n rounds c = subst Is (sym c.is) ((written config files).closes c.last c.done (settle_left c.last) c.holds)

  event-written : (m n : Machine) (e : Event) → Is m → MayCome e → event_step m e ≡ Ok n → Is n
  event-written m n e h may is = go (either-kind e) where
    go : (is_settle e ≡ false) ⊎ ((rounds : ℕ) × (e ≡ event.Settle rounds)) → Is n
    go (inl plain) = (written config files).steps m n e h (plain-rule e plain may) (plain-done m n e plain is)
    go (inr s) =
        let done : event_step m (event.Settle s.0) ≡ Ok n = sym (ap (event_step m) s.1) ∙ is in
        closed-written n s.0 (subst (SettleEnds Is IsInner m s.0) done (settle-written m s.0 h))

  goes-written : (es : List Event) (m n : Machine) → Is m → GoesThrough m es n → Is n
  goes-written [] m n h goes = subst Is (sym goes) h
  goes-written (e ∷ es) m n h goes = goes-written es goes.0 n (event-written m goes.0 e h goes.1 goes.2) goes.3

  -- a run may end inside a settle
  stop-written : (m n : Machine) (rounds : ℕ) (fault : StepFault) → Is m → event_step m (event.Settle rounds) ≡ Err (n, fault) → Is n
  stop-written m n rounds fault h is = go (subst (SettleEnds Is IsInner m rounds) is (settle-written m rounds h)) where
    go : SettleEnds Is IsInner m rounds (Err (n, fault)) → Is n
    go (inl began) = subst Is (sym began.0) h
    go (inr ended) = ended.0

  leads-written : (es : List Event) (m : Machine) → LeadsTo (machine_start config files) es m → Is m
  leads-written es m (inl goes) = goes-written es (machine_start config files) m (written config files).begins goes
  leads-written es m (inr i) = stop-written i.behind m i.rounds i.fault (goes-written i.before (machine_start config files) i.behind (written config files).begins i.goes) i.stops

pub settled-runs-sound : SettledRunsAreSound
settled-runs-sound config files es m checked leads =
    let w : IsWrittenOut config files m = leads-written config files es m leads in
    settled-sound config files m.journal (in-order config files es m leads) (subst (IsLawful config (file_at files)) w.journal (journals-lawful config files w.plain checked w.reached))
