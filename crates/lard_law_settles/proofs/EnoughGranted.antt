-- A run with settles: the run without them that it stands for, with each of its events given in range.
use Rattle.std.proofs.Common.{◌≡◌, ◌⊎◌, inl, inr, ℕ, false, List, [], ◌∷◌, ◌++◌, Ok, refl, sym, ap, ◌∙◌, subst, arith}
use Rattle.lard_law_view.specs.Prelude.{Config, Event, HasRule, Machine, Passes, machine_start, machine_step}
use Rattle.lard_base.specs.declared.event.Event.TheVariants as event
use Rattle.lard_law_view.proofs.Runs.{passes-more}
use Rattle.lard_laws.specs.Records.{IsScheduled}
use Rattle.lard_history.proofs.Each.{Each, Each-append}
use Rattle.lard_law_settles.proofs.EnoughBeside.{Is, event-plain, inner-plain}
use Rattle.lard_law_settles.proofs.EnoughWithin.{AreGiven, begun-plain, closed-plain}
use Rattle.lard_law_settles.proofs.SettlesEvents.{either-kind, plain-done, plain-rule}
use Rattle.lard_law_settles.proofs.SettlesFiring.{IsInner, deliver-inner, disk-inner, firings-inner, inner-rule, take-inner}
use Rattle.lard_law_settles.proofs.SettlesInside.{KeptInside, SettleLands, settle-lands}
use Rattle.lard_settling.specs.Events.{GoesThrough, MayCome, event_step}
use Rattle.lard_settling.specs.Settling.{settle_left}
use Rattle.lard_settling.specs.Steps.{inner_step, settle_begun, settle_closed}
use Rattle.lard_settling.specs.Written.{is_settle}
use Rattle.lard_settling.proofs.Written.{written}

-- ---- a state whose journal can be written out, by events that are given in range

module _ (config : Config) (files : List (List ℕ × List ℕ)) (events : AreGiven config files) where
  pub record IsGone (m : Machine) : Type 0 where
    pub is : Is config files m
    pub given : Each IsScheduled is.reached.0

  -- one event more of the run that it stands for
  more : (m n : Machine) (e : Event) (h : IsGone m) (v : Is config files n) → HasRule e → IsScheduled e → machine_step h.is.plain e ≡ Ok v.plain → IsGone n
  more m n e h v rule given step = record {
    is = record v { reached = (h.is.reached.0 ++ e ∷ [], passes-more h.is.reached.0 (machine_start config files) h.is.plain v.plain e h.is.reached.1 rule step) };
    given = Each-append IsScheduled h.is.reached.0 (e ∷ []) h.given (given, tt);
  }

  -- the same run
  still : (m n : Machine) (h : IsGone m) (v : Is config files n) → h.is.plain ≡ v.plain → IsGone n
  still m n h v same = record {
    is = record v { reached = (h.is.reached.0, subst (Passes (machine_start config files) h.is.reached.0) same h.is.reached.1) };
    given = h.given;
  }

  inner-gone : (m n : Machine) (e : Event) → IsGone m → IsInner e → inner_step m e ≡ Ok n → IsGone n
  inner-gone m n e h inner is =
      let one = inner-plain config files m n e h.is (inner-rule e inner) is in
      more m n e h one.0 (inner-rule e inner) (events h.is.plain one.0.plain e h.is.reached inner one.1) one.1

  begun-gone : (m n : Machine) (rounds : ℕ) → IsGone m → settle_begun m rounds ≡ Ok n → IsGone n
  begun-gone m n rounds h is =
      let v : Is config files n = (written config files).settle m n rounds h.is is in
      still m n h v (begun-plain config files m n rounds h.is v is)

  closed-gone : (m : Machine) (done more : ℕ) → IsGone m → IsGone (settle_closed m done more)
  closed-gone m done more h =
      let v : Is config files (settle_closed m done more) = (written config files).closes m done more h.is in
      still m (settle_closed m done more) h v (closed-plain config files m done more h.is v)

  kept-gone : (most : ℕ) → KeptInside IsGone IsInner most
  kept-gone most = record {
    inner = inner-gone;
    closes = λ m done h few. closed-gone m done (settle_left m) h;
    takes = λ m h. take-inner _;
    deliveries = λ m h. deliver-inner _;
    completions = λ m n h. disk-inner n _;
    firings = λ m h. firings-inner m;
  }

  pub settle-gone : (m n : Machine) (rounds : ℕ) → IsGone m → event_step m (event.Settle rounds) ≡ Ok n → IsGone n
  settle-gone m n rounds h is =
      subst (SettleLands IsGone IsInner rounds (kept-gone rounds) m rounds) is (settle-lands IsGone IsInner rounds (kept-gone rounds) m rounds (omega arith) (λ k begun. begun-gone m k rounds h begun))

  event-gone : (m n : Machine) (e : Event) → IsGone m → IsScheduled e → MayCome e → event_step m e ≡ Ok n → IsGone n
  event-gone m n e h given may is = go (either-kind e) where
    go : (is_settle e ≡ false) ⊎ ((rounds : ℕ) × (e ≡ event.Settle rounds)) → IsGone n
    go (inl nots) =
        let rule = plain-rule e nots may in
        let one = event-plain config files m n e h.is rule (plain-done m n e nots is) in
        more m n e h one.0 rule given one.1
    go (inr s) = settle-gone m n s.0 h (sym (ap (event_step m) s.1) ∙ is)

  pub goes-gone : (es : List Event) (m n : Machine) → IsGone m → Each IsScheduled es → GoesThrough m es n → IsGone n
  goes-gone [] m n h given goes = subst IsGone (sym goes) h
  goes-gone (e ∷ es) m n h given goes = goes-gone es goes.0 n (event-gone m goes.0 e h given.0 goes.1 goes.2) given.1 goes.3

  -- at the start
  pub start-gone : IsGone (machine_start config files)
  start-gone = record {
    is = record { plain = machine_start config files; reached = ([], refl); same = refl; journal = refl; events = refl };
    given = tt;
  }
