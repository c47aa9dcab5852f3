-- What holds of a state and of all to which inner steps lead holds of what a settle comes to; and how a settle ends.
use Rattle.std.proofs.Common.{◌≡◌, ◌⊎◌, inl, inr, ℕ, zero, suc, ◌+◌, ◌==◌, ◌≤◌, Bool, true, false, cond, List, [], ◌∷◌, map, length, Result, Ok, Err, refl, sym, subst, arith}
use Rattle.std.proofs.lemmas.Bool.{and_parts}
use Rattle.std.proofs.lemmas.Bool.Decides.{nat_tests}
use Rattle.lard_agenda.specs.Agenda.{agenda_of, firing, kinds_in, no_seats, rests, timers_left}
use Rattle.lard_agenda.specs.declared.kinds.Running.{Running}
use Rattle.lard_law_view.specs.Prelude.{Event, Machine, StepFault}
use Rattle.lard_base.specs.declared.event.Event.TheVariants as event
use Rattle.lard_history.proofs.Each.{Each}
use Rattle.lard_settling.specs.declared.settled.Settled.{Settled}
use Rattle.lard_settling.specs.Events.{event_step, settled_to}
use Rattle.lard_settling.specs.Settling.{Stop, all_inner, closed_by, completed_since, completions, deliveries, fired_since, firings, is_quiet, jobs_left, settle_left, nodes_complete, round, rounds_from, settled, settled_from, takes}
use Rattle.lard_settling.specs.Steps.{inner_step, settle_begun, settle_closed}

-- ---- where nothing is to be done, nothing is left

no-timers : (rs : List Running) → no_seats (map (λ r. (r.place, r.c)) rs) ≡ true → kinds_in rs ≡ 0
no-timers [] h = refl
no-timers (r ∷ rs) h = cc

pub quiet-left : (m : Machine) → is_quiet m ≡ true → settle_left m ≡ 0
quiet-left m h =
    let parts = and_parts (rests m.front.dispatch (agenda_of m.journal)) (jobs_left m == 0) h in
    let timers : timers_left m.front.dispatch (agenda_of m.journal) ≡ 0 = no-timers (firing m.front.dispatch (agenda_of m.journal)) parts.0 in
    let none = parts.1 in
    let jobs : jobs_left m ≡ 0 = grind (arith, nat_tests, none) in
    omega (arith, timers, jobs)

-- ---- inner steps

-- P is kept by inner steps of events that are Q, and each event of a settle is.
pub record InnerKept (P : Machine → Type 0) (Q : Event → Type 0) : Type 0 where
  pub inner : (m n : Machine) (e : Event) → P m → Q e → inner_step m e ≡ Ok n → P n
  pub takes : (m : Machine) → P m → Each Q (takes m)
  pub deliveries : (m : Machine) → P m → Each Q (deliveries m)
  pub completions : (m : Machine) (n : ℕ) → P m → Each Q (completions m n)
  pub firings : (m : Machine) → P m → Each Q (firings m)

module _ (P : Machine → Type 0) (Q : Event → Type 0) where
  -- an inner step was not done
  abbrev pub NotDone : Stop → Type 0
  NotDone stop = P stop.0 × ((d : Event) × Q d × (inner_step stop.0 d ≡ Err stop.1))

  -- It ended: behind so many rounds, all of them where anything was left, it was closed.
  pub record IsClosed (rounds : ℕ) (n : Machine) : Type 0 where
    pub last : Machine
    pub done : ℕ
    pub holds : P last
    pub few : done ≤ rounds
    pub over : (settle_left last ≡ 0) ⊎ (done ≡ rounds)
    pub is : n ≡ settle_closed last done (settle_left last)

  -- it ended, or had not begun, or an inner step of it was not done
  abbrev pub SettleEnds : Machine → ℕ → Result Machine Stop → Type 0
  SettleEnds m rounds (Ok n) = IsClosed rounds n
  SettleEnds m rounds (Err stop) = ((stop.0 ≡ m) × (settle_begun m rounds ≡ Err stop.1)) ⊎ NotDone stop

  module _ (k : InnerKept P Q) where
    abbrev Lands : Result Machine Stop → Type 0
    Lands (Ok n) = P n
    Lands (Err stop) = NotDone stop

    all-land : (es : List Event) (m : Machine) → P m → Each Q es → Lands (all_inner m es)
    unfolding all_inner
    all-land [] m p all = p
    all-land (e ∷ es) m p all = go (inner_step m e) refl (λ n q. all-land es n q all.1) where
      go : (x : Result Machine StepFault) → inner_step m e ≡ x → ((n : Machine) → P n → Lands (all_inner n es)) → Lands (elim x as (λ r. Result Machine Stop) [ Err fault ↦ Err (m, fault) | Ok n ↦ all_inner n es ])
      go (Err fault) is later = (p, (e, all.0, is))
      go (Ok n) is later = later n (k.inner m n e p all.0 is)

    -- of two calls, the second from where the first came to
    then-land : (x : Result Machine Stop) (f : Machine → Result Machine Stop) → Lands x → ((n : Machine) → P n → Lands (f n)) → Lands (elim x as (λ r. Result Machine Stop) [ Err stop ↦ Err stop | Ok n ↦ f n ])
    then-land (Err stop) f h g = h
    then-land (Ok n) f h g = g n h

    nodes-land : (more n : ℕ) (m : Machine) → P m → Lands (nodes_complete m n more)
    unfolding nodes_complete
    nodes-land zero n m p = p
    nodes-land (suc more) n m p = then-land (all_inner m (completions m n)) (λ j. nodes_complete j (n + 1) more) (all-land (completions m n) m p (k.completions m n p)) (λ j q. nodes-land more (n + 1) j q)

    fired-land : (b : Bool) (n : Machine) → P n → Lands (cond b (all_inner n (firings n)) (Ok n))
    fired-land true n p = all-land (firings n) n p (k.firings n p)
    fired-land false n p = p

    completed-land : (records : ℕ) (n : Machine) → P n → Lands (completed_since records n)
    completed-land records n p = then-land (nodes_complete n 1 n.config.nodes) (fired_since records) (nodes-land n.config.nodes 1 n p) (λ j q. fired-land _ j q)

    round-land : (m : Machine) → P m → Lands (round m)
    unfolding round
    round-land m p = then-land (all_inner m (deliveries m)) (completed_since (length m.journal)) (all-land (deliveries m) m p (k.deliveries m p)) (λ n q. completed-land (length m.journal) n q)

    -- ---- rounds

    abbrev RoundsLand : ℕ → Result (Machine × ℕ) Stop → Type 0
    RoundsLand rounds (Ok (n, done)) = P n × (done ≤ rounds) × ((settle_left n ≡ 0) ⊎ (done ≡ rounds))
    RoundsLand rounds (Err stop) = NotDone stop

    rounds-land : (rounds more done : ℕ) (m : Machine) → done + more ≡ rounds → P m → RoundsLand rounds (rounds_from more done m)
    unfolding rounds_from
    rounds-land rounds zero done m all p = (p, omega (arith, all), inr (omega (arith, all)))
    rounds-land rounds (suc more) done m all p = test (is_quiet m) refl (λ n q. rounds-land rounds more (done + 1) n (omega (arith, all)) q) where
      go : (x : Result Machine Stop) → Lands x → ((n : Machine) → P n → RoundsLand rounds (rounds_from more (done + 1) n)) → RoundsLand rounds (elim x as (λ r. Result (Machine × ℕ) Stop) [ Err stop ↦ Err stop | Ok n ↦ rounds_from more (done + 1) n ])
      go (Err stop) h later = h
      go (Ok n) h later = later n h

      test : (b : Bool) → is_quiet m ≡ b → ((n : Machine) → P n → RoundsLand rounds (rounds_from more (done + 1) n))
          → RoundsLand rounds (cond b (Ok (m, done)) (elim (round m) as (λ r. Result (Machine × ℕ) Stop) [ Err stop ↦ Err stop | Ok n ↦ rounds_from more (done + 1) n ]))
      test true quiet later = (p, omega (arith, all), inl (quiet-left m quiet))
      test false quiet later = go (round m) (round-land m p) later

    -- ---- the whole

    abbrev SettledLands : ℕ → Result (Machine × Settled) Stop → Type 0
    SettledLands rounds (Ok (n, s)) = IsClosed rounds n
    SettledLands rounds (Err stop) = NotDone stop

    closed-lands : (rounds : ℕ) (x : Result (Machine × ℕ) Stop) → RoundsLand rounds x → SettledLands rounds (closed_by x)
    closed-lands rounds (Err stop) h = h
    closed-lands rounds (Ok (n, done)) h = record { last = n; done = done; holds = h.0; few = h.1; over = h.2; is = refl }

    from-lands : (m : Machine) (rounds : ℕ) → P m → SettledLands rounds (settled_from m rounds)
    from-lands m rounds p = go (all_inner m (takes m)) (all-land (takes m) m p (k.takes m p)) where
      go : (x : Result Machine Stop) → Lands x → SettledLands rounds (elim x as (λ r. Result (Machine × Settled) Stop) [ Err stop ↦ Err stop | Ok n ↦ closed_by (rounds_from rounds 0 n) ])
      go (Err stop) h = h
      go (Ok n) h = closed-lands rounds (rounds_from rounds 0 n) (rounds-land rounds rounds 0 n (omega arith) h)

    pub settle-ends : (m : Machine) (rounds : ℕ) → ((n : Machine) → settle_begun m rounds ≡ Ok n → P n) → SettleEnds m rounds (event_step m (event.Settle rounds))
    unfolding event_step settled
    settle-ends m rounds begins = go (settle_begun m rounds) refl where
      over : (y : Result (Machine × Settled) Stop) → SettledLands rounds y → SettleEnds m rounds (settled_to y)
      over (Ok (n, s)) h = h
      over (Err stop) h = inr h

      go : (x : Result Machine StepFault) → settle_begun m rounds ≡ x → SettleEnds m rounds (settled_to (elim x as (λ r. Result (Machine × Settled) Stop) [ Err fault ↦ Err (m, fault) | Ok n ↦ settled_from n rounds ]))
      go (Err fault) is = inl (refl, is)
      go (Ok n) is = over (settled_from n rounds) (from-lands n rounds (begins n is))

-- ---- what the closing record keeps too

-- P is kept by inner steps of events that are Q, each event of a settle is, and P is kept where one of at most so many rounds is closed.
pub record KeptInside (P : Machine → Type 0) (Q : Event → Type 0) (most : ℕ) : Type 0 where
  pub inner : (m n : Machine) (e : Event) → P m → Q e → inner_step m e ≡ Ok n → P n
  pub closes : (m : Machine) (done : ℕ) → P m → done ≤ most → P (settle_closed m done (settle_left m))
  pub takes : (m : Machine) → P m → Each Q (takes m)
  pub deliveries : (m : Machine) → P m → Each Q (deliveries m)
  pub completions : (m : Machine) (n : ℕ) → P m → Each Q (completions m n)
  pub firings : (m : Machine) → P m → Each Q (firings m)

module _ (P : Machine → Type 0) (Q : Event → Type 0) (most : ℕ) (k : KeptInside P Q most) where
  inner-kept : InnerKept P Q
  inner-kept = record { inner = k.inner; takes = k.takes; deliveries = k.deliveries; completions = k.completions; firings = k.firings }

  -- it is done, or had not begun, or an inner step of it was not done
  abbrev pub SettleLands : Machine → ℕ → Result Machine Stop → Type 0
  SettleLands m rounds (Ok n) = P n
  SettleLands m rounds (Err stop) = ((stop.0 ≡ m) × (settle_begun m rounds ≡ Err stop.1)) ⊎ NotDone P Q stop

  pub settle-lands : (m : Machine) (rounds : ℕ) → rounds ≤ most → ((n : Machine) → settle_begun m rounds ≡ Ok n → P n) → SettleLands m rounds (event_step m (event.Settle rounds))
  settle-lands m rounds le begins = over (event_step m (event.Settle rounds)) (settle-ends P Q inner-kept m rounds begins) where
    over : (x : Result Machine Stop) → SettleEnds P Q m rounds x → SettleLands m rounds x
    over (Ok n) c = let few = c.few in subst P (sym c.is) (k.closes c.last c.done c.holds (omega (arith, few, le)))
    over (Err stop) h = h
