-- A whole settle: each of its inner steps is taken from a state that a run leads to, so it stops at a limit alone.
use Rattle.std.proofs.Common.{◌≡◌, ℕ, zero, suc, ◌+◌, ◌==◌, Bool, true, false, cond, List, [], ◌∷◌, map, filter, length, replicate, Option, Some, None, Result, Ok, Err, refl, ap, subst}
use Rattle.lard_agenda.specs.Agenda.{agenda_of, due, holders, on_way}
use Rattle.lard_law_view.specs.Prelude.{Config, Event, HasRule, Machine, Place, StepFault, What, config_check, limit_reached, passed, unless_limit}
use Rattle.lard_base.specs.declared.event.Event.TheVariants as event
use Rattle.lard_history.proofs.Each.{Each}
use Rattle.lard_settling.specs.declared.settled.Settled.{Settled}
use Rattle.lard_settling.specs.Settling.{Stop, all_inner, closed_by, completed_since, completions, deliveries, fired_since, firings, is_own_seat, is_quiet, nodes_complete, round, rounds_from, settled, settled_from, takes}
use Rattle.lard_law_settles.specs.SettlesStops.{IsLimit, SettlesStopAtLimits, StopsAtLimits}
use Rattle.lard_law_settles.proofs.SettlesLists.{completions-all, deliveries-stop, firings-stop, own-timer, takes-stop}
use Rattle.lard_settling.specs.Left.{is_holder, jobs_at}
use Rattle.lard_settling.specs.Steps.{inner_step, settle_begun}
use Rattle.lard_settling.specs.Written.{IsWrittenOut}
use Rattle.lard_settling.proofs.Written.{written}

-- ---- each event has a rule

abbrev AreRuled : List Event → Type 0
AreRuled = Each HasRule

takes-ruled : (cs : List ℕ) → AreRuled (map event.Take cs)
takes-ruled [] = tt
takes-ruled (c ∷ cs) = (tt, takes-ruled cs)

deliveries-ruled : (ks : List ℕ) → AreRuled (map event.Deliver ks)
deliveries-ruled [] = tt
deliveries-ruled (k ∷ ks) = (tt, deliveries-ruled ks)

completions-ruled : (count n : ℕ) → AreRuled (replicate count (event.Disk n 1))
completions-ruled zero n = tt
completions-ruled (suc count) n = (tt, completions-ruled count n)

firings-ruled : (seats : List (Place × ℕ)) → AreRuled (map (λ (seat : Place × ℕ). event.Timer seat.0 seat.1) (filter is_own_seat seats))
firings-ruled [] = tt
firings-ruled (seat ∷ seats) = go (is_own_seat seat) refl (firings-ruled seats) where
  go : (b : Bool) → is_own_seat seat ≡ b → AreRuled (map (λ (s : Place × ℕ). event.Timer s.0 s.1) (filter is_own_seat seats)) → AreRuled (map (λ (s : Place × ℕ). event.Timer s.0 s.1) (cond b (seat ∷ filter is_own_seat seats) (filter is_own_seat seats)))
  go true own rest = (own-timer seat.0 seat.1 own, rest)
  go false own rest = rest

module _ (config : Config) (files : List (List ℕ × List ℕ)) (checked : config_check config ≡ Ok tt) where
  abbrev Is : Machine → Type 0
  Is m = IsWrittenOut config files m

  -- ---- inner steps, and what they lead to

  -- done, they lead to a state whose journal can be written out; else they stopped at a limit
  abbrev Goes : Result Machine Stop → Type 0
  Goes (Ok n) = Is n
  Goes (Err stop) = IsLimit stop.1

  abbrev Leads : Result Machine Stop → Type 0
  Leads (Ok n) = Is n
  Leads (Err stop) = Unit {0}

  goes-by : (x : Result Machine Stop) → StopsAtLimits x → Leads x → Goes x
  goes-by (Ok n) stops leads = leads
  goes-by (Err stop) stops leads = stops

  all-lead : (es : List Event) (m : Machine) → AreRuled es → Is m → Leads (all_inner m es)
  unfolding all_inner
  all-lead [] m ruled w = w
  all-lead (e ∷ es) m ruled w = go (inner_step m e) refl (λ n v. all-lead es n ruled.1 v) where
    go : (x : Result Machine StepFault) → inner_step m e ≡ x → ((n : Machine) → Is n → Leads (all_inner n es)) → Leads (elim x as (λ r. Result Machine Stop) [ Err fault ↦ Err (m, fault) | Ok n ↦ all_inner n es ])
    go (Err fault) is more = tt
    go (Ok n) is more = more n ((written config files).inner_steps m n e w ruled.0 is)

  all-go : (es : List Event) (m : Machine) → AreRuled es → Is m → StopsAtLimits (all_inner m es) → Goes (all_inner m es)
  all-go es m ruled w stops = goes-by (all_inner m es) stops (all-lead es m ruled w)

  then-go : (x : Result Machine Stop) (f : Machine → Result Machine Stop) → Goes x → ((n : Machine) → Is n → Goes (f n)) → Goes (elim x as (λ r. Result Machine Stop) [ Err stop ↦ Err stop | Ok n ↦ f n ])
  then-go (Err stop) f h more = h
  then-go (Ok n) f h more = more n h

  -- ---- a round

  nodes-go : (more n : ℕ) (m : Machine) → Is m → Goes (nodes_complete m n more)
  unfolding nodes_complete
  nodes-go zero n m w = w
  nodes-go (suc more) n m w = then-go (all_inner m (completions m n)) (λ k. nodes_complete k (n + 1) more)
      (all-go (completions m n) m (completions-ruled (jobs_at m n) n) w (completions-all n config files m w)) (λ k v. nodes-go more (n + 1) k v)

  fired-go : (b : Bool) (m : Machine) → Is m → Goes (cond b (all_inner m (firings m)) (Ok m))
  fired-go true m w = all-go (firings m) m (firings-ruled (due m.front.dispatch (agenda_of m.journal))) w (firings-stop config files m checked w)
  fired-go false m w = w

  completed-go : (records : ℕ) (m : Machine) → Is m → Goes (completed_since records m)
  completed-go records m w = then-go (nodes_complete m 1 m.config.nodes) (fired_since records) (nodes-go m.config.nodes 1 m w) (λ k v. fired-go (length k.journal == records) k v)

  round-goes : (m : Machine) → Is m → Goes (round m)
  unfolding round
  round-goes m w = then-go (all_inner m (deliveries m)) (completed_since (length m.journal))
      (all-go (deliveries m) m (deliveries-ruled (on_way (agenda_of m.journal))) w (deliveries-stop config files m w)) (completed-go (length m.journal))

  -- ---- rounds, and the whole

  rounds-stop : (more done : ℕ) (m : Machine) → Is m → StopsAtLimits (rounds_from more done m)
  unfolding rounds_from
  rounds-stop zero done m w = tt
  rounds-stop (suc more) done m w = test (is_quiet m) (λ n v. rounds-stop more (done + 1) n v) where
    go : (x : Result Machine Stop) → ((n : Machine) → Is n → StopsAtLimits (rounds_from more (done + 1) n)) → Goes x → StopsAtLimits (elim x as (λ r. Result (Machine × ℕ) Stop) [ Err stop ↦ Err stop | Ok n ↦ rounds_from more (done + 1) n ])
    go (Err stop) later h = h
    go (Ok n) later h = later n h

    test : (b : Bool) → ((n : Machine) → Is n → StopsAtLimits (rounds_from more (done + 1) n)) → StopsAtLimits (cond b (Ok (m, done)) (elim (round m) as (λ r. Result (Machine × ℕ) Stop) [ Err stop ↦ Err stop | Ok n ↦ rounds_from more (done + 1) n ]))
    test true later = tt
    test false later = go (round m) later (round-goes m w)

  closed-stops : (x : Result (Machine × ℕ) Stop) → StopsAtLimits x → StopsAtLimits (closed_by x)
  closed-stops (Err stop) h = h
  closed-stops (Ok done) h = tt

  settled-from-stops : (m : Machine) (rounds : ℕ) → Is m → StopsAtLimits (settled_from m rounds)
  settled-from-stops m rounds w = go (all_inner m (takes m)) (all-go (takes m) m (takes-ruled (filter (is_holder m) (holders (agenda_of m.journal)))) w (takes-stop config files m w)) where
    go : (x : Result Machine Stop) → Goes x → StopsAtLimits (elim x as (λ r. Result (Machine × Settled) Stop) [ Err stop ↦ Err stop | Ok n ↦ closed_by (rounds_from rounds 0 n) ])
    go (Err stop) h = h
    go (Ok n) h = closed-stops (rounds_from rounds 0 n) (rounds-stop rounds 0 n h)

  -- its event is recorded, or a limit was reached
  begun-stops : (m : Machine) (rounds : ℕ) → Is m → StopsAtLimits (settled m rounds)
  unfolding settled settle_begun
  begun-stops m rounds w = go (limit_reached m) refl where
    n : Machine
    n = passed m (event.Settle rounds) []

    go : (o : Option What) → limit_reached m ≡ o
        → StopsAtLimits (elim (unless_limit o (Ok n)) as (λ r. Result (Machine × Settled) Stop) [ Err fault ↦ Err (m, fault) | Ok k ↦ settled_from k rounds ])
    go (Some what) some = (what, refl)
    go None none = settled-from-stops n rounds ((written config files).settle m n rounds w (ap (λ (o : Option What). unless_limit o (Ok n)) none))

pub settles-stop : SettlesStopAtLimits
settles-stop config files m n rounds fault checked w is = subst StopsAtLimits is (begun-stops config files checked m rounds w)
