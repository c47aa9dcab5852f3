-- The inner steps of a settle, list by list: what each names is there, so that they are done or stop at a limit.
use Rattle.std.proofs.Common.{◌≡◌, ℕ, Bool, true, false, cond, nat_eq, List, [], ◌∷◌, map, length, filter, Option, Some, None, refl, sym, ap, ◌∙◌, subst, arith}
use Rattle.std.specs.FinMap as table
use Rattle.std.specs.List.{AllByRecursion}
use Rattle.std.proofs.lemmas.Bool.{both_ways, true≢false}
use Rattle.lard_agenda.proofs.Due.{packets_are_listed, timers_are_listed}
use Rattle.lard_agenda.specs.Agenda.{agenda_of, due, holders, on_way}
use Rattle.lard_agenda.specs.Laws.{IsDue, is_on_way, way_flag}
use Rattle.lard_law_view.specs.Prelude.{Config, Event, HasTimer, Machine, Place, Station, TimerKind, armed_step, is_running}
use Rattle.lard_base.specs.declared.event.Event.TheVariants as event
use Rattle.lard_base.specs.declared.place.Place.TheVariants as place
use Rattle.lard_laws.proofs.StepsLinking.{reached-linked}
use Rattle.lard_laws.proofs.StepsTimers.{timers-kept}
use Rattle.lard_law_view.proofs.Carried.{reached-viewed}
use Rattle.lard_history.proofs.Each.{Each}
use Rattle.lard_history.proofs.Seeing.{by_number, other_number}
use Rattle.lard_settling.specs.Settling.{deliveries, firings, is_own_seat, is_own_at, takes}
use Rattle.lard_law_settles.specs.SettlesStops.{CompletionsStopAtLimits, DeliveriesStopAtLimits, FiringsStopAtLimits, TakesStopAtLimits}
use Rattle.lard_law_settles.proofs.SettlesJobs.{completions-stop}
use Rattle.lard_law_settles.proofs.SettlesKeeping.{HasClient, HasPacket, IsReady, IsThere, all-ready}
use Rattle.lard_law_settles.proofs.SettlesLate.{armed-ready}
use Rattle.lard_law_settles.proofs.SettlesPackets.{on-way-there}
use Rattle.lard_law_settles.proofs.SettlesSeats.{seats-named}
use Rattle.lard_settling.specs.Left.{holds_there, is_holder, jobs_at}
use Rattle.lard_settling.specs.Written.{IsWrittenOut}
use Rattle.lard_settling.proofs.Folds.{TakesSteps, fold-written}

-- ---- clients that take

holder-there : (m : Machine) (c : ℕ) → is_holder m c ≡ true → HasClient m c
holder-there m c = go (table.get m.clients c) refl where
  go : (o : Option Station) → table.get m.clients c ≡ o → holds_there o ≡ true → HasClient m c
  go None at h = absurd (true≢false (sym h))
  go (Some x) at h = (x, at)

takes-ready : (m : Machine) (cs : List ℕ) → Each (IsReady m) (map event.Take (filter (is_holder m) cs))
takes-ready m [] = tt
takes-ready m (c ∷ cs) = go (is_holder m c) refl (takes-ready m cs) where
  go : (b : Bool) → is_holder m c ≡ b → Each (IsReady m) (map event.Take (filter (is_holder m) cs)) → Each (IsReady m) (map event.Take (cond b (c ∷ filter (is_holder m) cs) (filter (is_holder m) cs)))
  go true holds rest = (holder-there m c holds, rest)
  go false holds rest = rest

pub takes-stop : TakesStopAtLimits
takes-stop config files m w = all-ready (takes m) m (takes-ready m (holders (agenda_of m.journal)))

-- ---- packets, and timers, by the journal whose settles are written out

way-steps : (k : ℕ) → TakesSteps (way_flag k)
way-steps k = record { events = λ a i j e. refl; inner = λ a i e. refl; settles = λ a i rounds. refl; settled = λ a rounds. refl; unsettled = λ a rounds left. refl }

armed-steps : (p : Place) (c : ℕ) (kind : TimerKind) → TakesSteps (armed_step p c kind)
armed-steps p c kind = record { events = λ a i j e. refl; inner = λ a i e. refl; settles = λ a i rounds. refl; settled = λ a rounds. refl; unsettled = λ a rounds left. refl }

-- the events of the timers that are a place's own
abbrev timers : List (Place × ℕ) → List Event
timers seats = map (λ (seat : Place × ℕ). event.Timer seat.0 seat.1) (filter is_own_seat seats)

-- a timer that is a place's own has a rule
pub own-timer : (p : Place) (c : ℕ) → is_own_at p c ≡ true → HasTimer p c
own-timer place.Front c own = tt
own-timer (place.Node n) c own = tt
own-timer (place.Client d) c own = by_number (d ≡ c) d c (λ same. same) (λ other. absurd (both_ways (nat_eq d c) (other_number d c other) own))

module _ (config : Config) (files : List (List ℕ × List ℕ)) (m : Machine) (w : IsWrittenOut config files m) where
  abbrev p : Machine
  p = w.plain

  packet-there : (k : ℕ) → is_on_way m.journal k ≡ true → HasPacket m.net k
  packet-there k on =
      let plain : is_on_way p.journal k ≡ true = ap (λ J. is_on_way J k) w.journal ∙ fold-written (way_flag k) (way-steps k) false 0 m.journal ∙ on in
      let linked = reached-linked config files p w.reached in
      subst (λ (q : Machine). HasPacket q.net k) (sym w.same) (on-way-there k p.journal p.net linked.each linked.is plain)

  packets-ready : (ks : List ℕ) → AllByRecursion (λ k. is_on_way m.journal k ≡ true) ks → Each (IsReady m) (map event.Deliver ks)
  packets-ready [] h = tt
  packets-ready (k ∷ ks) h = (packet-there k h.0, packets-ready ks h.1)

  timer-there : (q : Place) (c : ℕ) (kind : TimerKind) → HasTimer q c → is_running m.journal q c kind ≡ true → HasClient m c × IsThere m.config.nodes q
  timer-there q c kind own runs =
      let plain : is_running p.journal q c kind ≡ true = ap (λ J. is_running J q c kind) w.journal ∙ fold-written (armed_step q c kind) (armed-steps q c kind) false 0 m.journal ∙ runs in
      subst (λ (n : Machine). HasClient n c × IsThere n.config.nodes q) (sym w.same)
      (armed-ready config files p w.reached (reached-viewed config files p w.reached).nodes q c kind (sym (timers-kept config files p w.reached c q own kind) ∙ plain))

  timers-ready : (seats : List (Place × ℕ)) → AllByRecursion (IsDue m.front.dispatch m.journal) seats → Each (IsReady m) (timers seats)
  timers-ready [] h = tt
  timers-ready (seat ∷ seats) h = go (is_own_seat seat) refl (timers-ready seats h.1) where
    go : (b : Bool) → is_own_seat seat ≡ b → Each (IsReady m) (timers seats) → Each (IsReady m) (map (λ (s : Place × ℕ). event.Timer s.0 s.1) (cond b (seat ∷ filter is_own_seat seats) (filter is_own_seat seats)))
    go true own rest = (timer-there seat.0 seat.1 h.0.1.0 (own-timer seat.0 seat.1 own) h.0.1.1, rest)
    go false own rest = rest

-- ---- each list

pub deliveries-stop : DeliveriesStopAtLimits
deliveries-stop config files m w = all-ready (deliveries m) m (packets-ready config files m w (on_way (agenda_of m.journal)) (packets_are_listed m.journal))

pub completions-all : CompletionsStopAtLimits
completions-all n config files m w = completions-stop (jobs_at m n) n m (as-many, omega arith) where
  as-many : length m.nodes ≡ m.config.nodes
  as-many = subst (λ (k : Machine). length k.nodes ≡ k.config.nodes) (sym w.same) (reached-viewed config files w.plain w.reached).nodes

pub firings-stop : FiringsStopAtLimits
firings-stop config files m checked w = all-ready (firings m) m
    (timers-ready config files m w (due m.front.dispatch (agenda_of m.journal)) (timers_are_listed m.front.dispatch m.journal (seats-named config files m checked w)))
