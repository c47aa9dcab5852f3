-- A round of a settle is a round of the machine whose journal is written out: it delivers and does all there is, or timers fire.
use Rattle.std.proofs.Common.{◌≡◌, ◌<◌, ◌≤◌, ℕ, zero, suc, ◌+◌, ◌==◌, Bool, true, false, ◌&&◌, cond, List, [], ◌∷◌, ◌++◌, map, length, Result, Ok, Err, inl, inr, refl, sym, ap, ◌∙◌, subst, arith}
use Rattle.std.proofs.lemmas.Bool.{both_ways, true≢false}
use Rattle.std.proofs.lemmas.Bool.Decides.{nat_tests}
use Rattle.std.specs.List.{AllByRecursion}
use Rattle.lard_agenda.proofs.Due.{packets_are_listed}
use Rattle.lard_agenda.specs.Agenda.{agenda_of, on_way, rests}
use Rattle.lard_agenda.specs.Laws.{is_on_way}
use Rattle.lard_law_view.specs.Prelude.{Config, Event, HasRule, IsReached, Machine, Passes, Place, machine_start, machine_step}
use Rattle.lard_base.specs.declared.event.Event.TheVariants as event
use Rattle.lard_bound.specs.Units.{Whole}
use Rattle.lard_law_view.proofs.Carried.{reached-viewed}
use Rattle.lard_law_view.proofs.Runs.{passes-more}
use Rattle.lard_law_settles.specs.CourseGame.{Task, TaskWaits, game, seats_due}
use Rattle.lard_law_settles.proofs.CourseWays.{Takes, Ways, step-ways}
use Rattle.lard_rounds.specs.Rounds.{FireOn, Game, IsIdle, Item, Job, Packet, Round, Rounds, Shoots, Works}
use Rattle.lard_rounds.proofs.Listing.{DeliverOn, IsBut, IsReady, Leaves, Plays, Told, items_of, told-works}
use Rattle.lard_law_settles.proofs.EnoughAgendas.{packets-apart, packets-complete, same-quiet, same-seats, same-way}
use Rattle.lard_law_settles.proofs.EnoughBeside.{Beside, Is, all-beside, err-ok, ok-same}
use Rattle.lard_law_settles.proofs.EnoughCompleting.{AllEmptied, nodes-empty, none-waits, same-config}
use Rattle.lard_law_settles.proofs.EnoughOwned.{due-owned, way-known}
use Rattle.lard_law_settles.proofs.SettlesFiring.{deliver-inner, firings-inner}
use Rattle.lard_settling.specs.Left.{jobs_at, jobs_from}
use Rattle.lard_settling.specs.Settling.{Stop, all_inner, completed_since, deliveries, fired_since, firings, is_quiet, jobs_left, nodes_complete, round, rounds_from}

module _ (config : Config) (files : List (List ℕ × List ℕ)) (all : ℕ → Whole) (Good : Machine → Type 0) where
  abbrev pub G : Game Machine Task
  G = game all Good

  abbrev pub Reached : Machine → Type 0
  Reached m = IsReached config files m

  -- ---- single steps

  reached-more : (m n : Machine) (e : Event) → Reached m → HasRule e → machine_step m e ≡ Ok n → Reached n
  reached-more m n e r rule is = (r.0 ++ e ∷ [], passes-more r.0 (machine_start config files) m n e r.1 rule is)

  leaves : (m n : Machine) (e : Event) → Reached m → HasRule e → machine_step m e ≡ Ok n → Leaves G (Takes e) m n
  leaves m n e r rule is = let w : Ways m e n = step-ways m (reached-viewed config files m r) e n rule is in record { more = w.more; others = w.others; way = w.way }

  pub plays : Plays G Reached
  plays = record {
    deliveries = λ m n k r on is. (reached-more m n (event.Deliver k) r tt is, leaves m n (event.Deliver k) r tt is);
    completions = λ m n t r waits does. (reached-more m n (event.Disk t.0 1) r tt does.3, leaves m n (event.Disk t.0 1) r tt does.3);
  }

  -- ---- lists of steps

  deliver-on : (ks : List ℕ) (p q : Machine) → Passes p (map event.Deliver ks) q → DeliverOn G ks p q
  deliver-on [] p q same = same
  deliver-on (k ∷ ks) p q on = (on.0, on.2, deliver-on ks on.0 q on.3)

  abbrev timer_at : Place × ℕ → Event
  timer_at seat = event.Timer seat.0 seat.1

  fire-on : (seats : List (Place × ℕ)) (p q : Machine) → Passes p (map timer_at seats) q → FireOn G (length seats) p q
  fire-on [] p q same = same
  fire-on (s ∷ seats) p q on = (on.0, (s.0, s.1, on.1, on.2), fire-on seats on.0 q on.3)

  -- ---- all packets that are on their way

  module _ (m : Machine) (w : Is config files m) where
    abbrev ks : List ℕ
    ks = on_way (agenda_of m.journal)

    ready-all : (xs : List ℕ) → AllByRecursion (λ k. is_on_way m.journal k ≡ true) xs → AllByRecursion (IsReady G Reached plays (length w.plain.net) w.plain) xs
    ready-all [] h = tt
    ready-all (k ∷ xs) h =
        let on : is_on_way w.plain.journal k ≡ true = same-way config files m w k ∙ h.0 in
        ((way-known config files w.plain w.reached k on, on), ready-all xs h.1)

    ready : AllByRecursion (IsReady G Reached plays (length w.plain.net) w.plain) ks
    ready = ready-all ks (packets_are_listed m.journal)

    -- ---- a round

    none-of : (n : ℕ) (ns : List ℕ) → length ns + n ≡ 0 → ns ≡ []
    none-of n [] e = refl
    none-of n (x ∷ ns) e = absurd (omega (arith, e))

    none-task : (ts : List Task) → length ts ≡ 0 → ts ≡ []
    none-task [] e = refl
    none-task (t ∷ ts) e = absurd (omega (arith, e))

    deliver-length : (xs : List ℕ) → length (map event.Deliver xs) ≡ length xs
    deliver-length [] = refl
    deliver-length (x ∷ xs) = ap suc (deliver-length xs)

    module _ (quiet : is_quiet m ≡ false) (k l : Machine) (b : Beside config files m w (deliveries m) k) (e : AllEmptied all Good config files 1 k.config.nodes k b.is l) where
      nodes-are : k.config.nodes ≡ config.nodes
      nodes-are = ap (λ (c : Config). c.nodes) (same-config all Good config files k b.is)

      none-left : (t : Task) → TaskWaits e.is.plain t → ⊥
      none-left = none-waits all Good config files l e.is (λ i up low. e.done i up (omega (arith, low, nodes-are)))

      told : Told G Reached plays ks e.tasks w.plain e.is.plain
      told = record {
        good = w.reached;
        ready = ready;
        apart = packets-apart m.journal;
        complete = λ i on. packets-complete m.journal i (sym (same-way config files m w i) ∙ on);
        between = b.is.plain;
        delivers = deliver-on ks w.plain b.is.plain b.passes;
        completes = e.on;
        done = none-left;
      }

      -- where no record was told, nothing was delivered or done
      idle-lists : length l.journal ≡ length m.journal → (ks ≡ []) × (e.tasks ≡ []) × (l ≡ m)
      idle-lists same =
          let a = b.longer in
          let c = e.longer in
          let d : length (deliveries m) ≡ length ks = deliver-length ks in
          let lacks : ks ≡ [] = none-of (length e.tasks) ks (omega (arith, a, c, d, same)) in
          let none : e.tasks ≡ [] = none-task e.tasks (omega (arith, a, c, same)) in
          (lacks, none, e.none none ∙ b.none (ap (λ (xs : List ℕ). map event.Deliver xs) lacks))

      -- and where some was, something
      some-items : (length l.journal ≡ length m.journal → ⊥) → (x : Item G) × (xs : List (Item G)) × (items_of G ks e.tasks ≡ x ∷ xs)
      some-items other = go ks refl e.tasks refl where
        go : (xs : List ℕ) → ks ≡ xs → (ts : List Task) → e.tasks ≡ ts → (x : Item G) × (ys : List (Item G)) × (items_of G xs ts ≡ x ∷ ys)
        go [] lacks [] none = absurd (other (ap (λ (n : Machine). length n.journal) (e.none none ∙ b.none (ap (λ (xs : List ℕ). map event.Deliver xs) lacks))))
        go [] lacks (t ∷ ts) is = (Job t, items_of G [] ts, refl)
        go (i ∷ is) are ts is_ = (Packet i, items_of G is ts, refl)

      works : (length l.journal ≡ length m.journal → ⊥) → Works G w.plain e.is.plain
      works other = let some = some-items other in told-works G Reached plays ks e.tasks w.plain e.is.plain told some.0 some.1 some.2

      -- ---- where timers fire

      idle : length l.journal ≡ length m.journal → IsIdle G w.plain
      idle same =
          let i = idle-lists same in record {
            packets = λ j on. packets-complete m.journal j (sym (same-way config files m w j) ∙ on) (subst (λ (xs : List ℕ). IsBut j xs) (sym i.0) tt);
            jobs = none-waits all Good config files m w (λ j up low. sym (ap (λ (n : Machine). jobs_at n j) i.2) ∙ e.done j up (omega (arith, low, nodes-are)));
          }

      -- some seat is due
      no-jobs : (more n : ℕ) → ((i : ℕ) → n ≤ i → i < n + more → jobs_at m i ≡ 0) → jobs_from m n more ≡ 0
      no-jobs zero n h = refl
      no-jobs (suc more) n h =
          let one = h n (omega arith) (omega arith) in
          let rest = no-jobs more (n + 1) (λ i up low. h i (omega (arith, up)) (omega (arith, low))) in omega (arith, one, rest)

      shoots : length l.journal ≡ length m.journal → (q : Machine) → Passes w.plain (firings m) q → Shoots G w.plain q
      shoots same q on = go (seats_due w.plain) refl (subst (λ (seats : List (Place × ℕ)). Passes w.plain (map timer_at seats) q) (same-seats config files m w) on) where
        jobs : jobs_left m ≡ 0
        jobs = no-jobs m.config.nodes 1 (λ i up low. sym (ap (λ (n : Machine). jobs_at n i) (idle-lists same).2) ∙ e.done i up (omega (arith, low, nodes-are, ap (λ (c : Config). c.nodes) (same-config all Good config files m w))))

        go : (seats : List (Place × ℕ)) → seats_due w.plain ≡ seats → Passes w.plain (map timer_at seats) q → Shoots G w.plain q
        go [] none passes =
            let rest : rests w.plain.front.dispatch (agenda_of w.plain.journal) ≡ true = due-owned config files w.plain w.reached none in
            let left : (jobs_left w.plain == 0) ≡ true = let same_jobs : jobs_left w.plain ≡ 0 = sym (ap jobs_left w.same) ∙ jobs in grind (arith, nat_tests, same_jobs) in
            let is : is_quiet w.plain ≡ true = (λ i. rest i && left i) in
            absurd (true≢false (sym is ∙ sym (same-quiet config files m w) ∙ quiet))
        go (s ∷ seats) are passes = record {
          idle = idle same;
          after = passes.0;
          begins = (s.0, s.1, seats, passes.1, are, passes.2);
          more = length seats;
          rest = fire-on seats passes.0 q passes.3;
        }

    -- a round that is done
    pub round-is : (n : Machine) → is_quiet m ≡ false → round m ≡ Ok n → (v : Is config files n) × Round G w.plain v.plain
    unfolding round
    round-is n quiet done = first (all_inner m (deliveries m)) refl done where
      fires : (k l : Machine) (b : Beside config files m w (deliveries m) k) (e : AllEmptied all Good config files 1 k.config.nodes k b.is l) (t : Bool)
          → (length l.journal == length m.journal) ≡ t → cond t (all_inner l (firings l)) (Ok l) ≡ Ok n → (v : Is config files n) × Round G w.plain v.plain
      fires k l b e true t is =
          let same : length l.journal ≡ length m.journal = grind (arith, nat_tests, t) in
          let here : l ≡ m = (idle-lists quiet k l b e same).2 in
          let f : Beside config files m w (firings m) n = all-beside config files (firings m) m n w (firings-inner m) (subst (λ (x : Machine). all_inner x (firings x) ≡ Ok n) here is) in
          (f.is, inr (shoots quiet k l b e same f.is.plain f.passes))
      fires k l b e false t is =
          let same : l ≡ n = ok-same l n is in
          let other : length l.journal ≡ length m.journal → ⊥ = λ h. both_ways (length l.journal == length m.journal) t (grind (arith, nat_tests, h)) in
          subst (λ (x : Machine). (v : Is config files x) × Round G w.plain v.plain) same (e.is, inl (works quiet k l b e other))

      second : (k : Machine) (b : Beside config files m w (deliveries m) k) (x : Result Machine Stop) → nodes_complete k 1 k.config.nodes ≡ x
          → (elim x as (λ r. Result Machine Stop) [ Err stop ↦ Err stop | Ok l ↦ fired_since (length m.journal) l ]) ≡ Ok n → (v : Is config files n) × Round G w.plain v.plain
      second k b (Err stop) s h = absurd (err-ok stop n h)
      second k b (Ok l) s h = fires k l b (nodes-empty all Good config files k.config.nodes 1 k l b.is s) (length l.journal == length m.journal) refl h

      first : (x : Result Machine Stop) → all_inner m (deliveries m) ≡ x → (elim x as (λ r. Result Machine Stop) [ Err stop ↦ Err stop | Ok k ↦ completed_since (length m.journal) k ]) ≡ Ok n
          → (v : Is config files n) × Round G w.plain v.plain
      first (Err stop) s h = absurd (err-ok stop n h)
      first (Ok k) s h = second k (all-beside config files (deliveries m) m k w (deliver-inner ks) s) (nodes_complete k 1 k.config.nodes) refl h

  -- ---- rounds

  module _ (more done : ℕ) (m : Machine) (w : Is config files m) (n : Machine) (many : ℕ) where
    abbrev Later : Type 0
    Later = (k : Machine) (v : Is config files k) → rounds_from more (done + 1) k ≡ Ok (n, many) → (u : Is config files n) × Rounds G more v.plain u.plain

    round-more : (x : Result Machine Stop) → round m ≡ x → is_quiet m ≡ false → (elim x as (λ r. Result (Machine × ℕ) Stop) [ Err stop ↦ Err stop | Ok k ↦ rounds_from more (done + 1) k ]) ≡ Ok (n, many)
        → Later → (v : Is config files n) × Rounds G (suc more) w.plain v.plain
    round-more (Err stop) s loud h later = absurd (err-ok stop (n, many) h)
    round-more (Ok k) s loud h later =
        let one = round-is m w k loud s in
        let rest = later k one.0 h in
        (rest.0, inr (one.0.plain, one.1, rest.1))

    unless-quiet : (b : Bool) → is_quiet m ≡ b → cond b (Ok (m, done)) (elim (round m) as (λ r. Result (Machine × ℕ) Stop) [ Err stop ↦ Err stop | Ok k ↦ rounds_from more (done + 1) k ]) ≡ Ok (n, many)
        → Later → (v : Is config files n) × Rounds G (suc more) w.plain v.plain
    unless-quiet true quiet h later =
        let same : m ≡ n = ap (λ (x : Machine × ℕ). x.0) (ok-same (m, done) (n, many) h) in
        subst (λ (x : Machine). (v : Is config files x) × Rounds G (suc more) w.plain v.plain) same (w, inl (sym (same-quiet config files m w) ∙ quiet, refl))
    unless-quiet false loud h later = round-more (round m) refl loud h later

  pub rounds-are : (more done : ℕ) (m : Machine) (w : Is config files m) (n : Machine) (many : ℕ) → rounds_from more done m ≡ Ok (n, many) → (v : Is config files n) × Rounds G more w.plain v.plain
  unfolding rounds_from
  rounds-are zero done m w n many is =
      let same : m ≡ n = ap (λ (x : Machine × ℕ). x.0) (ok-same (m, done) (n, many) is) in subst (λ (x : Machine). (v : Is config files x) × Rounds G 0 w.plain v.plain) same (w, refl)
  rounds-are (suc more) done m w n many is = unless-quiet more done m w n many (is_quiet m) refl is (λ k v h. rounds-are more (done + 1) k v n many h)
