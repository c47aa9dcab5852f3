-- What the inner steps of a settle come to, in words of its journal: done, or to one that is not.
use Rattle.std.proofs.Common.{◌≡◌, ◌≢◌, ◌⊎◌, inl, inr, ◌≤◌, ℕ, zero, suc, ◌+◌, ◌==◌, Bool, true, false, cond, List, [], ◌∷◌, length, replicate, Result, Ok, Err, refl, sym, ap, ◌∙◌, subst, arith}
use Rattle.std.specs.List.{AllByRecursion}
use Rattle.lard_law_view.specs.Prelude.{Config, Event, Machine, Rec, StepFault, config_check}
use Rattle.lard_base.specs.declared.event.Event.TheVariants as event
use Rattle.lard_history.proofs.Each.{Each}
use Rattle.lard_journal.specs.declared.rec.Rec.TheVariants as rec
use Rattle.lard_law_settles.proofs.SettlesFiring.{IsInner, deliver-inner, disk-inner, firings-inner, inner-rule}
use Rattle.lard_law_settles.proofs.SettlesGiven.{InnerRows, inner-rows}
use Rattle.lard_law_settles.proofs.SettlesInside.{quiet-left}
use Rattle.lard_law_settles.proofs.RoundsLeft.{left-quiet}
use Rattle.lard_law_settles.proofs.RoundsTold.{firings-same, jobs-same, left-same, nodes-are}
use Rattle.lard_law_settles.specs.Rounds.{AreBegun, AreRounds, CompletesInTurn, Fires, IsRound, IsToldInStep, SomeCompletes, SomeFire, SomeOfRound, SomeSteps, InnerSteps}
use Rattle.lard_law_settles.specs.RoundsToDo.{completions_in, deliveries_in, firings_in, left_in}
use Rattle.lard_settling.proofs.Plain.{AreUnmarked, is_mark}
use Rattle.lard_settling.proofs.Written.{written}
use Rattle.lard_settling.specs.Left.{jobs_at}
use Rattle.lard_settling.specs.Settling.{Stop, all_inner, completed_since, completions, deliveries, fired_since, firings, is_quiet, settle_left, nodes_complete, round, rounds_from}
use Rattle.lard_settling.specs.Steps.{inner_step}
use Rattle.lard_settling.specs.Written.{IsWrittenOut}

-- what is no mark is told in a step
unmarked-told : (r : Rec) → is_mark r ≡ false → IsToldInStep r
unmarked-told (rec.Event i e) h = cc
unmarked-told (rec.Inner e) h = cc
unmarked-told (rec.Settled done) h = cc
unmarked-told (rec.Unsettled done left) h = cc
unmarked-told _ h = tt

all-told : (rs : List Rec) → AreUnmarked rs → AllByRecursion IsToldInStep rs
all-told [] h = tt
all-told (r ∷ rs) h = (unmarked-told r h.0, all-told rs h.1)

module _ (config : Config) (files : List (List ℕ × List ℕ)) (checked : config_check config ≡ Ok tt) where
  abbrev pub W : Machine → Type 0
  W m = IsWrittenOut config files m

  -- ---- steps

  abbrev pub Come : Machine → List Event → Result Machine Stop → Type 0
  Come m es (Ok n) = W n × InnerSteps es m.journal n.journal
  Come m es (Err stop) = SomeSteps es m.journal stop.0.journal

  -- one more step before others
  one-before : (m k : Machine) (e : Event) (es : List Event) → InnerRows m e k → (x : Result Machine Stop) → Come k es x → Come m (e ∷ es) x
  one-before m k e es on (Ok n) h = (h.0, (on.rows, all-told on.rows on.unmarked, subst (λ (J : List Rec). InnerSteps es J n.journal) on.are h.1))
  one-before m k e es on (Err stop) h = (
    e ∷ h.0,
    h.1,
    ap (λ xs. e ∷ xs) h.2,
    (on.rows, all-told on.rows on.unmarked, subst (λ (J : List Rec). InnerSteps h.0 J stop.0.journal) on.are h.3),
  )

  pub all-come : (es : List Event) (m : Machine) → W m → Each IsInner es → Come m es (all_inner m es)
  unfolding all_inner
  all-come [] m w all = (w, refl)
  all-come (e ∷ es) m w all = go (inner_step m e) refl (λ k v. all-come es k v all.1) where
    go : (x : Result Machine StepFault) → inner_step m e ≡ x → ((k : Machine) → W k → Come k es (all_inner k es)) → Come m (e ∷ es) (elim x as (λ r. Result Machine Stop) [ Err fault ↦ Err (m, fault) | Ok n ↦ all_inner n es ])
    go (Err fault) is later = ([], e ∷ es, refl, refl)
    go (Ok k) is later =
        one-before m k e es (inner-rows config files m k e w (inner-rule e all.0) is) (all_inner k es) (later k ((written config files).inner_steps m k e w (inner-rule e all.0) is))

  -- ---- nodes

  abbrev pub Nodes : ℕ → ℕ → Machine → Result Machine Stop → Type 0
  Nodes n more m (Ok k) = W k × CompletesInTurn n more m.journal k.journal
  Nodes n more m (Err stop) = SomeCompletes n more m.journal stop.0.journal

  nodes-come : (more n : ℕ) (m : Machine) → 1 ≤ n → n + more ≤ config.nodes + 1 → W m → Nodes n more m (nodes_complete m n more)
  unfolding nodes_complete
  nodes-come zero n m from to w = (w, refl)
  nodes-come (suc more) n m from to w = go (all_inner m (completions m n)) mine (λ k v. nodes-come more (n + 1) k (omega arith) (omega (arith, to)) v) where
    same : completions m n ≡ completions_in m.journal n
    same = ap (λ count. replicate count (event.Disk n 1)) (jobs-same config files checked m w n from (omega (arith, to)))

    mine : Come m (completions_in m.journal n) (all_inner m (completions m n))
    mine = subst (λ es. Come m es (all_inner m (completions m n))) same (all-come (completions m n) m w (disk-inner n (jobs_at m n)))

    after : (k : Machine) (x : Result Machine Stop) → InnerSteps (completions_in m.journal n) m.journal k.journal → Nodes (n + 1) more k x → Nodes n (suc more) m x
    after k (Ok j) steps h = (h.0, (k.journal, steps, h.1))
    after k (Err stop) steps h = inr (k.journal, steps, h)

    go : (x : Result Machine Stop) → Come m (completions_in m.journal n) x → ((k : Machine) → W k → Nodes (n + 1) more k (nodes_complete k (n + 1) more))
        → Nodes n (suc more) m (elim x as (λ r. Result Machine Stop) [ Err stop ↦ Err stop | Ok k ↦ nodes_complete k (n + 1) more ])
    go (Err stop) h later = inl h
    go (Ok k) h later = after k (nodes_complete k (n + 1) more) h.1 (later k h.0)

  -- ---- a round

  abbrev Fired : Bool → Machine → Result Machine Stop → Type 0
  Fired b m (Ok k) = W k × Fires b m.journal k.journal
  Fired b m (Err stop) = SomeFire b m.journal stop.0.journal

  fired-come : (b : Bool) (m : Machine) → W m → Fired b m (cond b (all_inner m (firings m)) (Ok m))
  fired-come true m w = go (all_inner m (firings m)) (subst (λ es. Come m es (all_inner m (firings m))) (firings-same config files checked m w) (all-come (firings m) m w (firings-inner m))) where
    go : (x : Result Machine Stop) → Come m (firings_in m.journal) x → Fired true m x
    go (Ok k) h = h
    go (Err stop) h = h
  fired-come false m w = (w, refl)

  -- behind the deliveries, since a journal of so many records
  abbrev Finished : List Rec → Machine → Result Machine Stop → Type 0
  Finished J m (Ok k) = W k × ((L : List Rec) × CompletesInTurn 1 config.nodes m.journal L × Fires (length L == length J) L k.journal)
  Finished J m (Err stop) = SomeCompletes 1 config.nodes m.journal stop.0.journal ⊎ ((L : List Rec) × CompletesInTurn 1 config.nodes m.journal L × SomeFire (length L == length J) L stop.0.journal)

  finished-come : (J : List Rec) (m : Machine) → W m → Finished J m (completed_since (length J) m)
  finished-come J m w = go (nodes_complete m 1 m.config.nodes) mine where
    mine : Nodes 1 config.nodes m (nodes_complete m 1 m.config.nodes)
    mine = subst (λ count. Nodes 1 config.nodes m (nodes_complete m 1 count)) (sym (nodes-are config files checked m w)) (nodes-come config.nodes 1 m (omega arith) (omega arith) w)

    after : (k : Machine) (x : Result Machine Stop) → CompletesInTurn 1 config.nodes m.journal k.journal → Fired (length k.journal == length J) k x → Finished J m x
    after k (Ok j) all h = (h.0, (k.journal, all, h.1))
    after k (Err stop) all h = inr (k.journal, all, h)

    go : (x : Result Machine Stop) → Nodes 1 config.nodes m x → Finished J m (elim x as (λ r. Result Machine Stop) [ Err stop ↦ Err stop | Ok n ↦ fired_since (length J) n ])
    go (Err stop) h = inl h
    go (Ok k) h = after k (fired_since (length J) k) h.1 (fired-come (length k.journal == length J) k h.0)

  abbrev pub RoundCome : Machine → Result Machine Stop → Type 0
  RoundCome m (Ok k) = W k × IsRound config.nodes m.journal k.journal
  RoundCome m (Err stop) = SomeOfRound config.nodes m.journal stop.0.journal

  pub round-comes : (m : Machine) → W m → RoundCome m (round m)
  unfolding round
  round-comes m w = go (all_inner m (deliveries m)) (all-come (deliveries m) m w (deliver-inner _)) where
    after : (k : Machine) (x : Result Machine Stop) → InnerSteps (deliveries_in m.journal) m.journal k.journal → Finished m.journal k x → RoundCome m x
    after k (Ok j) steps h = (h.0, record { delivered = k.journal; deliveries = steps; completed = h.1.0; completions = h.1.1; fires = h.1.2 })
    after k (Err stop) steps h = inr (k.journal, steps, h)

    go : (x : Result Machine Stop) → Come m (deliveries m) x → RoundCome m (elim x as (λ r. Result Machine Stop) [ Err stop ↦ Err stop | Ok n ↦ completed_since (length m.journal) n ])
    go (Err stop) h = inl h
    go (Ok k) h = after k (completed_since (length m.journal) k) h.1 (finished-come m.journal k h.0)

  -- ---- rounds

  -- so many more than were done
  abbrev pub RoundsCome : ℕ → ℕ → Machine → Result (Machine × ℕ) Stop → Type 0
  RoundsCome more done m (Ok (n, all)) = W n × ((k : ℕ) × (all ≡ done + k) × (k ≤ more) × ((left_in config.nodes n.journal ≡ 0) ⊎ (k ≡ more)) × AreRounds config.nodes k m.journal n.journal)
  RoundsCome more done m (Err stop) = AreBegun config.nodes more m.journal stop.0.journal

  -- a round more before others
  round-before : (more done : ℕ) (m k : Machine) → left_in config.nodes m.journal ≢ 0 → IsRound config.nodes m.journal k.journal → (x : Result (Machine × ℕ) Stop) → RoundsCome more (done + 1) k x → RoundsCome (suc more) done m x
  round-before more done m k some is (Ok (n, all)) h =
      let r = h.1 in
      let count = r.1 in
      let few = r.2 in
      (h.0, (suc r.0, omega (arith, count), omega (arith, few), over r.3, (some, (k.journal, is, r.4)))) where
        over : {j : ℕ} → (left_in config.nodes n.journal ≡ 0) ⊎ (j ≡ more) → (left_in config.nodes n.journal ≡ 0) ⊎ (suc j ≡ suc more)
        over (inl none) = inl none
        over (inr all) = inr (ap suc all)
  round-before more done m k some is (Err stop) h =
      let few = h.few in
      record { done = suc h.done; last = h.last; are = (some, (k.journal, is, h.are)); few = omega (arith, few); goes_on = h.goes_on; some = h.some }

  pub rounds-come : (more done : ℕ) (m : Machine) → W m → RoundsCome more done m (rounds_from more done m)
  unfolding rounds_from
  rounds-come zero done m w = (w, (0, omega arith, omega arith, inr refl, refl))
  rounds-come (suc more) done m w = test (is_quiet m) refl (λ k v. rounds-come more (done + 1) k v) where
    same : settle_left m ≡ left_in config.nodes m.journal
    same = left-same config files checked m w

    go : left_in config.nodes m.journal ≢ 0 → (x : Result Machine Stop) → RoundCome m x → ((k : Machine) → W k → RoundsCome more (done + 1) k (rounds_from more (done + 1) k))
        → RoundsCome (suc more) done m (elim x as (λ r. Result (Machine × ℕ) Stop) [ Err stop ↦ Err stop | Ok n ↦ rounds_from more (done + 1) n ])
    go some (Err stop) h later = record { done = 0; last = m.journal; are = refl; few = omega arith; goes_on = some; some = h }
    go some (Ok k) h later = round-before more done m k some h.1 (rounds_from more (done + 1) k) (later k h.0)

    test : (b : Bool) → is_quiet m ≡ b → ((k : Machine) → W k → RoundsCome more (done + 1) k (rounds_from more (done + 1) k))
        → RoundsCome (suc more) done m (cond b (Ok (m, done)) (elim (round m) as (λ r. Result (Machine × ℕ) Stop) [ Err stop ↦ Err stop | Ok n ↦ rounds_from more (done + 1) n ]))
    test true quiet later = (w, (0, omega arith, omega arith, inl (sym same ∙ quiet-left m quiet), refl))
    test false quiet later = go (λ none. left-quiet m quiet (same ∙ none)) (round m) (round-comes m w) later
