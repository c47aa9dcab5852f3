-- The events of inner steps. Of timers those fire that an agenda keeps, at places that have them.
use Rattle.std.proofs.Common.{◌≡◌, ℕ, zero, suc, List, [], ◌∷◌, ◌++◌, map, replicate, Bool, true, false, cond, not, Some, None, refl, sym, ap, ◌∙◌, subst, arith}
use Rattle.std.proofs.lemmas.Bool.{and_parts}
use Rattle.std.proofs.lemmas.Bool.Decides.{nat_tests}
use Rattle.std.specs.FinMap.{FinMap, entries, entries_sorted, get, get-empty, get-entries, values}
use Rattle.std.specs.FinMap.Entries.{below_all, find, is_sorted}
use Rattle.std.specs.List.{fold}
use Rattle.std.specs.Ordering.{eq_by_cmp, is_lt, nat_cmp}
use Rattle.std.specs.Prelude.{T, filter}
use Rattle.lard_agenda.specs.Agenda.{agenda_of, due, entry, free_of, is_stalled, noted_by, nothing_noted, running_step, seat, timer_set}
use Rattle.lard_agenda.specs.Kinds.{is_none, kinds_of, with_timer}
use Rattle.lard_agenda.specs.declared.agenda.Agenda.{Agenda}
use Rattle.lard_agenda.specs.declared.kinds.Kinds.{Kinds}
use Rattle.lard_agenda.specs.declared.kinds.Running.{Running}
use Rattle.lard_law_view.specs.Prelude.{Event, HasRule, Machine, Place, Rec, TimerKind}
use Rattle.lard_base.specs.declared.event.Event.TheVariants as event
use Rattle.lard_history.proofs.Each.{Each}
use Rattle.lard_journal.specs.declared.rec.Rec.TheVariants as rec
use Rattle.lard_law_progress.proofs.Given.{IsRounds, rounds-rule}
use Rattle.lard_settling.specs.Settling.{firings, is_own_seat}
use Rattle.lard_law_settles.proofs.SettlesLists.{own-timer}
use Rattle.lard_settling.specs.Order.{MayBeInner}
use Rattle.lard_table.proofs.Map.{get_put}

-- ---- what an agenda keeps of timers

module _ (Q : Place → ℕ → Type 0) where
  -- a record of a timer is of such a place and connection
  abbrev pub OfTimer : Rec → Type 0
  OfTimer (rec.Armed p c kind) = Q p c
  OfTimer (rec.Cleared p c kind) = Q p c
  OfTimer _ = Unit {0}

  abbrev pub IsTimed : Running → Type 0
  IsTimed r = Q r.place r.c

  abbrev pub AreTimed : FinMap nat_cmp Running → Type 0
  AreTimed running = (at : ℕ) (r : Running) → get running at ≡ Some r → IsTimed r

  entry-timed : (q : Place) (d : ℕ) (kinds : Kinds) (r : Running) (b : Bool) → Q q d → cond b None (Some (record { place = q; c = d; kinds = kinds })) ≡ Some r → IsTimed r
  entry-timed q d kinds r true h e = cc
  entry-timed q d kinds r false h e =
      let is : record { place = q; c = d; kinds = kinds } ≡ r = cc in subst IsTimed is h

  set-timed : (q : Place) (d : ℕ) (k : TimerKind) (on : Bool) (running : FinMap nat_cmp Running) → Q q d → AreTimed running → AreTimed (timer_set running q d k on)
  set-timed q d k on running own h at r e = go (eq_by_cmp nat_cmp at (seat q d)) (sym (get_put running (seat q d) at (entry q d kinds)) ∙ e) where
    kinds : Kinds
    kinds = with_timer (kinds_of (get running (seat q d))) k on

    go : (b : Bool) → cond b (entry q d kinds) (get running at) ≡ Some r → IsTimed r
    go true is = entry-timed q d kinds r (is_none kinds) own is
    go false is = h at r is

  one-timed : (a : Agenda) (r : Rec) → OfTimer r → AreTimed a.running → AreTimed (running_step a.running r)
  one-timed a (rec.Armed q d k) own h = set-timed q d k true a.running own h
  one-timed a (rec.Cleared q d k) own h = set-timed q d k false a.running own h
  one-timed a _ own h = h

  all-timed : (J : List Rec) (a : Agenda) → AreTimed a.running → Each OfTimer J → AreTimed (fold noted_by a J).running
  all-timed [] a h all = h
  all-timed (r ∷ J) a h all = all-timed J (noted_by a r) (one-timed a r all.0 h) all.1

  none-timed : AreTimed nothing_noted.running
  none-timed at r e = let h : None ≡ Some r = sym (get-empty nat_cmp at) ∙ e in absurd cc

  pub agenda-timed : (J : List Rec) → Each OfTimer J → AreTimed (agenda_of J).running
  unfolding agenda_of
  agenda-timed J all = all-timed J nothing_noted none-timed all

-- ---- entries that are found by their keys

module _ {X : Type 0} (P : ℕ → X → Type 0) where
  -- a key that is below all is not among them
  not-below : (k q : ℕ) (es : List (ℕ × X)) → below_all nat_cmp k es ≡ true → eq_by_cmp nat_cmp q k ≡ true → find nat_cmp q es ≡ None
  not-below k q [] b t = refl
  not-below k q (e ∷ es) b t =
      let parts = and_parts (is_lt (nat_cmp k e.0)) (below_all nat_cmp k es) b in
      let other : eq_by_cmp nat_cmp q e.0 ≡ false = let less = parts.0 in grind (arith, nat_tests, less, t) in
      ap (λ c. cond c (Some e.1) (find nat_cmp q es)) other ∙ not-below k q es parts.1 t

  found-each : (es : List (ℕ × X)) → is_sorted nat_cmp es ≡ true → ((q : ℕ) (v : X) → find nat_cmp q es ≡ Some v → P q v) → Each (λ (e : ℕ × X). P e.0 e.1) es
  found-each [] sorted h = tt
  found-each (e ∷ es) sorted h =
      let parts = and_parts (below_all nat_cmp e.0 es) (is_sorted nat_cmp es) sorted in
      let mine : eq_by_cmp nat_cmp e.0 e.0 ≡ true = grind (arith, nat_tests) in
      (h e.0 e.1 (ap (λ c. cond c (Some e.1) (find nat_cmp e.0 es)) mine), found-each es parts.1 (λ q v is. h q v (later q v is (eq_by_cmp nat_cmp q e.0) refl parts.0))) where
        later : (q : ℕ) (v : X) → find nat_cmp q es ≡ Some v → (b : Bool) → eq_by_cmp nat_cmp q e.0 ≡ b → below_all nat_cmp e.0 es ≡ true → find nat_cmp q (e ∷ es) ≡ Some v
        later q v is true t below = let none : None ≡ Some v = sym (not-below e.0 q es below t) ∙ is in cc
        later q v is false t below = ap (λ c. cond c (Some e.1) (find nat_cmp q es)) t ∙ is

  pub entries-each : (m : FinMap nat_cmp X) → ((q : ℕ) (v : X) → get m q ≡ Some v → P q v) → Each (λ (e : ℕ × X). P e.0 e.1) (entries m)
  entries-each m h = found-each (entries m) (holds (entries_sorted m)) (λ q v is. h q v (get-entries m q ∙ is)) where
    holds : T (is_sorted nat_cmp (entries m)) → is_sorted nat_cmp (entries m) ≡ true
    holds t = go (is_sorted nat_cmp (entries m)) t where
      go : (b : Bool) → T b → b ≡ true
      go true t = refl
      go false t = absurd t

-- of two lists, one behind the other
pub each-parts : {A : Type 0} (P : A → Type 0) (xs ys : List A) → Each P (xs ++ ys) → Each P xs × Each P ys
each-parts P [] ys h = (tt, h)
each-parts P (x ∷ xs) ys h = let more = each-parts P xs ys h.1 in ((h.0, more.0), more.1)

-- of what is made of each
pub each-map : {A B : Type 0} (P : A → Type 0) (Q : B → Type 0) (f : A → B) → ((x : A) → P x → Q (f x)) → (xs : List A) → Each P xs → Each Q (map f xs)
each-map P Q f w [] h = tt
each-map P Q f w (x ∷ xs) h = (w x h.0, each-map P Q f w xs h.1)

-- of those that are chosen
pub each-filter : {A : Type 0} (P : A → Type 0) (p : A → Bool) (xs : List A) → Each P xs → Each P (filter p xs)
each-filter P p [] h = tt
each-filter P p (x ∷ xs) h = go (p x) (each-filter P p xs h.1) where
  go : (b : Bool) → Each P (filter p xs) → Each P (cond b (x ∷ filter p xs) (filter p xs))
  go true more = (h.0, more)
  go false more = more

-- what holds of each timer that runs holds of each that fires
module _ (Q : Place → ℕ → Type 0) (R : Event → Type 0) (w : (p : Place) (c : ℕ) → Q p c → R (event.Timer p c)) where
  pub firings-each : (m : Machine) → Each (OfTimer Q) m.journal → Each R (firings m)
  firings-each m all =
      let running : FinMap nat_cmp Running = (agenda_of m.journal).running in
      let kept = entries-each (λ at r. IsTimed Q r) running (agenda-timed Q m.journal all) in
      let each : Each (IsTimed Q) (values running) = each-map (λ (e : ℕ × Running). IsTimed Q e.1) (IsTimed Q) (λ (e : ℕ × Running). e.1) (λ e h. h) (entries running) kept in
      let free : Each (IsTimed Q) (free_of m.front.dispatch (values running)) = each-filter (IsTimed Q) (λ r. not (is_stalled m.front.dispatch r)) (values running) each in
      each-map (λ (s : Place × ℕ). Q s.0 s.1) R (λ (s : Place × ℕ). event.Timer s.0 s.1) (λ s h. w s.0 s.1 h) (filter is_own_seat (due m.front.dispatch (agenda_of m.journal)))
      (each-filter (λ (s : Place × ℕ). Q s.0 s.1) is_own_seat (due m.front.dispatch (agenda_of m.journal))
      (each-map (IsTimed Q) (λ (s : Place × ℕ). Q s.0 s.1) (λ (r : Running). (r.place, r.c)) (λ r h. h) (free_of m.front.dispatch (values running)) free))

-- ---- the events of inner steps

-- an event of an inner step: it has a rule, and no client writes in it; of a node's jobs the first is completed
abbrev pub IsInner : Event → Type 0
IsInner (event.Take c) = Unit {0}
IsInner e = IsRounds e

own-inner : (seats : List (Place × ℕ)) → Each IsInner (map (λ (s : Place × ℕ). event.Timer s.0 s.1) (filter is_own_seat seats))
own-inner [] = tt
own-inner (x ∷ xs) = go (is_own_seat x) refl (own-inner xs) where
  go : (b : Bool) → is_own_seat x ≡ b → Each IsInner (map (λ (s : Place × ℕ). event.Timer s.0 s.1) (filter is_own_seat xs))
      → Each IsInner (map (λ (s : Place × ℕ). event.Timer s.0 s.1) (cond b (x ∷ filter is_own_seat xs) (filter is_own_seat xs)))
  go true e more = (own-timer x.0 x.1 e, more)
  go false e more = more

pub firings-inner : (m : Machine) → Each IsInner (firings m)
firings-inner m = own-inner (due m.front.dispatch (agenda_of m.journal))

pub take-inner : (cs : List ℕ) → Each IsInner (map event.Take cs)
take-inner [] = tt
take-inner (c ∷ cs) = (tt, take-inner cs)

pub deliver-inner : (ks : List ℕ) → Each IsInner (map event.Deliver ks)
deliver-inner [] = tt
deliver-inner (k ∷ ks) = (tt, deliver-inner ks)

pub disk-inner : (n i : ℕ) → Each IsInner (replicate i (event.Disk n 1))
disk-inner n zero = tt
disk-inner n (suc i) = (refl, disk-inner n i)

-- they have rules
pub inner-rule : (e : Event) → IsInner e → HasRule e
inner-rule (event.Take c) h = tt
inner-rule e h = rounds-rule e h

-- and may stand inside a settle
pub inner-stands : (e : Event) → IsInner e → MayBeInner e
inner-stands (event.Take c) h = tt
inner-stands (event.Deliver k) h = tt
inner-stands (event.Disk n j) h = h
inner-stands (event.Timer p c) h = tt
inner-stands _ h = absurd h
