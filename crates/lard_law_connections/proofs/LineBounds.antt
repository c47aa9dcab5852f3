-- In every state that events lead to, the dispatcher is what calls make of it that may be made; so loads are bounded, at every moment.
use Rattle.std.proofs.Common.{◌≡◌, ℕ, ◌+◌, ◌*◌, ◌≤◌, List, [], ◌∷◌, ◌++◌, Ok, refl, sym, ap, ◌∙◌, subst, append-nil, append_assoc, ⊎_elim, cond, nat_eq, nat_le, count_by, Bool, true, false, arith}
use Rattle.std.proofs.lemmas.Bool.{cond_both}
use Rattle.std.proofs.lemmas.Bool.Decides.{nat_tests}
use Rattle.std.proofs.lemmas.List.Sums.{fold-append, sum_by-le-sum_by}
use Rattle.std.specs.List.{AllByRecursion, fold}
use Rattle.lard_law_view.specs.Prelude.{AreAllowed, Call, ClosesNone, Config, Dispatcher, EachMay, Event, Front, FrontState, HasRule, IsCallInRange, IsReached, Machine, MayBeMade, MayClose, Out, Rec, Tally, after_calls, clocked, config_check, connections_at, dispatch_begun, front_gave, front_setting, front_step, is_home_of_node, is_node_closed, loads_after, machine_start, machine_step, machine_told, node_closed_step, room_of}
use Rattle.lard_law_connections.proofs.LineCalls.{StepCalls, all-append, allowed-append, calls-append, step-calls}
use Rattle.lard_law_connections.proofs.LineCharging.{IsBelow, below-same, falls-below, rises-below}
use Rattle.lard_law_connections.proofs.LineRuns.{step-ordered-so}
use Rattle.lard_law_connections.proofs.LineSteps.{IsRising}
use Rattle.lard_law_connections.specs.LineLaws.{ConnectionsStayFew, HasFewConnections, IsNearTheThresholds, IsNotBusy, IsWithinTheRoom, LoadsStayNearTheThresholds, LoadsStayWithinTheRoom, NeverAllBusy, NoneIsClosed, connections_told, greatest_threshold}
use Rattle.lard_law_connections.proofs.LeaversRuns.{may-come}
use Rattle.lard_law_connections.proofs.PolicyAsides.{EachFrom, May, may-from}
use Rattle.lard_law_connections.proofs.Calm.{first_rows, last_rows, told-journal}
use Rattle.lard_law_connections.proofs.PolicyCounted.{books-are-told, loads-are-charges, reached-counted, standings-are-told}
use Rattle.lard_law_connections.proofs.Forms.{Clocks, FrontStays, FrontStep, front-form}
use Rattle.lard_law_connections.proofs.PolicyNumbers.{IsNumbered, reached-numbered}
use Rattle.lard_counts.specs.Ledger.{Ledger, blank_ledger, ledger, ledger_step}
use Rattle.lard_law_connections.specs.PolicyLoads.{load_told}
use Rattle.lard_law_view.proofs.ByteLists.{each-before, each-behind}
use Rattle.lard_law_view.proofs.Carried.{IsOn, carried-keep}
use Rattle.lard_law_view.proofs.Runs.{passes-more}
use Rattle.lard_dispatch.proofs.Homes.{few-are-high}
use Rattle.lard_dispatch.proofs.Shares.{within-the-room}
use Rattle.lard_dispatch.proofs.Thresholds.{few-at-homes, near-the-thresholds}
use Rattle.lard_history.proofs.Each.{Each, Each-weaker, each_append}
use Rattle.lard_history.proofs.Seeing.{same_number}
use Rattle.lard_journal.specs.declared.rec.Rec.TheVariants as rec
use Rattle.lard_loads.specs.Tally as tally
use Rattle.lard_law_view.proofs.OwnRecords.{IsNoClosing, behind}

-- ---- parts of lists

pub may-behind : (may : List Rec → Rec → Type 0) (past xs ys : List Rec) → EachMay may past (xs ++ ys) → EachMay may (past ++ xs) ys
may-behind may past [] ys e = subst (λ (zs : List Rec). EachMay may zs ys) (sym (append-nil past)) e
may-behind may past (x ∷ xs) ys e = subst (λ (zs : List Rec). EachMay may zs ys) (append_assoc past (x ∷ []) xs) (may-behind may (past ++ x ∷ []) xs ys e.1)

-- a number that is at least another
one-less : (high a b : ℕ) → a ≤ b → cond {A = ℕ} (nat_le high a) 1 0 ≤ cond {A = ℕ} (nat_le high b) 1 0
one-less high a b le = grind (arith, nat_tests, le)

-- ---- the dispatcher

pub record HasCalls (config : Config) (m : Machine) : Type 0 where
  pub calls : List Call
  pub is : m.front.dispatch ≡ after_calls (dispatch_begun config) calls
  pub may : MayBeMade config calls
  pub closes : NoneIsClosed m.journal → AllByRecursion ClosesNone calls

-- ---- while no node is closed

stays-closed : (n : ℕ) (rs : List Rec) → fold (node_closed_step n) true rs ≡ true
stays-closed n [] = refl
stays-closed n (rec.Closed m ∷ rs) =
    cond_both (nat_eq m n) true true (λ b. fold (node_closed_step n) b rs ≡ true) (λ t. stays-closed n rs) (λ t. stays-closed n rs)
stays-closed n (r ∷ rs) = stays-closed n rs

-- none was closed before
before-closed : (J rs : List Rec) → NoneIsClosed (J ++ rs) → NoneIsClosed J
before-closed J rs none n = go (is_node_closed J n) refl where
  go : (b : Bool) → is_node_closed J n ≡ b → b ≡ false
  go true e = sym (stays-closed n rs) ∙ ap (λ b. fold (node_closed_step n) b rs) (sym e) ∙ sym (fold-append (node_closed_step n) false J rs) ∙ none n
  go false e = refl

-- and none is by such records
still-none : (rs : List Rec) → Each IsNoClosing rs → (n : ℕ) → fold (node_closed_step n) false rs ≡ false
still-none [] e n = refl
still-none (rec.Closed m ∷ rs) e n = absurd e.0
still-none (r ∷ rs) e n = still-none rs e.1 n

behind-none : (J rs : List Rec) → NoneIsClosed J → Each IsNoClosing rs → NoneIsClosed (J ++ rs)
behind-none J rs none e n = fold-append (node_closed_step n) false J rs ∙ ap (λ b. fold (node_closed_step n) b rs) (none n) ∙ still-none rs e n

none-closing : (rs : List Rec) → ((n : ℕ) → fold (node_closed_step n) false rs ≡ false) → Each IsNoClosing rs
none-closing [] none = tt
none-closing (rec.Closed m ∷ rs) none =
    let closed : fold (node_closed_step m) false (rec.Closed m ∷ rs) ≡ true = ap (λ b. fold (node_closed_step m) (cond b true false) rs) (same_number m) ∙ stays-closed m rs in
    let no : true ≡ false = sym closed ∙ none m in absurd cc
none-closing (r ∷ rs) none = (tt, none-closing rs none)

-- where none is closed at the end, none is in between
behind-closing : (J rs : List Rec) → NoneIsClosed (J ++ rs) → Each IsNoClosing rs
behind-closing J rs none =
    none-closing rs (λ n. ap (λ b. fold (node_closed_step n) b rs) (sym (before-closed J rs none n)) ∙ sym (fold-append (node_closed_step n) false J rs) ∙ none n)

rising-closing : (r : Rec) → IsRising r → IsNoClosing r
rising-closing (rec.Closed n) h = h
rising-closing _ h = tt

module _ (config : Config) (files : List (List ℕ × List ℕ)) (checked : config_check config ≡ Ok tt) where
  one-more : (m n : Machine) (e : Event) → IsOn config files m → HasRule e → machine_step m e ≡ Ok n → IsReached config files n
  one-more m n e on rule is = (on.reached.0 ++ e ∷ [], passes-more on.reached.0 (machine_start config files) m n e on.reached.1 rule is)

  same-calls : (m n : Machine) (rs : List Rec) → n.journal ≡ m.journal ++ rs → n.front ≡ m.front → HasCalls config m → HasCalls config n
  same-calls m n rs adds e h = record {
    calls = h.calls;
    is = ap (λ (f : FrontState). f.dispatch) e ∙ h.is;
    may = h.may;
    closes = λ none. h.closes (before-closed m.journal rs (subst NoneIsClosed adds none));
  }

  -- what is so of each record behind a journal is so of the notes
  notes-are : (P : Rec → Type 0) (m : Machine) (e : Event) (t : FrontState) (o : Out)
      → Each P (first_rows (record m { front = t }) e ++ o.notes ++ last_rows (record m { front = t }) Front o) → Each P o.notes
  notes-are P m e t o all =
      let w : Machine = record m { front = t } in
      each-behind P (first_rows w e) o.notes (each-before P (first_rows w e ++ o.notes) (last_rows w Front o) all)

  -- the notes are of numbers of connections, as all records are
  notes-numbered : (m : Machine) (e : Event) (t : FrontState) (o : Out) → Each IsNumbered (front_gave m e (behind e) (t, o)).journal → Each IsNumbered o.notes
  notes-numbered m e t o numbered =
      let w : Machine = record m { front = t } in
      notes-are IsNumbered m e t o (each-behind IsNumbered m.journal (first_rows w e ++ o.notes ++ last_rows w Front o) (subst (Each IsNumbered) (told-journal w e Front o) numbered))

  moved-calls : (m : Machine) (e : Event) (t : FrontState) (o : Out) → StepCalls m.front.dispatch (t, o) → Each IsNumbered o.notes → HasCalls config m → HasCalls config (front_gave m e (behind e) (t, o))
  unfolding machine_told
  moved-calls m e t o s numbered h = record {
    calls = h.calls ++ s.calls;
    is = s.is ∙ ap (λ (d : Dispatcher). after_calls d s.calls) h.is ∙ sym (calls-append (dispatch_begun config) h.calls s.calls);
    may = record {
      usable = checked;
      allowed = allowed-append (dispatch_begun config) h.calls s.calls h.may.allowed (subst (λ (d : Dispatcher). AreAllowed d s.calls) h.is s.allowed);
      in_range = all-append IsCallInRange h.calls s.calls h.may.in_range (s.in_range numbered);
    };
    closes = λ none.
        let w : Machine = record m { front = t } in
        let rows : List Rec = first_rows w e ++ o.notes ++ last_rows w Front o in
        let after : NoneIsClosed (m.journal ++ rows) = subst NoneIsClosed (told-journal w e Front o) none in
        all-append ClosesNone h.calls s.calls (h.closes (before-closed m.journal rows after)) (s.closes (notes-are IsNoClosing m e t o (behind-closing m.journal rows after)));
  }

  clocked-front : (m : Machine) (ms : ℕ) → (clocked m ms).front ≡ m.front
  unfolding clocked
  clocked-front m ms = refl

  has-calls : (m : Machine) → IsReached config files m → HasCalls config m
  has-calls = carried-keep config files (HasCalls config)
      (record { calls = []; is = refl; may = record { usable = checked; allowed = tt; in_range = tt }; closes = λ none. tt })
      (λ k n e on h rule is.
      let adds = step-ordered-so config files checked k n e on rule is in ⊎_elim
      (λ (s : FrontStays k e n). same-calls k n adds.0 adds.1 s.front h)
      (⊎_elim
      (λ (s : FrontStep k e n).
      let given : FrontState × Out = front_step (front_setting k) k.front s.comes in
      let numbered : Each IsNumbered n.journal = reached-numbered config files n (one-more k n e on rule is) in
      let may : MayClose k.front s.comes = may-come config files k on.reached e s.comes s.came in
      subst (HasCalls config) (sym s.is)
      (moved-calls k e given.0 given.1 (step-calls (front_setting k) k.front (reached-counted config files checked k on.reached).sound s.comes may)
      (notes-numbered k e given.0 given.1 (subst (λ (x : Machine). Each IsNumbered x.journal) s.is numbered)) h))
      (λ (c : Clocks k e n). same-calls k n adds.0 adds.1 (ap (λ (x : Machine). x.front) c.is ∙ clocked-front k c.ms) h))
      (front-form k n e is))

  -- ---- at every moment no node has more than in some state

  abbrev loads_in : Machine → Tally
  loads_in m = m.front.dispatch.books.loads

  pub record HasNoMore (past : List Rec) : Type 0 where
    pub state : Machine
    pub reached : IsReached config files state
    pub below : IsBelow (ledger config past).loads (loads_in state)
    pub clear : NoneIsClosed past → NoneIsClosed state.journal

  at-state : (m : Machine) → IsReached config files m → HasNoMore m.journal
  at-state m r =
      record { state = m; reached = r; clear = λ none. none; below = subst (λ (t : Tally). IsBelow t (loads_in m)) (books-are-told config files m checked r).0 (below-same (loads_in m)) }

  abbrev At : List Rec → Rec → Type 0
  At past r = HasNoMore past

  module _ (t : Tally) (m : Machine) (reached : IsReached config files m) (same : loads_in m ≡ t) where
    at-one : (past : List Rec) → IsBelow (ledger config past).loads t → (NoneIsClosed past → NoneIsClosed m.journal) → HasNoMore past
    at-one past below clear =
        record { state = m; reached = reached; below = subst (λ (u : Tally). IsBelow (ledger config past).loads u) (sym same) below; clear = clear }

    abbrev Below : Ledger → Rec → Type 0
    Below k r = IsBelow k.loads t

    then-below : (past : List Rec) (x : Rec) (rs : List Rec) → EachFrom Below (ledger_step (ledger config past) x) rs
        → EachFrom Below (ledger config (past ++ x ∷ [])) rs
    then-below past x rs h = subst (λ (l : Ledger). EachFrom Below l rs) (sym (fold-append ledger_step (blank_ledger config) past (x ∷ []))) h

    -- what falls comes behind the state before
    each-falls : (past rs : List Rec) → (NoneIsClosed past → NoneIsClosed m.journal) → EachFrom Below (ledger config past) rs → EachMay At past rs
    each-falls past [] clear h = tt
    each-falls past (x ∷ rs) clear h =
        (at-one past h.0 clear, each-falls (past ++ x ∷ []) rs (λ none. clear (before-closed past (x ∷ []) none)) (then-below past x rs h.1))

    -- and what rises comes before the state behind
    each-rises : (past rs : List Rec) → m.journal ≡ past ++ rs → Each IsRising rs → EachFrom Below (ledger config past) rs → EachMay At past rs
    each-rises past [] is rising h = tt
    each-rises past (x ∷ rs) is rising h = (
      at-one past h.0 (λ none. subst NoneIsClosed (sym is) (behind-none past (x ∷ rs) none (Each-weaker IsRising IsNoClosing rising-closing (x ∷ rs) rising))),
      each-rises (past ++ x ∷ []) rs (is ∙ sym (append_assoc past (x ∷ []) rs)) rising.1 (then-below past x rs h.1),
    )

  may-split : (l : Ledger) (xs ys : List Rec) → EachFrom (May config) l (xs ++ ys) → EachFrom (May config) (fold ledger_step l xs) ys
  may-split l [] ys e = e
  may-split l (x ∷ xs) ys e = may-split (ledger_step l x) xs ys e.1

  -- before each record of a step
  step-below : (m k : Machine) (e : Event) → IsOn config files m → HasRule e → machine_step m e ≡ Ok k → (rs : List Rec) × (k.journal ≡ m.journal ++ rs) × EachMay At m.journal rs
  step-below m k e on rule is =
      let adds = step-ordered-so config files checked m k e on rule is in
      let rs : List Rec = adds.0 in
      let o = adds.2 in
      let reached : IsReached config files k = one-more m k e on rule is in
      let l : Ledger = ledger config m.journal in
      let u : Ledger = fold ledger_step l o.falls in
      let numbered : Each IsNumbered (o.falls ++ o.rises) = subst (Each IsNumbered) o.split (each-behind IsNumbered m.journal rs (subst (Each IsNumbered) adds.1 (reached-numbered config files k reached))) in
      let lawful : EachFrom (May config) l (o.falls ++ o.rises) = subst (EachFrom (May config) l) o.split
      (may-from config (May config) m.journal rs (may-behind (λ past r. May config (ledger config past) r) [] m.journal rs (subst (EachMay (λ past r. May config (ledger config past) r) []) adds.1 (reached-counted config files checked k reached).law))) in
      let down : EachFrom (λ k r. IsBelow k.loads l.loads) l o.falls = falls-below l l.loads o.falls o.falling (each-before IsNumbered o.falls o.rises numbered) (below-same l.loads) in
      let up = rises-below config u o.rises o.rising (each-behind IsNumbered o.falls o.rises numbered) (may-split l o.falls o.rises lawful) in
      let end : loads_in k ≡ (fold ledger_step u o.rises).loads = (books-are-told config files k checked reached).0
      ∙ ap (λ (x : Ledger). x.loads) (ap (ledger config) (adds.1 ∙ ap (λ (zs : List Rec). m.journal ++ zs) o.split) ∙ fold-append ledger_step (blank_ledger config) m.journal (o.falls ++ o.rises) ∙ fold-append ledger_step l o.falls o.rises) in (
        rs,
        adds.1,
        subst (EachMay At m.journal) (sym o.split) (each_append At m.journal o.falls o.rises
            (each-falls l.loads m on.reached (books-are-told config files m checked on.reached).0 m.journal o.falls (λ none. none) down)
            (each-rises (fold ledger_step u o.rises).loads k reached end (m.journal ++ o.falls) o.rises
            (adds.1 ∙ ap (λ (zs : List Rec). m.journal ++ zs) o.split ∙ sym (append_assoc m.journal o.falls o.rises)) o.rising
            (subst (λ (k : Ledger). EachFrom (λ l r. IsBelow l.loads (fold ledger_step u o.rises).loads) k o.rises) (sym (fold-append ledger_step (blank_ledger config) m.journal o.falls)) up.0))),
      )

  each-below : (m : Machine) → IsReached config files m → EachMay At [] m.journal
  each-below = carried-keep config files (λ k. EachMay At [] k.journal) tt
      (λ m k e on h rule is.
      let adds = step-below m k e on rule is in
      subst (EachMay At []) (sym adds.1) (each_append At [] m.journal adds.0 h adds.2))

  -- before a record, or at the end
  at-moment : (m : Machine) → IsReached config files m → (past later : List Rec) → m.journal ≡ past ++ later → HasNoMore past
  at-moment m r past [] is = subst HasNoMore (is ∙ append-nil past) (at-state m r)
  at-moment m r past (x ∷ rs) is = (may-behind At [] past (x ∷ rs) (subst (EachMay At []) is (each-below m r))).0

  -- what the journal counts, at that moment
  module _ (m : Machine) (r : IsReached config files m) (past later : List Rec) (is : m.journal ≡ past ++ later) where
    most : HasNoMore past
    most = at-moment m r past later is

    calls : HasCalls config most.state
    calls = has-calls most.state most.reached

    -- the loads of that state are those of its calls
    so : loads_after config calls.calls ≡ loads_in most.state
    so = sym (ap (λ (d : Dispatcher). d.books.loads) calls.is)

    load-most : (n bound : ℕ) → tally.load (loads_after config calls.calls) n ≤ bound → load_told past n ≤ bound
    load-most n bound h =
        let told_is : tally.load (ledger config past).loads n ≡ load_told past n = (loads-are-charges config files m checked r past later is).0 n in
        let within : tally.load (ledger config past).loads n ≤ tally.load (loads_in most.state) n = most.below.loads n in
        let same : tally.load (loads_after config calls.calls) n ≡ tally.load (loads_in most.state) n = ap (λ (t : Tally). tally.load t n) so in
        omega (arith, h, told_is, within, same)

    connections-most : (n : ℕ) → connections_told past n ≤ connections_at (loads_after config calls.calls) n
    connections-most n =
        let told_is : connections_at (ledger config past).loads n ≡ connections_told past n = λ i. count_by (λ c. is_home_of_node ((standings-are-told config files m checked r past later is c).1 i) n) tally.connections in
        let within : connections_at (ledger config past).loads n ≤ connections_at (loads_in most.state) n = most.below.homes n in
        let same : connections_at (loads_after config calls.calls) n ≡ connections_at (loads_in most.state) n = ap (λ (t : Tally). connections_at t n) so in
        omega (arith, told_is, within, same)

    room-so : IsWithinTheRoom config (ledger config past) past
    room-so n = load-most n (840 * room_of config) (within-the-room config calls.calls calls.may n).1

    thresholds-so : IsNearTheThresholds config (ledger config past) past
    thresholds-so none n =
        load-most n (840 * (greatest_threshold config + 1)) (near-the-thresholds config calls.calls calls.may (calls.closes (most.clear none)) (greatest_threshold config) (omega arith) (omega arith) (omega arith) n)

    few-so : HasFewConnections config (ledger config past) past
    few-so none n =
        let few = few-at-homes config calls.calls calls.may (calls.closes (most.clear none)) n in let less = connections-most n in omega (arith, few, less)

    -- no node is high that is not in that state
    highs-less : count_by (λ n. nat_le config.high (connections_told past n)) (tally.numbers config.nodes) ≤ count_by (λ n. nat_le config.high (connections_at (loads_after config calls.calls) n)) (tally.numbers config.nodes)
    highs-less = sum_by-le-sum_by (λ n. cond {A = ℕ} (nat_le config.high (connections_told past n)) 1 0) (λ n. cond {A = ℕ} (nat_le config.high (connections_at (loads_after config calls.calls) n)) 1 0) (tally.numbers config.nodes)
        (λ n. one-less config.high (connections_told past n) (connections_at (loads_after config calls.calls) n) (connections-most n))

    busy-so : IsNotBusy config (ledger config past) past
    busy-so low =
        let few = few-are-high config calls.calls calls.may (λ n some within. let least = low n some within in let less = connections-most n in omega (arith, least, less)) in
        let less = highs-less in
        omega (arith, few, less)

pub loads-within-the-room : LoadsStayWithinTheRoom
loads-within-the-room config files m checked r past later is = room-so config files checked m r past later is

pub loads-near-the-thresholds : LoadsStayNearTheThresholds
loads-near-the-thresholds config files m checked r past later is = thresholds-so config files checked m r past later is

pub connections-stay-few : ConnectionsStayFew
connections-stay-few config files m checked r past later is = few-so config files checked m r past later is

pub never-all-busy : NeverAllBusy
never-all-busy config files m checked r past later is = busy-so config files checked m r past later is
