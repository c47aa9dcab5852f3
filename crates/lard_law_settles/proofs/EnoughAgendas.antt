-- What an agenda lists is the same of a journal and of the one with its settles written out; and its packets are all that are on their
-- way, each once.
use Rattle.std.proofs.Common.{◌≡◌, ℕ, zero, suc, ◌+◌, Bool, true, false, ◌==◌, ◌&&◌, List, [], ◌∷◌, ◌++◌, map, filter, Option, Some, None, is_some, refl, sym, ap, ◌∙◌, subst, cond, arith}
use Rattle.std.proofs.lemmas.Bool.{true≢false}
use Rattle.std.proofs.lemmas.Bool.Decides.{nat_tests}
use Rattle.std.proofs.lemmas.List.Sums.{fold-append}
use Rattle.std.specs.FinMap.{FinMap, empty, entries, entries_sorted, get, get-entries, values}
use Rattle.std.specs.FinMap.Entries.{below_all, find, is_sorted}
use Rattle.std.specs.List.{fold}
use Rattle.std.specs.Ordering.{eq_by_cmp, is_lt, nat_cmp}
use Rattle.std.specs.Prelude.{T}
use Rattle.lard_agenda.proofs.Packets.{packets_are_told}
use Rattle.lard_agenda.specs.Agenda.{agenda_of, due, free_of, no_seats, noted_by, nothing_noted, on_way, running_step}
use Rattle.lard_agenda.specs.Laws.{is_on_way, way_flag}
use Rattle.lard_agenda.specs.declared.agenda.Agenda.{Agenda}
use Rattle.lard_agenda.specs.declared.kinds.Running.{Running}
use Rattle.lard_law_view.specs.Prelude.{Config, Dispatcher, Machine, Place, Rec}
use Rattle.lard_law_settles.specs.CourseGame.{seats_due}
use Rattle.lard_rounds.proofs.Listing.{AreApart, IsBut}
use Rattle.lard_settling.specs.Left.{jobs_at, jobs_from}
use Rattle.lard_settling.specs.Settling.{is_own_seat, is_quiet, jobs_left}
use Rattle.lard_settling.specs.Steps.{closing, settle_closed}
use Rattle.lard_settling.specs.Written.{IsWrittenOut}
use Rattle.lard_settling.proofs.Folds.{TakesSteps, fold-written}

-- ---- packets, each once

both : (a b : Bool) → T (a && b) → T a × T b
both true b h = (tt, h)
both false b h = absurd h

not-less : (k : ℕ) → is_lt (nat_cmp k k) ≡ true → ⊥
not-less k less = let none : is_lt (nat_cmp k k) ≡ false = grind (arith, nat_tests) in true≢false (sym less ∙ none)

holds : (b : Bool) → T b → b ≡ true
holds true t = refl
holds false t = absurd t

module _ {X : Type 0} where
  abbrev names : List (ℕ × X) → List ℕ
  names es = map (λ e. e.0) es

  below-but : (k : ℕ) (es : List (ℕ × X)) → T (below_all nat_cmp k es) → IsBut k (names es)
  below-but k [] below = tt
  below-but k (e ∷ es) below =
      let parts = both (is_lt (nat_cmp k e.0)) (below_all nat_cmp k es) below in
      ((λ same. not-less k (subst (λ i. is_lt (nat_cmp k i) ≡ true) (sym same) (holds (is_lt (nat_cmp k e.0)) parts.0))), below-but k es parts.1)

  sorted-apart : (es : List (ℕ × X)) → T (is_sorted nat_cmp es) → AreApart (names es)
  sorted-apart [] sorted = tt
  sorted-apart (e ∷ es) sorted = let parts = both (below_all nat_cmp e.0 es) (is_sorted nat_cmp es) sorted in (below-but e.0 es parts.0, sorted-apart es parts.1)

  -- what is found is among them
  found-among : (k : ℕ) (v : X) (es : List (ℕ × X)) → find nat_cmp k es ≡ Some v → IsBut k (names es) → ⊥
  found-among k v [] f but = cc
  found-among k v (e ∷ es) f but = go (eq_by_cmp nat_cmp k e.0) refl f (λ g. found-among k v es g but.1) where
    go : (b : Bool) → eq_by_cmp nat_cmp k e.0 ≡ b → cond b (Some e.1) (find nat_cmp k es) ≡ Some v → (find nat_cmp k es ≡ Some v → ⊥) → ⊥
    go true t g later = but.0 (grind (arith, nat_tests, t))
    go false t g later = later g

pub packets-apart : (J : List Rec) → AreApart (on_way (agenda_of J))
packets-apart J = sorted-apart (entries (agenda_of J).way) (entries_sorted (agenda_of J).way)

pub packets-complete : (J : List Rec) (k : ℕ) → is_on_way J k ≡ true → IsBut k (on_way (agenda_of J)) → ⊥
packets-complete J k on but = go (get (agenda_of J).way k) refl (packets_are_told J k ∙ on) where
  go : (o : Option (Unit {0})) → get (agenda_of J).way k ≡ o → is_some o ≡ true → ⊥
  go None at some = true≢false (sym some)
  go (Some u) at some = found-among k u (entries (agenda_of J).way) (sym (get-entries (agenda_of J).way k) ∙ at) but

-- ---- settles written out

way-steps : (k : ℕ) → TakesSteps (way_flag k)
way-steps k = record { events = λ a i j e. refl; inner = λ a i e. refl; settles = λ a i rounds. refl; settled = λ a rounds. refl; unsettled = λ a rounds left. refl }

running-steps : TakesSteps running_step
running-steps = record { events = λ a i j e. refl; inner = λ a i e. refl; settles = λ a i rounds. refl; settled = λ a rounds. refl; unsettled = λ a rounds left. refl }

running-fold : (J : List Rec) (a : Agenda) → (fold noted_by a J).running ≡ fold running_step a.running J
running-fold [] a = refl
running-fold (r ∷ J) a = running-fold J (noted_by a r)

running-is : (J : List Rec) → (agenda_of J).running ≡ fold running_step empty J
unfolding agenda_of
running-is J = running-fold J nothing_noted

-- the closing record of a settle changes nothing of it
closing-runs : (J : List Rec) (done more : ℕ) → (agenda_of (J ++ closing done more ∷ [])).running ≡ (agenda_of J).running
closing-runs J done more = running-is (J ++ closing done more ∷ []) ∙ fold-append running_step empty J (closing done more ∷ []) ∙ one more ∙ sym (running-is J) where
  one : (more : ℕ) → fold running_step (fold running_step empty J) (closing done more ∷ []) ≡ fold running_step empty J
  one zero = refl
  one (suc more) = refl

closing-jobs : (m : Machine) (done left count n : ℕ) → jobs_from (settle_closed m done left) n count ≡ jobs_from m n count
closing-jobs m done left zero n = refl
closing-jobs m done left (suc count) n = ap (λ i. jobs_at m n + i) (closing-jobs m done left count (n + 1))

pub closing-quiet : (m : Machine) (done left : ℕ) → is_quiet (settle_closed m done left) ≡ is_quiet m
closing-quiet m done left =
    let runs = closing-runs m.journal done left in
    let jobs = closing-jobs m done left m.config.nodes 1 in
    λ i. no_seats (map (λ r. (r.place, r.c)) (free_of m.front.dispatch (values (runs i)))) && jobs i == 0

module _ (config : Config) (files : List (List ℕ × List ℕ)) (m : Machine) (w : IsWrittenOut config files m) where
  abbrev p : Machine
  p = w.plain

  pub same-way : (k : ℕ) → is_on_way p.journal k ≡ is_on_way m.journal k
  same-way k = ap (λ J. is_on_way J k) w.journal ∙ fold-written (way_flag k) (way-steps k) false 0 m.journal

  same-running : (agenda_of p.journal).running ≡ (agenda_of m.journal).running
  same-running =
      running-is p.journal ∙ ap (λ (J : List Rec). fold running_step empty J) w.journal ∙ fold-written running_step running-steps empty 0 m.journal ∙ sym (running-is m.journal)

  same-due : (d : Dispatcher) → due d (agenda_of p.journal) ≡ due d (agenda_of m.journal)
  same-due d = ap (λ (rs : FinMap nat_cmp Running). map (λ r. (r.place, r.c)) (free_of d (values rs))) same-running

  same-front : m.front.dispatch ≡ p.front.dispatch
  same-front = ap (λ (k : Machine). k.front.dispatch) w.same

  -- the seats of which a timer fires
  pub same-seats : filter is_own_seat (due m.front.dispatch (agenda_of m.journal)) ≡ seats_due p
  same-seats = ap (λ d. filter is_own_seat (due d (agenda_of m.journal))) same-front ∙ ap (λ (seats : List (Place × ℕ)). filter is_own_seat seats) (sym (same-due p.front.dispatch))

  pub same-jobs : (n : ℕ) → jobs_at m n ≡ jobs_at p n
  same-jobs n = ap (λ (k : Machine). jobs_at k n) w.same

  -- it is quiet as m is
  pub same-quiet : is_quiet m ≡ is_quiet p
  same-quiet =
      ap is_quiet w.same
      ∙ ap (λ (seats : List (Place × ℕ)). no_seats seats && jobs_left p == 0) (sym (same-due p.front.dispatch))
