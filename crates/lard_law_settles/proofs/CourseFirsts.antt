-- The first timer of those that are due: no timer runs at a place before it.
use Rattle.std.proofs.Common.{◌≡◌, ◌<◌, ◌≤◌, ◌&&◌, not, ℕ, Bool, true, false, cond, List, [], ◌∷◌, map, filter, Option, Some, None, refl, sym, ap, ◌∙◌, subst, arith}
use Rattle.std.proofs.lemmas.Bool.{both_ways}
use Rattle.std.proofs.lemmas.Bool.Decides.{nat_tests}
use Rattle.std.specs.Cmp.{eq_by_cmp_equiv, nat_cmp_total}
use Rattle.std.specs.FinMap.{entries, entries_sorted, find, get, get-entries, is_sorted}
use Rattle.std.specs.FinMap.Entries.{below_all}
use Rattle.std.specs.List.{AllByRecursion}
use Rattle.std.specs.Ordering.{is_eq, is_lt, nat_cmp}
use lib.Dec.{T}
use Rattle.lard_agenda.specs.declared.kinds.Running.{Running}
use Rattle.lard_agenda.specs.Agenda.{agenda_of, due, is_stalled, seat, stalled_at}
use Rattle.lard_agenda.specs.Kinds.{kinds_of, no_kinds, runs}
use Rattle.lard_agenda.specs.Laws.{IsDue, IsSeated, NamesSeat}
use Rattle.lard_agenda.proofs.Due.{timers_are_listed}
use Rattle.lard_agenda.proofs.Kept.{kept_is_seated, nothing_idle}
use Rattle.lard_agenda.proofs.Timers.{none-told, one_seat, timers_are_told}
use Rattle.lard_law_view.specs.Prelude.{Dispatcher, Place, Rec, TimerKind, is_running}
use Rattle.lard_settling.specs.Settling.{is_own_seat, is_own_at}

-- ---- lists by rising numbers

both : (a b : Bool) → T (a && b) → T a × T b
both true b h = (tt, h)
both false b h = absurd h

holds : (b : Bool) → T b → b ≡ true
holds true t = refl
holds false t = absurd t

all-filter : {X : Type 0} (test : X → Bool) (P : X → Type 0) (xs : List X) → AllByRecursion P xs → AllByRecursion P (filter test xs)
all-filter test P [] all = tt
all-filter test P (x ∷ xs) all = go (test x) (all-filter test P xs all.1) where
  go : (b : Bool) → AllByRecursion P (filter test xs) → AllByRecursion P (cond b (x ∷ filter test xs) (filter test xs))
  go true rest = (all.0, rest)
  go false rest = rest

abbrev Entry : Type 0
Entry = ℕ × Running

abbrev at : Running → Place × ℕ
at r = (r.place, r.c)

abbrev key : Running → ℕ
key r = seat r.place r.c

module _ (free : Running → Bool) (own : Place × ℕ → Bool) where
  abbrev chosen : List Entry → List (Place × ℕ)
  chosen es = filter own (map at (filter free (map (λ (e : Entry). e.1) es)))

  less : (k e : ℕ) → is_lt (nat_cmp k e) ≡ true → k < e
  less k e h = grind (arith, nat_tests, h)

  same : (k e : ℕ) → is_eq (nat_cmp k e) ≡ true → k ≡ e
  same k e h = grind (arith, nat_tests, h)

  -- what is found behind a number that is below all others is above it
  above : (k q : ℕ) (r : Running) (es : List Entry) → T (below_all nat_cmp k es) → find nat_cmp q es ≡ Some r → k < q
  above k q r [] below f = absurd (let bad : None ≡ Some r = f in cc)
  above k q r (e ∷ es) below f =
      let parts = both (is_lt (nat_cmp k e.0)) (below_all nat_cmp k es) below in
      go (is_eq (nat_cmp q e.0)) refl (less k e.0 (holds (is_lt (nat_cmp k e.0)) parts.0)) (λ g. above k q r es parts.1 g) f
    where
      go : (b : Bool) → is_eq (nat_cmp q e.0) ≡ b → k < e.0 → (find nat_cmp q es ≡ Some r → k < q) → cond b (Some e.1) (find nat_cmp q es) ≡ Some r → k < q
      go true is low rest g = let eq = same q e.0 is in omega (arith, eq, low)
      go false is low rest g = rest g

  equal : (k : ℕ) → is_eq (nat_cmp k k) ≡ true
  equal k = (eq_by_cmp_equiv nat_cmp_total).refl k

  head-found : (e : Entry) (es : List Entry) → find nat_cmp e.0 (e ∷ es) ≡ Some e.1
  head-found e es = ap (λ b. cond b (Some e.1) (find nat_cmp e.0 es)) (equal e.0)

  later-found : (e : Entry) (es : List Entry) (k : ℕ) (v : Running) → e.0 < k → find nat_cmp k es ≡ Some v → find nat_cmp k (e ∷ es) ≡ Some v
  later-found e es k v low f = go (is_eq (nat_cmp k e.0)) refl where
    go : (b : Bool) → is_eq (nat_cmp k e.0) ≡ b → cond b (Some e.1) (find nat_cmp k es) ≡ Some v
    go true is = absurd (let eq = same k e.0 is in omega (arith, eq, low))
    go false is = f

  -- the first of those that are chosen has the least number
  least : (es : List Entry) → T (is_sorted nat_cmp es) → ((k : ℕ) (v : Running) → find nat_cmp k es ≡ Some v → k ≡ key v) → (p : Place) (c : ℕ) (more : List (Place × ℕ)) → chosen es ≡ (p, c) ∷ more
      → (q : ℕ) (r : Running) → find nat_cmp q es ≡ Some r → free r ≡ true → own (at r) ≡ true → seat p c ≤ q
  least [] sorted keyed p c more is q r f is_free is_own_ = absurd (let bad : None ≡ Some r = f in cc)
  least (e ∷ es) sorted keyed p c more is q r f is_free is_own_ =
      let parts = both (below_all nat_cmp e.0 es) (is_sorted nat_cmp es) sorted in
      go (free e.1) refl (λ i g. least es parts.1 (λ k v h. keyed k v (later-found e es k v (above e.0 k v es parts.0 h) h)) p c more i q r g is_free is_own_)
      (λ g. above e.0 q r es parts.0 g) (keyed e.0 e.1 (head-found e es)) (is_eq (nat_cmp q e.0)) refl f is
    where
      first : (x y : Place × ℕ) (xs ys : List (Place × ℕ)) → x ∷ xs ≡ y ∷ ys → x ≡ y
      first x y xs ys h = cc

      some-is : (a b : Running) → Some a ≡ Some b → a ≡ b
      some-is a b h = cc

      -- it is the head, or behind it
      mine : key e.1 ≡ e.0 → (p, c) ≡ at e.1 → (e.0 ≤ q) → seat p c ≤ q
      mine k is_ low = let s : seat p c ≡ key e.1 = ap (λ (z : Place × ℕ). seat z.0 z.1) is_ in omega (arith, s, k, low)

      owned : (o : Bool) → own (at e.1) ≡ o → (chosen es ≡ (p, c) ∷ more → find nat_cmp q es ≡ Some r → seat p c ≤ q) → (find nat_cmp q es ≡ Some r → e.0 < q) → e.0 ≡ key e.1 → (b : Bool) → is_eq (nat_cmp q e.0) ≡ b
          → cond b (Some e.1) (find nat_cmp q es) ≡ Some r → cond o (at e.1 ∷ chosen es) (chosen es) ≡ (p, c) ∷ more → seat p c ≤ q
      owned true o rest late k true b g i = let eq = same q e.0 b in mine (sym k) (sym (first (at e.1) (p, c) (chosen es) more i)) (omega (arith, eq))
      owned true o rest late k false b g i = let low = late g in mine (sym k) (sym (first (at e.1) (p, c) (chosen es) more i)) (omega (arith, low))
      owned false o rest late k true b g i = absurd (both_ways (own (at e.1)) o (ap (λ (x : Running). own (at x)) (some-is e.1 r g) ∙ is_own_))
      owned false o rest late k false b g i = rest i g

      go : (t : Bool) → free e.1 ≡ t → (chosen es ≡ (p, c) ∷ more → find nat_cmp q es ≡ Some r → seat p c ≤ q) → (find nat_cmp q es ≡ Some r → e.0 < q) → e.0 ≡ key e.1 → (b : Bool) → is_eq (nat_cmp q e.0) ≡ b
          → cond b (Some e.1) (find nat_cmp q es) ≡ Some r → filter own (map at (cond t (e.1 ∷ filter free (map (λ (x : Entry). x.1) es)) (filter free (map (λ (x : Entry). x.1) es)))) ≡ (p, c) ∷ more → seat p c ≤ q
      go true t rest late k b is_b g i = owned (own (at e.1)) refl rest late k b is_b g i
      go false t rest late k true is_b g i = absurd (both_ways (free e.1) t (ap free (some-is e.1 r g) ∙ is_free))
      go false t rest late k false is_b g i = rest i g

-- ---- the agenda

module _ (d : Dispatcher) (J : List Rec) (all : AllByRecursion NamesSeat J) (p : Place) (c : ℕ) (more : List (Place × ℕ)) (is : filter is_own_seat (due d (agenda_of J)) ≡ (p, c) ∷ more) where
  -- it is due
  pub first-due : IsDue d J (p, c)
  first-due = (subst (AllByRecursion (IsDue d J)) is (all-filter is_own_seat (IsDue d J) (due d (agenda_of J)) (timers_are_listed d J all))).0

  -- and no other at a seat before it
  pub no-sooner : (q : Place) (e : ℕ) (kind : TimerKind) → IsSeated q e → is_own_at q e ≡ true → is_running J q e kind ≡ true → stalled_at q d.books.line e ≡ false → seat p c ≤ seat q e
  no-sooner q e kind seated own run free = go (get (agenda_of J).running (seat q e)) refl (timers_are_told J q e kind all seated ∙ run) where
    go : (o : Option Running) → get (agenda_of J).running (seat q e) ≡ o → runs kind (kinds_of o) ≡ true → seat p c ≤ seat q e
    go None f t = absurd (both_ways (runs kind no_kinds) (none-told kind) t)
    go (Some r) f t =
        let same_ = one_seat r.place q r.c e (kept_is_seated J all (seat q e) r f) seated (sym (nothing_idle J (seat q e) r f).0) in
        let m = (agenda_of J).running in
        let here : is_stalled d r ≡ false = (λ i. stalled_at (same_.0 i) d.books.line (same_.1 i)) ∙ free in
        least (λ r. not (is_stalled d r)) is_own_seat (entries m) (entries_sorted m) (λ k v h. (nothing_idle J k v (get-entries m k ∙ h)).0) p c more is (seat q e) r (sym (get-entries m (seat q e)) ∙ f)
        (ap not here) ((λ i. is_own_at (same_.0 i) (same_.1 i)) ∙ own)
