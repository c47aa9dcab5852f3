-- Few timers run: six at each seat at most, and seats are found by numbers that rise.
use Rattle.std.proofs.Common.{◌≡◌, ◌≤◌, ◌<◌, ℕ, ◌+◌, ◌-◌, ◌*◌, ◌^◌, Bool, true, false, cond, not, List, [], ◌∷◌, map, length, Some, refl, arith}
use Rattle.std.proofs.lemmas.Bool.Decides.{nat_tests}
use Rattle.std.proofs.lemmas.List.{length-map}
use Rattle.std.specs.FinMap.{FinMap, entries, entries_sorted, get, is_sorted}
use Rattle.std.specs.FinMap.Entries.{below_all}
use Rattle.std.specs.List.{AllByRecursion, filter}
use Rattle.std.specs.Ordering.{is_lt, nat_cmp}
use lib.Dec.{T}
use Rattle.lard_agenda.specs.declared.kinds.Kinds.{Kinds}
use Rattle.lard_agenda.specs.declared.kinds.Running.{Running}
use Rattle.lard_agenda.specs.Agenda.{agenda_of, is_stalled, kinds_in}
use Rattle.lard_agenda.specs.Kinds.{how_many, one_if}
use Rattle.lard_agenda.specs.Laws.{AgendasTellFewTimers}
use Rattle.lard_agenda.proofs.Kept.{kept_is_low}
use Rattle.lard_agenda.proofs.Listed.{both, each_entry}

-- ---- at a seat

one-few : (on : Bool) → one_if on ≤ 1
one-few true = omega arith
one-few false = omega arith

kinds-few : (k : Kinds) → how_many k ≤ 6
kinds-few k =
    let a = one-few k.tcp in
    let b = one-few k.offer in
    let c = one-few k.ask in
    let d = one-few k.fetch in
    let e = one-few k.ended in
    let f = one-few k.give in
    omega (arith, a, b, c, d, e, f)

all-few : (rs : List Running) → kinds_in rs ≤ 6 * length rs
all-few [] = omega arith
all-few (r ∷ rs) = let one = kinds-few r.kinds in let more = all-few rs in omega (arith, one, more)

-- no more are chosen than there are
chosen-few : {X : Type 0} (test : X → Bool) (xs : List X) → length (filter test xs) ≤ length xs
chosen-few test [] = omega arith
chosen-few test (x ∷ xs) = go (test x) (chosen-few test xs) where
  go : (b : Bool) → length (filter test xs) ≤ length xs → length (cond b (x ∷ filter test xs) (filter test xs)) ≤ length (x ∷ xs)
  go true more = omega (arith, more)
  go false more = omega (arith, more)

-- ---- seats

-- a test that holds
holds : (b : Bool) → T b → b ≡ true
holds true t = refl
holds false t = absurd t

module _ {X : Type 0} where
  -- a number below all others
  above : (k : ℕ) (es : List (ℕ × X)) → T (below_all nat_cmp k es) → AllByRecursion (λ (e : ℕ × X). k < e.0) es
  above k [] below = tt
  above k (e ∷ es) below =
      let parts = both (is_lt (nat_cmp k e.0)) (below_all nat_cmp k es) below in
      let less = holds (is_lt (nat_cmp k e.0)) parts.0 in
      (grind (arith, nat_tests, less), above k es parts.1)

  -- numbers that rise, from one on and below another
  rising-few : (low high : ℕ) (es : List (ℕ × X)) → low ≤ high → T (is_sorted nat_cmp es) → AllByRecursion (λ (e : ℕ × X). low ≤ e.0) es → AllByRecursion (λ (e : ℕ × X). e.0 < high) es → length es ≤ high - low
  rising-few low high [] le sorted from below = omega arith
  rising-few low high (e ∷ es) le sorted from below =
      let parts = both (below_all nat_cmp e.0 es) (is_sorted nat_cmp es) sorted in
      let first = from.0 in
      let last = below.0 in
      let more = rising-few (e.0 + 1) high es (omega (arith, last)) parts.1 (all-next e.0 es (above e.0 es parts.0)) below.1 in
      omega (arith, first, last, more) where
        all-next : (k : ℕ) (es : List (ℕ × X)) → AllByRecursion (λ (e : ℕ × X). k < e.0) es → AllByRecursion (λ (e : ℕ × X). k + 1 ≤ e.0) es
        all-next k [] h = tt
        all-next k (e ∷ es) h = let one = h.0 in (omega (arith, one), all-next k es h.1)

  from-zero : (es : List (ℕ × X)) → AllByRecursion (λ (e : ℕ × X). 0 ≤ e.0) es
  from-zero [] = tt
  from-zero (e ∷ es) = (omega arith, from-zero es)

  pub entries-few : (high : ℕ) (m : FinMap nat_cmp X) → ((q : ℕ) (v : X) → get m q ≡ Some v → q < high) → length (entries m) ≤ high
  entries-few high m h = let few = rising-few 0 high (entries m) (omega arith) (entries_sorted m) (from-zero (entries m)) (each_entry (λ (e : ℕ × X). e.0 < high) m h) in omega (arith, few)

pub few_timers : AgendasTellFewTimers
few_timers d J all =
    let running : FinMap nat_cmp Running = (agenda_of J).running in
    let values : List Running = map (λ (e : ℕ × Running). e.1) (entries running) in
    let seats = entries-few (2 ^ 32) running (kept_is_low J all) in
    let same = length-map (entries running) (λ (e : ℕ × Running). e.1) in
    let free = chosen-few (λ (r : Running). not (is_stalled d r)) values in
    let kinds = all-few (filter (λ (r : Running). not (is_stalled d r)) values) in
    omega (arith, seats, same, free, kinds)
