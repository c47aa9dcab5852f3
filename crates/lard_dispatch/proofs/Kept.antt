-- The line by its arrivals.
use Rattle.std.proofs.Common.{replicate, ◌⊎◌, inl, inr, nat_lt, ◌≡◌, ◌≢◌, ℕ, zero, suc, ◌+◌, ◌-◌, ◌<◌, ◌≤◌, Bool, true, false, not, ◌==◌, ◌||◌, List, [], ◌∷◌, ◌++◌, length, map, slice_index, slice_set, Option, Some, is_some, cond, refl, sym, ap, subst, ◌∙◌, arith}
use Rattle.std.proofs.lemmas.Bool.{cond-true, cond-false, both_ways, eqb-true, eq-eqb, ltb-true, le-ltb, ne_eqb}
use Rattle.std.proofs.lemmas.Bool.Decides.{eqb_tells}
use Rattle.std.proofs.lemmas.List.{get_or-set_same, get_or-set_other, length-set, length-replicate}
use Rattle.std.proofs.lemmas.Map.Keys.{sorted_head, sorted_tail}
use Rattle.std.specs.List.{AllByRecursion}
use Rattle.std.specs.List.Sorted.{IsStrictlySortedBy}
use Rattle.std.specs.Map.{lookup, remove_entry}
use Rattle.std.specs.BTreeMap.{is_at, insert_entry}
use Rattle.std.specs.Ordering.{nat_cmp, is_eq, match_ordering}
use Rattle.std.specs.declared.cmp.Ordering.{Ordering}
use Rattle.std.specs.declared.cmp.Ordering.TheVariants.{Less, Equal, Greater}
use Rattle.lard_dispatch.specs.declared.line.Waiting.{Waiting}
use Rattle.lard_dispatch.specs.Line.{arrival_of, is_of, line_waits, line_without, who, IsFoundByArrival, IsLineKept}

abbrev pub Entry : Type 0
Entry = ℕ × Waiting

-- an arrival is sought by its number
eq-cmp : (x y : ℕ) → is_eq (nat_cmp x y) ≡ (x == y)
eq-cmp x y = go (nat_lt x y) (x == y) refl refl where
  go : (a b : Bool) → nat_lt x y ≡ a → (x == y) ≡ b → is_eq (cond a Less (cond b Equal Greater)) ≡ b
  go true true p q = absurd (omega (arith, ltb-true x y p, eqb-true x y q))
  go true false p q = refl
  go false true p q = refl
  go false false p q = refl

bool-same : (a b : Bool) → (a ≡ true → b ≡ true) → (b ≡ true → a ≡ true) → a ≡ b
bool-same true b f g = sym (f refl)
bool-same false true f g = g refl
bool-same false false f g = refl

-- an entry is under the arrival of a connection exactly where it is of the connection
abbrev pub IsSame : List ℕ → ℕ → Entry → Type 0
IsSame arrivals c e = is_at (nat_cmp (arrival_of arrivals c)) e.0 ≡ is_of c e.1

abbrev pub AreApart : List ℕ → Type 0
AreApart arrivals = (j k : ℕ) → slice_index arrivals j ≡ slice_index arrivals k → 1 ≤ slice_index arrivals j → j ≡ k

found-same : (arrivals : List ℕ) (next c : ℕ) (e : Entry) → AreApart arrivals → 1 ≤ c → IsFoundByArrival arrivals next e → IsSame arrivals c e
found-same arrivals next c e apart some f =
    eq-cmp (arrival_of arrivals c) e.0
    ∙ bool-same (arrival_of arrivals c == e.0) (e.1.c == c)
    (λ t.
    let same : arrival_of arrivals c ≡ e.0 = eqb-true (arrival_of arrivals c) e.0 t in
    let place : e.1.c - 1 ≡ c - 1 = apart (e.1.c - 1) (c - 1) (f.3 ∙ sym same) (omega (arith, f.1, f.3)) in
    eq-eqb e.1.c c (omega (arith, place, f.0, some)))
    (λ t. eq-eqb (arrival_of arrivals c) e.0 (ap (arrival_of arrivals) (sym (eqb-true e.1.c c t)) ∙ f.3))

all-same : (arrivals : List ℕ) (next c : ℕ) (es : List Entry) → AreApart arrivals → 1 ≤ c → AllByRecursion (IsFoundByArrival arrivals next) es → AllByRecursion (IsSame arrivals c) es
all-same arrivals next c [] apart some all = tt
all-same arrivals next c (e ∷ es) apart some all = (found-same arrivals next c e apart some all.0, all-same arrivals next c es apart some all.1)

-- who waits is found by the arrival
any-found : (arrivals : List ℕ) (c : ℕ) (es : List Entry) → AllByRecursion (IsSame arrivals c) es → is_some (lookup (is_at (nat_cmp (arrival_of arrivals c))) es) ≡ line_waits (who es) c
any-found arrivals c [] all = refl
any-found arrivals c (e ∷ es) all = go (is_at (nat_cmp (arrival_of arrivals c)) e.0) (is_of c e.1) all.0 (any-found arrivals c es all.1) where
  go : (a b : Bool) → a ≡ b → is_some (lookup (is_at (nat_cmp (arrival_of arrivals c))) es) ≡ line_waits (who es) c
      → is_some (cond {A = Option Waiting} a (Some e.1) (lookup (is_at (nat_cmp (arrival_of arrivals c))) es)) ≡ (b || line_waits (who es) c)
  go true true s h = refl
  go true false s h = cc
  go false true s h = cc
  go false false s h = h

pub waits-found : (es : List Entry) (arrivals : List ℕ) (next c : ℕ) → IsLineKept es arrivals next → 1 ≤ c → is_some (lookup (is_at (nat_cmp (arrival_of arrivals c))) es) ≡ line_waits (who es) c
waits-found es arrivals next c k some = any-found arrivals c es (all-same arrivals next c es k.apart some k.found)

-- ---- who is left

abbrev pub keys : List Entry → List ℕ
keys es = map (λ e. e.0) es

-- it is left, and of another connection
abbrev pub IsLeft : List ℕ → ℕ → ℕ → Entry → Type 0
IsLeft arrivals next c e = (is_of c e.1 ≡ false) × IsFoundByArrival arrivals next e

-- behind an entry of a connection there is no other of it
none-after : (arrivals : List ℕ) (next c a : ℕ) (es : List Entry) → arrival_of arrivals c ≡ a → AllByRecursion (λ y. nat_cmp a y ≡ Less) (keys es)
    → AllByRecursion (IsFoundByArrival arrivals next) es → AllByRecursion (IsSame arrivals c) es → AllByRecursion (IsLeft arrivals next c) es
none-after arrivals next c a [] at below found same = tt
none-after arrivals next c a (e ∷ es) at below found same =
    ((sym same.0 ∙ ap (λ (x : ℕ). is_eq (nat_cmp x e.0)) at ∙ ap is_eq below.0, found.0), none-after arrivals next c a es at below.1 found.1 same.1)

-- where none is of the connection, all are left
all-left : (arrivals : List ℕ) (next c : ℕ) (es : List Entry) → AllByRecursion (IsLeft arrivals next c) es → line_without (who es) c ≡ who es
all-left arrivals next c [] all = refl
all-left arrivals next c (e ∷ es) all =
    cond-true (not (is_of c e.1)) _ _ (ap not all.0.0) ∙ ap (λ (ws : List Waiting). e.1 ∷ ws) (all-left arrivals next c es all.1)

-- what is left of the entries once the arrival of a connection is taken out
pub record IsRest (arrivals : List ℕ) (next c : ℕ) (es rest : List Entry) : Type 0 where
  pub line : who rest ≡ line_without (who es) c
  pub left : AllByRecursion (IsLeft arrivals next c) rest

rest-is : (arrivals : List ℕ) (next c : ℕ) (es : List Entry) → IsStrictlySortedBy nat_cmp (keys es) → AllByRecursion (IsFoundByArrival arrivals next) es → AllByRecursion (IsSame arrivals c) es
    → IsRest arrivals next c es (remove_entry (is_at (nat_cmp (arrival_of arrivals c))) es)
rest-is arrivals next c [] sorted found same = record { line = refl; left = tt }
rest-is arrivals next c (e ∷ es) sorted found same =
    go (is_at (nat_cmp (arrival_of arrivals c)) e.0) (is_of c e.1) refl same.0 refl (rest-is arrivals next c es (sorted_tail nat_cmp e.0 (keys es) sorted) found.1 same.1) where
      go : (a b : Bool) → is_at (nat_cmp (arrival_of arrivals c)) e.0 ≡ a → a ≡ b → is_of c e.1 ≡ b
          → IsRest arrivals next c es (remove_entry (is_at (nat_cmp (arrival_of arrivals c))) es)
          → IsRest arrivals next c (e ∷ es) (cond a es (e ∷ remove_entry (is_at (nat_cmp (arrival_of arrivals c))) es))
      go true true t s u more =
          let at : arrival_of arrivals c ≡ e.0 = eqb-true (arrival_of arrivals c) e.0 (sym (eq-cmp (arrival_of arrivals c) e.0) ∙ t) in
          let left : AllByRecursion (IsLeft arrivals next c) es = none-after arrivals next c e.0 es at (sorted_head nat_cmp e.0 (keys es) sorted) found.1 same.1 in
          record {
            line = sym (all-left arrivals next c es left) ∙ sym (cond-false (not (is_of c e.1)) (e.1 ∷ line_without (who es) c) (line_without (who es) c) (ap not u));
            left = left;
          }
      go true false t s u more = cc
      go false true t s u more = cc
      go false false t s u more = record {
        line = ap (λ (ws : List Waiting). e.1 ∷ ws) more.line ∙ sym (cond-true (not (is_of c e.1)) (e.1 ∷ line_without (who es) c) (line_without (who es) c) (ap not u));
        left = ((u, found.0), more.left);
      }

-- ---- the arrivals with one changed

-- the arrivals of others are as they were
all-kept : (arrivals : List ℕ) (next later c v : ℕ) (es : List Entry) → 1 ≤ c → next ≤ later → AllByRecursion (IsLeft arrivals next c) es → AllByRecursion (IsFoundByArrival (slice_set arrivals (c - 1) v) later) es
all-kept arrivals next later c v [] some le all = tt
all-kept arrivals next later c v (e ∷ es) some le all =
    let f : IsFoundByArrival arrivals next e = all.0.1 in
    let other : e.1.c - 1 ≢ c - 1 = λ same. both_ways (e.1.c == c) all.0.0 (eq-eqb e.1.c c (omega (arith, same, f.0, some))) in
    ((f.0, f.1, omega (arith, f.2, le), get_or-set_other arrivals (c - 1) (e.1.c - 1) v 0 other ∙ f.3), all-kept arrivals next later c v es some le all.1)

-- one that left has no arrival
cleared-before : (arrivals : List ℕ) (next p : ℕ) → p < length arrivals → 1 ≤ next → ((k : ℕ) → slice_index arrivals k < next) → (k : ℕ) → slice_index (slice_set arrivals p 0) k < next
cleared-before arrivals next p within begun before k = go (k == p) refl where
  go : (b : Bool) → (k == p) ≡ b → slice_index (slice_set arrivals p 0) k < next
  go true t =
      let z : slice_index (slice_set arrivals p 0) k ≡ 0 = ap (slice_index (slice_set arrivals p 0)) (eqb-true k p t) ∙ get_or-set_same arrivals p 0 0 within in
      omega (arith, z, begun)
  go false t =
      let z : slice_index (slice_set arrivals p 0) k ≡ slice_index arrivals k = get_or-set_other arrivals p k 0 0 (λ e. both_ways (k == p) t (eq-eqb k p e)) in
      omega (arith, z, before k)

cleared-at : (arrivals : List ℕ) (p k : ℕ) → p < length arrivals → 1 ≤ slice_index (slice_set arrivals p 0) k → slice_index (slice_set arrivals p 0) k ≡ slice_index arrivals k
cleared-at arrivals p k within some = get_or-set_other arrivals p k 0 0 (λ e.
    let z : slice_index (slice_set arrivals p 0) k ≡ 0 = ap (slice_index (slice_set arrivals p 0)) e ∙ get_or-set_same arrivals p 0 0 within in
    omega (arith, z, some))

cleared-apart : (arrivals : List ℕ) (p : ℕ) → p < length arrivals → AreApart arrivals → AreApart (slice_set arrivals p 0)
cleared-apart arrivals p within apart = λ j k same some.
    let at-j : slice_index (slice_set arrivals p 0) j ≡ slice_index arrivals j = cleared-at arrivals p j within some in
    let at-k : slice_index (slice_set arrivals p 0) k ≡ slice_index arrivals k = cleared-at arrivals p k within (omega (arith, same, some)) in
    apart j k (sym at-j ∙ same ∙ at-k) (omega (arith, at-j, some))

-- a line that a connection has left
pub left-kept : (es rest : List Entry) (arrivals : List ℕ) (next c : ℕ) → IsLineKept es arrivals next → 1 ≤ c → c ≤ 16384 → IsStrictlySortedBy nat_cmp (keys rest) → AllByRecursion (IsLeft arrivals next c) rest
    → IsLineKept rest (slice_set arrivals (c - 1) 0) next
left-kept es rest arrivals next c k some few sorted left =
    let within : c - 1 < length arrivals = omega (arith, k.room, some, few) in
    record {
      room = length-set arrivals (c - 1) 0 ∙ k.room;
      begun = k.begun;
      ordered = sorted;
      found = all-kept arrivals next next c 0 rest some (omega arith) left;
      before = cleared-before arrivals next (c - 1) within k.begun k.before;
      apart = cleared-apart arrivals (c - 1) within k.apart;
    }

pub rest-of : (es : List Entry) (arrivals : List ℕ) (next c : ℕ) → IsLineKept es arrivals next → 1 ≤ c → IsRest arrivals next c es (remove_entry (is_at (nat_cmp (arrival_of arrivals c))) es)
rest-of es arrivals next c k some = rest-is arrivals next c es k.ordered k.found (all-same arrivals next c es k.apart some k.found)

-- the first of the line leaves those behind it
pub behind-first : (e : Entry) (es : List Entry) (arrivals : List ℕ) (next : ℕ) → IsLineKept (e ∷ es) arrivals next → AllByRecursion (IsLeft arrivals next e.1.c) es
behind-first e es arrivals next k =
    none-after arrivals next e.1.c e.0 es k.found.0.3 (sorted_head nat_cmp e.0 (keys es) k.ordered) k.found.1 (all-same arrivals next e.1.c es k.apart k.found.0.0 k.found.1)

-- ---- one more arrival

-- an arrival behind all others stands last
pub last-in : (es : List Entry) (arrivals : List ℕ) (next : ℕ) (w : Waiting) → AllByRecursion (IsFoundByArrival arrivals next) es → insert_entry nat_cmp es next w ≡ es ++ (next, w) ∷ []
last-in [] arrivals next w found = refl
last-in (e ∷ es) arrivals next w found =
    ap (λ (o : Ordering). match_ordering o ((next, w) ∷ e ∷ es) ((e.0, w) ∷ es) (e ∷ insert_entry nat_cmp es next w)) (above next e.0 found.0.2)
    ∙ ap (λ (xs : List Entry). e ∷ xs) (last-in es arrivals next w found.1) where
      above : (x y : ℕ) → y < x → nat_cmp x y ≡ Greater
      above x y lt = cond-false (nat_lt x y) _ _ (le-ltb x y (omega (arith, lt))) ∙ cond-false (x == y) Equal Greater (ne_eqb x y (λ e. omega (arith, e, lt)))

all-later : (arrivals : List ℕ) (next : ℕ) (c : ℕ) (es : List Entry) → 1 ≤ c → line_waits (who es) c ≡ false → AllByRecursion (IsFoundByArrival arrivals next) es → AllByRecursion (IsLeft arrivals next c) es
all-later arrivals next c [] some none found = tt
all-later arrivals next c (e ∷ es) some none found = go (λ h. all-later arrivals next c es some h found.1) (is_of c e.1) refl none where
  go : (line_waits (who es) c ≡ false → AllByRecursion (IsLeft arrivals next c) es) → (b : Bool) → is_of c e.1 ≡ b → (b || line_waits (who es) c) ≡ false → AllByRecursion (IsLeft arrivals next c) (e ∷ es)
  go more true t h = cc
  go more false t h = ((t, found.0), more h)

all-push : (P : Entry → Type 0) (e : Entry) (es : List Entry) → AllByRecursion P es → P e → AllByRecursion P (es ++ e ∷ [])
all-push P e [] all one = (one, tt)
all-push P e (x ∷ es) all one = (all.0, all-push P e es all.1 one)

set-cases : (arrivals : List ℕ) (p v k : ℕ) → p < length arrivals → ((k ≡ p) × (slice_index (slice_set arrivals p v) k ≡ v)) ⊎ ((k ≢ p) × (slice_index (slice_set arrivals p v) k ≡ slice_index arrivals k))
set-cases arrivals p v k within = elim (eqb_tells k p) [
  | inl t ↦ inl (t.1, ap (slice_index (slice_set arrivals p v)) t.1 ∙ get_or-set_same arrivals p v 0 within)
  | inr t ↦ inr (t.1, get_or-set_other arrivals p k v 0 t.1)
]

set-before : (arrivals : List ℕ) (next p : ℕ) → p < length arrivals → ((k : ℕ) → slice_index arrivals k < next) → (k : ℕ) → slice_index (slice_set arrivals p next) k < next + 1
set-before arrivals next p within before k = elim (set-cases arrivals p next k within) [
  | inl t ↦ let e = t.1 in omega (arith, e)
  | inr t ↦ let e = t.1 in omega (arith, e, before k)
]

set-apart : (arrivals : List ℕ) (next p : ℕ) → p < length arrivals → ((k : ℕ) → slice_index arrivals k < next) → AreApart arrivals → AreApart (slice_set arrivals p next)
set-apart arrivals next p within before apart = λ j k same some. elim (set-cases arrivals p next j within) [
  | inl t ↦ elim (set-cases arrivals p next k within) [
    | inl u ↦ t.0 ∙ sym u.0
    | inr u ↦ let e : slice_index arrivals k ≡ next = sym u.1 ∙ sym same ∙ t.1 in absurd (omega (arith, e, before k))
  ]
  | inr t ↦ elim (set-cases arrivals p next k within) [
    | inl u ↦ let e : slice_index arrivals j ≡ next = sym t.1 ∙ same ∙ u.1 in absurd (omega (arith, e, before j))
    | inr u ↦ apart j k (sym t.1 ∙ same ∙ u.1) (subst (λ (x : ℕ). 1 ≤ x) t.1 some)
  ]
]

-- a line with one more
pub pushed-kept : (es : List Entry) (arrivals : List ℕ) (next : ℕ) (w : Waiting) → IsLineKept es arrivals next → 1 ≤ w.c → w.c ≤ 16384 → line_waits (who es) w.c ≡ false
    → IsStrictlySortedBy nat_cmp (keys (insert_entry nat_cmp es next w)) → IsLineKept (insert_entry nat_cmp es next w) (slice_set arrivals (w.c - 1) next) (next + 1)
pushed-kept es arrivals next w k some few none sorted =
    let within : w.c - 1 < length arrivals = omega (arith, k.room, some, few) in
    let left : AllByRecursion (IsLeft arrivals next w.c) es = all-later arrivals next w.c es some none k.found in
    let own : slice_index (slice_set arrivals (w.c - 1) next) (w.c - 1) ≡ next = get_or-set_same arrivals (w.c - 1) next 0 within in
    let others : AllByRecursion (IsFoundByArrival (slice_set arrivals (w.c - 1) next) (next + 1)) es = all-kept arrivals next (next + 1) w.c next es some (omega arith) left in
    record {
      room = length-set arrivals (w.c - 1) next ∙ k.room;
      begun = omega arith;
      ordered = sorted;
      found = subst (AllByRecursion (IsFoundByArrival (slice_set arrivals (w.c - 1) next) (next + 1))) (sym (last-in es arrivals next w k.found)) (all-push (IsFoundByArrival (slice_set arrivals (w.c - 1) next) (next + 1)) (next, w) es others (some, k.begun, omega arith, own));
      before = set-before arrivals next (w.c - 1) within k.before;
      apart = set-apart arrivals next (w.c - 1) within k.before k.apart;
    }

-- the line once a connection has left it
pub left-line : (es rest : List Entry) (arrivals : List ℕ) (next c arrival : ℕ) (line : List Waiting) → IsLineKept es arrivals next → 1 ≤ c → arrival ≡ arrival_of arrivals c
    → rest ≡ remove_entry (is_at (nat_cmp arrival)) es → who es ≡ line → (who rest ≡ line_without line c) × AllByRecursion (IsLeft arrivals next c) rest
left-line es rest arrivals next c arrival line k some at is seen =
    let same : rest ≡ remove_entry (is_at (nat_cmp (arrival_of arrivals c))) es = is ∙ ap (λ (a : ℕ). remove_entry (is_at (nat_cmp a)) es) at in
    let r : IsRest arrivals next c es (remove_entry (is_at (nat_cmp (arrival_of arrivals c))) es) = rest-of es arrivals next c k some in
    (ap who same ∙ r.line ∙ ap (λ (l : List Waiting). line_without l c) seen, subst (AllByRecursion (IsLeft arrivals next c)) (sym same) r.left)

zeros : (n k : ℕ) → slice_index (replicate n 0) k ≡ 0
zeros zero k = refl
zeros (suc n) zero = refl
zeros (suc n) (suc k) = zeros n k

-- nobody waits at the start
pub nobody : (es : List Entry) (arrivals : List ℕ) (n : ℕ) → es ≡ [] → n ≡ 16384 → arrivals ≡ replicate n 0 → IsStrictlySortedBy nat_cmp (keys es) → IsLineKept es arrivals 1
nobody es arrivals n none count is sorted =
    let zero-at : (k : ℕ) → slice_index arrivals k ≡ 0 = λ k. ap (λ (xs : List ℕ). slice_index xs k) is ∙ zeros n k in
    record {
      room = ap length is ∙ length-replicate {A = ℕ} n 0 ∙ count;
      begun = omega arith;
      ordered = sorted;
      found = subst (AllByRecursion (IsFoundByArrival arrivals 1)) (sym none) tt;
      before = λ k. let z : slice_index arrivals k ≡ 0 = zero-at k in omega (arith, z);
      apart = λ j k same some. let z : slice_index arrivals j ≡ 0 = zero-at j in absurd (omega (arith, z, some));
    }
