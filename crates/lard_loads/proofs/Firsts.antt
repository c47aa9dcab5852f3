-- The first of the nodes that pass a test.
use Rattle.std.proofs.Common.{◌≡◌, ℕ, zero, suc, ◌+◌, ◌<◌, ◌≤◌, Bool, true, false, cond, ◌&&◌, ◌||◌, nat_lt, nat_eq, List, [], ◌∷◌, length, Option, Some, None, is_some, refl, sym, ap, subst, ◌∙◌, ◌⊎◌, inl, inr, ⊎_elim, arith}
use Rattle.std.proofs.lemmas.Bool.{cases_eq, false≢true}
use Rattle.std.proofs.lemmas.Bool.Decides.{nat_tests}
use Rattle.std.specs.List.{filter, list_any, range_with_len}
use Rattle.lard_loads.specs.Order.{earlier, first_in, is_before}
use Rattle.lard_loads.specs.Tally.{numbers}

abbrev pub IsIn : ℕ → List ℕ → Type 0
IsIn n [] = ⊥
IsIn n (x ∷ xs) = (x ≡ n) ⊎ IsIn n xs

-- ---- numbers that pass a test

pub in_filter : (test : ℕ → Bool) (n : ℕ) (xs : List ℕ) → test n ≡ true → IsIn n xs → IsIn n (filter test xs)
in_filter test n [] t h = h
in_filter test n (x ∷ xs) t h = go (in_filter test n xs t) (test x) refl where
  go : (IsIn n xs → IsIn n (filter test xs)) → (b : Bool) → test x ≡ b → IsIn n (cond b (x ∷ filter test xs) (filter test xs))
  go more true e = ⊎_elim (λ k. inl k) (λ k. inr (more k)) h
  go more false e = ⊎_elim (λ k. absurd (false≢true (sym e ∙ ap test k ∙ t))) more h

pub from_filter : (test : ℕ → Bool) (n : ℕ) (xs : List ℕ) → IsIn n (filter test xs) → (test n ≡ true) × IsIn n xs
from_filter test n [] h = absurd h
from_filter test n (x ∷ xs) h = go (from_filter test n xs) (test x) refl h where
  go : (IsIn n (filter test xs) → (test n ≡ true) × IsIn n xs) → (b : Bool) → test x ≡ b → IsIn n (cond b (x ∷ filter test xs) (filter test xs)) → (test n ≡ true) × IsIn n (x ∷ xs)
  go more true e k = ⊎_elim (λ f. (sym (ap test f) ∙ e, inl f)) (λ f. let r = more f in (r.0, inr r.1)) k
  go more false e k = let r = more k in (r.0, inr r.1)

pub in_range : (a k n : ℕ) → a ≤ n → n < a + k → IsIn n (range_with_len a k)
in_range a zero n low high = absurd (omega (arith, low, high))
in_range a (suc k) n low high = ⊎_elim (λ e. inl e) (λ f. inr (in_range (a + 1) k n (omega (arith, low, f)) (omega (arith, high)))) (cases_eq a n)

pub from_range : (a k n : ℕ) → IsIn n (range_with_len a k) → (a ≤ n) × (n < a + k)
from_range a zero n h = absurd h
from_range a (suc k) n h = ⊎_elim (λ e. (omega (arith, e), omega (arith, e))) (λ f. let r = from_range (a + 1) k n f in let low = r.0 in let high = r.1 in (omega (arith, low), omega (arith, high))) h

-- ---- the first of a list

module _ (before : ℕ → ℕ → Bool) where
  pub first-is_in : (xs : List ℕ) (m : ℕ) → first_in before xs ≡ Some m → IsIn m xs
  first-is_in [] m e = absurd cc
  first-is_in (x ∷ xs) m e = go (first-is_in xs m) (first_in before xs) refl e where
    pick : (first_in before xs ≡ Some m → IsIn m xs) → (y : ℕ) → first_in before xs ≡ Some y → (b : Bool) → Some (cond b y x) ≡ Some m → IsIn m (x ∷ xs)
    pick more y f true k = inr (more (f ∙ k))
    pick more y f false k = inl (let l : x ≡ m = cc in l)

    go : (first_in before xs ≡ Some m → IsIn m xs) → (o : Option ℕ) → first_in before xs ≡ o → Some (earlier before x o) ≡ Some m → IsIn m (x ∷ xs)
    go more None f h = inl (let k : x ≡ m = cc in k)
    go more (Some y) f h = pick more y f (before y x) h

-- ---- what a first node is

no_first : (before : ℕ → ℕ → Bool) (xs : List ℕ) → first_in before xs ≡ None → xs ≡ []
no_first before [] e = refl
no_first before (x ∷ xs) e = absurd cc

or_false : (b : Bool) → (b || false) ≡ b
or_false true = refl
or_false false = refl

-- of two loads the lesser is below a bound where either is
less : (x y m n units : ℕ) → (nat_lt x y || (nat_eq x y && nat_lt m n)) ≡ true → (nat_lt y units || nat_lt x units) ≡ nat_lt x units
less x y m n units h = grind (arith, nat_tests, h)

more : (x y m n units : ℕ) → (nat_lt x y || (nat_eq x y && nat_lt m n)) ≡ false → (nat_lt y units || nat_lt x units) ≡ nat_lt y units
more x y m n units h = grind (arith, nat_tests, h)

or_right : (b d : Bool) → d ≡ true → (b || d) ≡ true
or_right true d e = refl
or_right false d e = e

in_any : (n : ℕ) (xs : List ℕ) → IsIn n xs → list_any (nat_eq n) xs ≡ true
in_any n [] h = absurd h
in_any n (x ∷ xs) h = ⊎_elim
    (λ e. ap (λ b. b || list_any (nat_eq n) xs) (let f : nat_eq n x ≡ true = grind (arith, nat_tests, e) in f))
    (λ k. or_right (nat_eq n x) (list_any (nat_eq n) xs) (in_any n xs k)) h

any_in : (n : ℕ) (xs : List ℕ) → list_any (nat_eq n) xs ≡ true → IsIn n xs
any_in n [] h = absurd (false≢true h)
any_in n (x ∷ xs) h = go (any_in n xs) (nat_eq n x) refl h where
  go : (list_any (nat_eq n) xs ≡ true → IsIn n xs) → (b : Bool) → nat_eq n x ≡ b → (b || list_any (nat_eq n) xs) ≡ true → IsIn n (x ∷ xs)
  go rest true e k = inl (let same : x ≡ n = grind (arith, nat_tests, e) in same)
  go rest false e k = inr (rest k)

-- orders that agree on a list have one first
pub first-agree : (before other : ℕ → ℕ → Bool) (xs : List ℕ) → ((n m : ℕ) → IsIn n xs → IsIn m xs → before n m ≡ other n m) → first_in before xs ≡ first_in other xs
first-agree before other [] same = refl
first-agree before other (x ∷ xs) same =
    go (first_in before xs) refl ∙ ap (λ o. Some (earlier other x o)) (first-agree before other xs (λ n m h k. same n m (inr h) (inr k))) where
      go : (o : Option ℕ) → first_in before xs ≡ o → Some (earlier before x o) ≡ Some (earlier other x o)
      go None e = refl
      go (Some m) e = ap (λ b. Some (cond b m x)) (same m x (inr (first-is_in before xs m e)) (inl refl))

-- the first of the nodes that pass a test passes it, and is one of them
pub first_passes : (before : ℕ → ℕ → Bool) (test : ℕ → Bool) (nodes n : ℕ) → first_in before (filter test (numbers nodes)) ≡ Some n → (1 ≤ n) × (n ≤ nodes) × (test n ≡ true)
first_passes before test nodes n e =
    let passes = from_filter test n (numbers nodes) (first-is_in before (filter test (numbers nodes)) n e) in
    let range = from_range 1 nodes n passes.1 in
    (range.0, (let h = range.1 in omega (arith, h)), passes.0)

-- a list that is not empty has a first
pub has_first : (before : ℕ → ℕ → Bool) (xs : List ℕ) → 0 < length xs → is_some (first_in before xs) ≡ true
has_first before [] h = absurd (omega (arith, h))
has_first before (x ∷ xs) h = refl

-- ---- some node passes a test

pub any-first : (before : ℕ → ℕ → Bool) (test : ℕ → Bool) (xs : List ℕ) → list_any test xs ≡ is_some (first_in before (filter test xs))
any-first before test [] = refl
any-first before test (x ∷ xs) = go (any-first before test xs) (test x) where
  go : list_any test xs ≡ is_some (first_in before (filter test xs)) → (b : Bool) → (b || list_any test xs) ≡ is_some (first_in before (cond b (x ∷ filter test xs) (filter test xs)))
  go rest true = refl
  go rest false = rest

pub any-length : (test : ℕ → Bool) (xs : List ℕ) → list_any test xs ≡ true → 0 < length (filter test xs)
any-length test xs h = go (filter test xs) (sym (any-first (λ n m. true) test xs) ∙ h) where
  go : (ys : List ℕ) → is_some (first_in (λ n m. true) ys) ≡ true → 0 < length ys
  go [] k = absurd (false≢true k)
  go (y ∷ ys) k = omega arith

-- the least loaded is below a bound where any is
pub any-least : (load : ℕ → ℕ) (units : ℕ) (xs : List ℕ) (n : ℕ) → first_in (is_before load) xs ≡ Some n → list_any (λ m. nat_lt (load m) units) xs ≡ nat_lt (load n) units
any-least load units [] n e = absurd cc
any-least load units (x ∷ xs) n e = go (any-least load units xs) (first_in (is_before load) xs) refl e where
  both : (m : ℕ) (b : Bool) → is_before load m x ≡ b → Some (cond b m x) ≡ Some n → (nat_lt (load x) units || nat_lt (load m) units) ≡ nat_lt (load n) units
  both m true f h = let same : m ≡ n = cc in subst (λ k. (nat_lt (load x) units || nat_lt (load m) units) ≡ nat_lt (load k) units) same (less (load m) (load x) m x units f)
  both m false f h = let same : x ≡ n = cc in subst (λ k. (nat_lt (load x) units || nat_lt (load m) units) ≡ nat_lt (load k) units) same (more (load m) (load x) m x units f)

  go : ((m : ℕ) → first_in (is_before load) xs ≡ Some m → list_any (λ k. nat_lt (load k) units) xs ≡ nat_lt (load m) units)
      → (o : Option ℕ) → first_in (is_before load) xs ≡ o → Some (earlier (is_before load) x o) ≡ Some n → (nat_lt (load x) units || list_any (λ m. nat_lt (load m) units) xs) ≡ nat_lt (load n) units
  go rest None f h =
      let same : x ≡ n = cc in
      ap (λ ys. nat_lt (load x) units || list_any (λ m. nat_lt (load m) units) ys) (no_first (is_before load) xs f) ∙ or_false (nat_lt (load x) units) ∙ ap (λ k. nat_lt (load k) units) same
  go rest (Some m) f h = ap (λ b. nat_lt (load x) units || b) (rest m f) ∙ both m (is_before load m x) refl h

-- ---- tests one after the other

pub filter-both : (p q r : ℕ → Bool) (xs : List ℕ) → ((n : ℕ) → IsIn n xs → p n ≡ (q n && r n)) → filter p xs ≡ filter q (filter r xs)
filter-both p q r [] same = refl
filter-both p q r (x ∷ xs) same =
    ap (λ b. cond b (x ∷ filter p xs) (filter p xs)) (same x (inl refl)) ∙ ap (λ ys. cond (q x && r x) (x ∷ ys) ys) (filter-both p q r xs (λ n h. same n (inr h))) ∙ go (q x) (r x) refl where
      go : (a b : Bool) → q x ≡ a → cond (a && b) (x ∷ filter q (filter r xs)) (filter q (filter r xs)) ≡ filter q (cond b (x ∷ filter r xs) (filter r xs))
      go true true e = sym (ap (λ c. cond c (x ∷ filter q (filter r xs)) (filter q (filter r xs))) e)
      go true false e = refl
      go false true e = sym (ap (λ c. cond c (x ∷ filter q (filter r xs)) (filter q (filter r xs))) e)
      go false false e = refl

pub filter-all : (p : ℕ → Bool) (xs : List ℕ) → ((n : ℕ) → IsIn n xs → p n ≡ true) → filter p xs ≡ xs
filter-all p [] all = refl
filter-all p (x ∷ xs) all = ap (λ b. cond b (x ∷ filter p xs) (filter p xs)) (all x (inl refl)) ∙ ap (λ ys. x ∷ ys) (filter-all p xs (λ n h. all n (inr h)))

-- a number is among those that pass where it passes
pub any-filter : (p : ℕ → Bool) (n : ℕ) (xs : List ℕ) → IsIn n xs → list_any (nat_eq n) (filter p xs) ≡ p n
any-filter p n xs h = go (p n) refl where
  none : p n ≡ false → (b : Bool) → list_any (nat_eq n) (filter p xs) ≡ b → b ≡ false
  none e true f = absurd (false≢true (sym e ∙ (from_filter p n xs (any_in n (filter p xs) f)).0))
  none e false f = refl

  go : (b : Bool) → p n ≡ b → list_any (nat_eq n) (filter p xs) ≡ b
  go true e = in_any n (filter p xs) (in_filter p n xs e h)
  go false e = none e (list_any (nat_eq n) (filter p xs)) refl

pub none-filter : (p : ℕ → Bool) (n : ℕ) (xs : List ℕ) → (IsIn n xs → ⊥) → list_any (nat_eq n) (filter p xs) ≡ false
none-filter p n xs out = go (list_any (nat_eq n) (filter p xs)) refl where
  go : (b : Bool) → list_any (nat_eq n) (filter p xs) ≡ b → b ≡ false
  go true e = absurd (out (from_filter p n xs (any_in n (filter p xs) e)).1)
  go false e = refl
