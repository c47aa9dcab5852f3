-- The connections that are in, beside the dispatcher's books.
use Rattle.std.proofs.Common.{◌≡◌, ℕ, suc, ◌+◌, ◌-◌, ◌<◌, ◌||◌, nat_eq, not, Bool, true, false, cond, List, [], ◌∷◌, ◌++◌, length, is_some, Option, Some, None, refl, sym, ap, ◌∙◌, subst, arith, length-append}
use Rattle.std.specs.FinMap as map
use Rattle.std.specs.FinMap.{FinMap, len-insert, len-remove}
use Rattle.std.specs.List.{filter, list_any}
use Rattle.std.specs.Cmp.{nat_cmp_total}
use Rattle.std.specs.Ordering.{nat_cmp}
use Rattle.lard_history.proofs.Seeing.{by_number, other_number, same_number}
use Rattle.lard_law_view.specs.Prelude.{Standing}
use Rattle.lard_table.proofs.Map.{get_inserted, get_other, get_put_other, get_put_same, some_len}

-- ---- a list of numbers

-- how often a number stands in a list
abbrev pub count : ℕ → List ℕ → ℕ
count c [] = 0
count c (x ∷ xs) = cond (nat_eq c x) 1 0 + count c xs

abbrev pub others : ℕ → List ℕ → List ℕ
others c xs = filter (λ d. not (nat_eq c d)) xs

pub count-append : (c : ℕ) (xs ys : List ℕ) → count c (xs ++ ys) ≡ count c xs + count c ys
count-append c [] ys = omega arith
count-append c (x ∷ xs) ys = let more = count-append c xs ys in omega (arith, more)

-- all but one number
pub length-others : (c : ℕ) (xs : List ℕ) → length (others c xs) + count c xs ≡ length xs
length-others c [] = omega arith
length-others c (x ∷ xs) = go (nat_eq c x) (length-others c xs) where
  go : (b : Bool) → length (others c xs) + count c xs ≡ length xs → length (cond (not b) (x ∷ others c xs) (others c xs)) + (cond b 1 0 + count c xs) ≡ suc (length xs)
  go true h = omega (arith, h)
  go false h = omega (arith, h)

-- a number that does not stand there adds nothing
unseen : (c x n : ℕ) → nat_eq c x ≡ false → cond (nat_eq c x) 1 0 + n ≡ n
unseen c x n is = ap (λ (b : Bool). cond b 1 0 + n) is ∙ zero-less n where
  zero-less : (n : ℕ) → 0 + n ≡ n
  zero-less n = omega arith

pub none-left : (c : ℕ) (xs : List ℕ) → count c (others c xs) ≡ 0
none-left c [] = refl
none-left c (x ∷ xs) = go (nat_eq c x) refl (none-left c xs) where
  go : (b : Bool) → nat_eq c x ≡ b → count c (others c xs) ≡ 0 → count c (cond (not b) (x ∷ others c xs) (others c xs)) ≡ 0
  go true is h = h
  go false is h = unseen c x (count c (others c xs)) is ∙ h

pub others-left : (c q : ℕ) (xs : List ℕ) → (q ≡ c → ⊥) → count q (others c xs) ≡ count q xs
others-left c q [] apart = refl
others-left c q (x ∷ xs) apart = by_number (count q (others c (x ∷ xs)) ≡ count q (x ∷ xs)) c x (same (others-left c q xs apart)) (differs (others-left c q xs apart)) where
  same : count q (others c xs) ≡ count q xs → c ≡ x → count q (others c (x ∷ xs)) ≡ count q (x ∷ xs)
  same later e = ap (λ (b : Bool). count q (cond (not b) (x ∷ others c xs) (others c xs))) (ap (nat_eq c) (sym e) ∙ same_number c) ∙ later
      ∙ sym (unseen q x (count q xs) (other_number q x (λ f. apart (f ∙ sym e))))

  differs : count q (others c xs) ≡ count q xs → (c ≡ x → ⊥) → count q (others c (x ∷ xs)) ≡ count q (x ∷ xs)
  differs later n = ap (λ (b : Bool). count q (cond (not b) (x ∷ others c xs) (others c xs))) (other_number c x n) ∙ ap (λ (k : ℕ). cond (nat_eq q x) 1 0 + k) later

pub any-none : (c : ℕ) (xs : List ℕ) → count c xs ≡ 0 → list_any (nat_eq c) xs ≡ false
any-none c [] h = refl
any-none c (x ∷ xs) h = go (nat_eq c x) h (any-none c xs) where
  go : (b : Bool) → cond b 1 0 + count c xs ≡ 0 → (count c xs ≡ 0 → list_any (nat_eq c) xs ≡ false) → (b || list_any (nat_eq c) xs) ≡ false
  go true h later = absurd (omega (arith, h))
  go false h later = later (omega (arith, h))

any-some : (c : ℕ) (xs : List ℕ) → count c xs ≡ 1 → list_any (nat_eq c) xs ≡ true
any-some c [] h = absurd (omega (arith, h))
any-some c (x ∷ xs) h = go (nat_eq c x) h (any-some c xs) where
  go : (b : Bool) → cond b 1 0 + count c xs ≡ 1 → (count c xs ≡ 1 → list_any (nat_eq c) xs ≡ true) → (b || list_any (nat_eq c) xs) ≡ true
  go true h later = refl
  go false h later = later (omega (arith, h))

-- the number of an admission, or none
abbrev of : Option Standing → ℕ
of o = cond (is_some o) 1 0

-- ---- those that are in are those of the books, each once

pub record AreIn (ins : List ℕ) (m : FinMap nat_cmp Standing) : Type 0 where
  pub many : length ins ≡ map.len m
  pub each : (q : ℕ) → count q ins ≡ of (map.get m q)

pub in-not : (ins : List ℕ) (m : FinMap nat_cmp Standing) (c : ℕ) → AreIn ins m → map.get m c ≡ None → list_any (nat_eq c) ins ≡ false
in-not ins m c h free = any-none c ins (h.each c ∙ ap of free)

pub in-there : (ins : List ℕ) (m : FinMap nat_cmp Standing) (c : ℕ) → AreIn ins m → is_some (map.get m c) ≡ true → list_any (nat_eq c) ins ≡ true
in-there ins m c h there = any-some c ins (h.each c ∙ ap (λ (b : Bool). cond b 1 0) there)

-- one is admitted
pub in-more : (ins : List ℕ) (m : FinMap nat_cmp Standing) (c : ℕ) (v : Standing) → AreIn ins m → map.get m c ≡ None → AreIn (ins ++ c ∷ []) (map.insert m c v)
in-more ins m c v h free = record {
  many =
      let len : map.len (map.insert m c v) ≡ map.len m + 1 = len-insert nat_cmp_total m c v ∙ ap (λ (o : Option Standing). cond (is_some o) (map.len m) (map.len m + 1)) free in
      let both = length-append ins (c ∷ []) in
      let same = h.many in omega (arith, len, both, same);
  each = λ q. count-append q ins (c ∷ []) ∙ by_number (count q ins + count q (c ∷ []) ≡ of (map.get (map.insert m c v) q)) q c (mine q) (other q);
} where
  mine : (q : ℕ) → q ≡ c → count q ins + count q (c ∷ []) ≡ of (map.get (map.insert m c v) q)
  mine q e = subst (λ (n : ℕ). count n ins + count n (c ∷ []) ≡ of (map.get (map.insert m c v) n)) (sym e)
      (let none : count c ins ≡ 0 = h.each c ∙ ap of free in
      let one : count c (c ∷ []) ≡ 1 = ap (λ (b : Bool). cond b 1 0 + 0) (same_number c) in
      let sum : count c ins + count c (c ∷ []) ≡ 1 = omega (arith, none, one) in
      sum ∙ sym (ap of (get_inserted m c v)))

  other : (q : ℕ) → (q ≡ c → ⊥) → count q ins + count q (c ∷ []) ≡ of (map.get (map.insert m c v) q)
  other q n =
      let none : count q (c ∷ []) ≡ 0 = ap (λ (b : Bool). cond b 1 0 + 0) (other_number q c n) in
      let was : count q ins ≡ of (map.get m q) = h.each q in
      let sum : count q ins + count q (c ∷ []) ≡ count q ins = omega (arith, none) in
      sum ∙ was ∙ sym (ap of (get_other m c q v n))

-- one that is in stays in, whatever its shares are
pub in-same : (ins : List ℕ) (m : FinMap nat_cmp Standing) (c : ℕ) (s v : Standing) → AreIn ins m → map.get m c ≡ Some s → AreIn ins (map.insert m c v)
in-same ins m c s v h there = record {
  many = h.many ∙ sym (len-insert nat_cmp_total m c v ∙ ap (λ (o : Option Standing). cond (is_some o) (map.len m) (map.len m + 1)) there);
  each = λ q. h.each q ∙ by_number (of (map.get m q) ≡ of (map.get (map.insert m c v) q)) q c (mine q) (other q);
} where
  mine : (q : ℕ) → q ≡ c → of (map.get m q) ≡ of (map.get (map.insert m c v) q)
  mine q e = subst (λ (n : ℕ). of (map.get m n) ≡ of (map.get (map.insert m c v) n)) (sym e)
      (ap of there ∙ sym (ap of (get_inserted m c v)))

  other : (q : ℕ) → (q ≡ c → ⊥) → of (map.get m q) ≡ of (map.get (map.insert m c v) q)
  other q n = sym (ap of (get_other m c q v n))

-- one is released
pub in-less : (ins : List ℕ) (m : FinMap nat_cmp Standing) (c : ℕ) → AreIn ins m → is_some (map.get m c) ≡ true → AreIn (others c ins) (map.remove m c)
in-less ins m c h there = record {
  many = shorter (map.get m c) refl there;
  each = λ q. by_number (count q (others c ins) ≡ of (map.get (map.remove m c) q)) q c (mine q) (other q);
} where
  shorter : (o : Option Standing) → map.get m c ≡ o → is_some o ≡ true → length (others c ins) ≡ map.len (map.remove m c)
  shorter None e some = let no : false ≡ true = some in absurd cc
  shorter (Some s) e some =
      let len : map.len (map.remove m c) ≡ map.len m - 1 = len-remove nat_cmp_total m c ∙ ap (λ (o : Option Standing). cond (is_some o) (map.len m - 1) (map.len m)) e in
      let least : 0 < map.len m = some_len m c s e in
      let sum : length (others c ins) + count c ins ≡ length ins = length-others c ins in
      let here : count c ins ≡ 1 = h.each c ∙ ap of e in
      let same : length ins ≡ map.len m = h.many in
      omega (arith, len, least, sum, here, same)

  mine : (q : ℕ) → q ≡ c → count q (others c ins) ≡ of (map.get (map.remove m c) q)
  mine q e = subst (λ (n : ℕ). count n (others c ins) ≡ of (map.get (map.remove m c) n)) (sym e)
      (none-left c ins ∙ sym (ap of (get_put_same m c None)))

  other : (q : ℕ) → (q ≡ c → ⊥) → count q (others c ins) ≡ of (map.get (map.remove m c) q)
  other q n = others-left c q ins n ∙ h.each q ∙ sym (ap of (get_put_other m c q None n))
