-- How often a number stands in a list, and what that says of who is in.
use Rattle.std.proofs.Common.{◌≡◌, ℕ, suc, ◌+◌, ◌-◌, ◌<◌, ◌||◌, nat_eq, not, Bool, true, false, cond, List, [], ◌∷◌, ◌++◌, length, is_some, Option, Some, None, refl, sym, ap, ◌∙◌, subst, arith, length-append}
use Rattle.std.proofs.lemmas.Bool.{eq-eqb}
use Rattle.std.specs.FinMap as map
use Rattle.std.specs.FinMap.{FinMap, len-empty, len-insert, len-remove, get-empty}
use Rattle.std.specs.List.{filter, list_any}
use Rattle.std.specs.Cmp.{nat_cmp_total}
use Rattle.std.specs.Ordering.{nat_cmp}
use Rattle.lard_history.proofs.Seeing.{by_number, other_number, same_number}
use Rattle.lard_loads.specs.Tally.{Standing, home_of}
use Rattle.lard_table.proofs.Map.{get_inserted, get_other, get_put_other, get_put_same, some_len}
use Rattle.lard_audit.specs.Audit.{times}
use Rattle.lard_audit.specs.Books.{is_it, one_if_some}

abbrev pub once : Bool → ℕ
once b = cond b 1 0

abbrev others : ℕ → List ℕ → List ℕ
others c xs = filter (λ d. not (nat_eq c d)) xs

times-append : (c : ℕ) (xs ys : List ℕ) → times c (xs ++ ys) ≡ times c xs + times c ys
times-append c [] ys = omega arith
times-append c (x ∷ xs) ys = let more = times-append c xs ys in omega (arith, more)

-- all but one number
length-others : (c : ℕ) (xs : List ℕ) → length (others c xs) + times c xs ≡ length xs
length-others c [] = omega arith
length-others c (x ∷ xs) = go (nat_eq c x) (length-others c xs) where
  go : (b : Bool) → length (others c xs) + times c xs ≡ length xs → length (cond (not b) (x ∷ others c xs) (others c xs)) + (once b + times c xs) ≡ suc (length xs)
  go true h = omega (arith, h)
  go false h = omega (arith, h)

-- a number that does not stand there adds nothing
unseen : (c x n : ℕ) → nat_eq c x ≡ false → once (nat_eq c x) + n ≡ n
unseen c x n is = ap (λ (b : Bool). once b + n) is ∙ zero-less n where
  zero-less : (n : ℕ) → 0 + n ≡ n
  zero-less n = omega arith

none-left : (c : ℕ) (xs : List ℕ) → times c (others c xs) ≡ 0
none-left c [] = refl
none-left c (x ∷ xs) = go (nat_eq c x) refl (none-left c xs) where
  go : (b : Bool) → nat_eq c x ≡ b → times c (others c xs) ≡ 0 → times c (cond (not b) (x ∷ others c xs) (others c xs)) ≡ 0
  go true is h = h
  go false is h = unseen c x (times c (others c xs)) is ∙ h

others-left : (c q : ℕ) (xs : List ℕ) → (q ≡ c → ⊥) → times q (others c xs) ≡ times q xs
others-left c q [] apart = refl
others-left c q (x ∷ xs) apart = by_number (times q (others c (x ∷ xs)) ≡ times q (x ∷ xs)) c x (same (others-left c q xs apart)) (differs (others-left c q xs apart)) where
  same : times q (others c xs) ≡ times q xs → c ≡ x → times q (others c (x ∷ xs)) ≡ times q (x ∷ xs)
  same later e = ap (λ (b : Bool). times q (cond (not b) (x ∷ others c xs) (others c xs))) (eq-eqb c x e) ∙ later
      ∙ sym (unseen q x (times q xs) (other_number q x (λ f. apart (f ∙ sym e))))

  differs : times q (others c xs) ≡ times q xs → (c ≡ x → ⊥) → times q (others c (x ∷ xs)) ≡ times q (x ∷ xs)
  differs later n = ap (λ (b : Bool). times q (cond (not b) (x ∷ others c xs) (others c xs))) (other_number c x n) ∙ ap (λ (k : ℕ). once (nat_eq q x) + k) later

zero-less : (n : ℕ) → n ≡ 0 + n
zero-less n = omega arith

-- a number stands there once, or not at all
pub any-times : (c : ℕ) (xs : List ℕ) (b : Bool) → times c xs ≡ once b → list_any (nat_eq c) xs ≡ b
any-times c [] true h = absurd (omega (arith, h))
any-times c [] false h = refl
any-times c (x ∷ xs) b h = go (nat_eq c x) b h (any-times c xs b) where
  go : (a b : Bool) → once a + times c xs ≡ once b → (times c xs ≡ once b → list_any (nat_eq c) xs ≡ b) → (a || list_any (nat_eq c) xs) ≡ b
  go true true h later = refl
  go true false h later = absurd (omega (arith, h))
  go false b h later = later (zero-less (times c xs) ∙ h)

-- ---- who is in

abbrev pub Standings : Type 0
Standings = FinMap nat_cmp Standing

abbrev pub has_home : Standings → ℕ → Bool
has_home m q = is_some (home_of (map.get m q))

-- those that are in have a node, or are to have one; and each is in once
pub record AreIn (ins : List ℕ) (m : Standings) (due : Option ℕ) : Type 0 where
  pub many : length ins ≡ map.len m + one_if_some due
  pub each : (q : ℕ) → times q ins ≡ once (has_home m q || is_it due q)

some-home : (o : Option Standing) → is_some (home_of o) ≡ is_some o
some-home None = refl
some-home (Some s) = refl

or-false : (b : Bool) → (b || false) ≡ b
or-false true = refl
or-false false = refl

or-true : (b : Bool) → (b || true) ≡ true
or-true true = refl
or-true false = refl

none-in : map.len (map.empty {K = ℕ} {X = Standing} {R = nat_cmp}) ≡ 0
none-in = len-empty nat_cmp Standing

pub in-begin : AreIn [] map.empty None
in-begin = record {
  many = let n = none-in in omega (arith, n);
  each = λ q. sym (ap (λ (o : Option Standing). once (is_some (home_of o) || false)) (get-empty nat_cmp q));
}

-- one is admitted
pub in-admitted : (ins : List ℕ) (m : Standings) (c : ℕ) → AreIn ins m None → (has_home m c || false) ≡ false → AreIn (ins ++ c ∷ []) m (Some c)
in-admitted ins m c h free = record {
  many = let both = length-append ins (c ∷ []) in let same = h.many in omega (arith, both, same);
  each = λ q. times-append q ins (c ∷ []) ∙ by_number (times q ins + times q (c ∷ []) ≡ once (has_home m q || nat_eq c q)) c q (mine q) (other q);
} where
  mine : (q : ℕ) → c ≡ q → times q ins + times q (c ∷ []) ≡ once (has_home m q || nat_eq c q)
  mine q e = subst (λ (n : ℕ). times n ins + times n (c ∷ []) ≡ once (has_home m n || nat_eq c n)) e
      (let none : times c ins ≡ 0 = h.each c ∙ ap (λ (b : Bool). once b) free in
      let one : times c (c ∷ []) ≡ 1 = ap (λ (b : Bool). once b + 0) (same_number c) in
      let sum : times c ins + times c (c ∷ []) ≡ 1 = omega (arith, none, one) in
      sum ∙ sym (ap (λ (b : Bool). once (has_home m c || b)) (same_number c) ∙ ap (λ (b : Bool). once b) (or-true (has_home m c))))

  other : (q : ℕ) → (c ≡ q → ⊥) → times q ins + times q (c ∷ []) ≡ once (has_home m q || nat_eq c q)
  other q n =
      let none : times q (c ∷ []) ≡ 0 = ap (λ (b : Bool). once b + 0) (other_number q c (λ s. n (sym s))) in
      let sum : times q ins + times q (c ∷ []) ≡ times q ins = omega (arith, none) in
      sum ∙ h.each q ∙ sym (ap (λ (b : Bool). once (has_home m q || b)) (other_number c q n))

-- the one that is due gets a node
pub in-assigned : (ins : List ℕ) (m : Standings) (c : ℕ) (v : Standing) → AreIn ins m (Some c) → map.get m c ≡ None → AreIn ins (map.insert m c v) None
in-assigned ins m c v h free = record {
  many =
      let len : map.len (map.insert m c v) ≡ map.len m + 1 = len-insert nat_cmp_total m c v ∙ ap (λ (o : Option Standing). cond (is_some o) (map.len m) (map.len m + 1)) free in
      let same = h.many in omega (arith, len, same);
  each = λ q. h.each q ∙ by_number (once (has_home m q || nat_eq c q) ≡ once (has_home (map.insert m c v) q || false)) c q (mine q) (other q);
} where
  mine : (q : ℕ) → c ≡ q → once (has_home m q || nat_eq c q) ≡ once (has_home (map.insert m c v) q || false)
  mine q e = ap (λ (b : Bool). once (has_home m q || b)) (eq-eqb c q e) ∙ ap (λ (b : Bool). once b) (or-true (has_home m q))
      ∙ sym (ap (λ (o : Option Standing). once (is_some (home_of o) || false)) (subst (λ (n : ℕ). map.get (map.insert m c v) n ≡ Some v) e (get_inserted m c v)))

  other : (q : ℕ) → (c ≡ q → ⊥) → once (has_home m q || nat_eq c q) ≡ once (has_home (map.insert m c v) q || false)
  other q n = ap (λ (b : Bool). once (has_home m q || b)) (other_number c q n)
      ∙ sym (ap (λ (o : Option Standing). once (is_some (home_of o) || false)) (get_other m c q v (λ s. n (sym s))))

-- one that has a node keeps it, whatever its shares are
pub in-same : (ins : List ℕ) (m : Standings) (due : Option ℕ) (c : ℕ) (s v : Standing) → AreIn ins m due → map.get m c ≡ Some s → AreIn ins (map.insert m c v) due
in-same ins m due c s v h there = record {
  many = h.many ∙ ap (λ (n : ℕ). n + one_if_some due) (sym (len-insert nat_cmp_total m c v ∙ ap (λ (o : Option Standing). cond (is_some o) (map.len m) (map.len m + 1)) there));
  each = λ q. h.each q ∙ ap (λ (b : Bool). once (b || is_it due q)) (by_number (has_home m q ≡ has_home (map.insert m c v) q) c q (mine q) (other q));
} where
  mine : (q : ℕ) → c ≡ q → has_home m q ≡ has_home (map.insert m c v) q
  mine q e = subst (λ (n : ℕ). has_home m n ≡ has_home (map.insert m c v) n) e
      (ap (λ (o : Option Standing). is_some (home_of o)) there ∙ sym (ap (λ (o : Option Standing). is_some (home_of o)) (get_inserted m c v)))

  other : (q : ℕ) → (c ≡ q → ⊥) → has_home m q ≡ has_home (map.insert m c v) q
  other q n = sym (ap (λ (o : Option Standing). is_some (home_of o)) (get_other m c q v (λ s. n (sym s))))

-- one is released
pub in-released : (ins : List ℕ) (m : Standings) (c : ℕ) → AreIn ins m None → (has_home m c || false) ≡ true → AreIn (others c ins) (map.remove m c) None
in-released ins m c h there = record {
  many = shorter (map.get m c) refl there;
  each = λ q. by_number (times q (others c ins) ≡ once (has_home (map.remove m c) q || false)) c q (mine q) (other q);
} where
  shorter : (o : Option Standing) → map.get m c ≡ o → (is_some (home_of o) || false) ≡ true → length (others c ins) ≡ map.len (map.remove m c) + 0
  shorter None e some = let no : false ≡ true = some in absurd cc
  shorter (Some s) e some =
      let len : map.len (map.remove m c) ≡ map.len m - 1 = len-remove nat_cmp_total m c ∙ ap (λ (o : Option Standing). cond (is_some o) (map.len m - 1) (map.len m)) e in
      let least : 0 < map.len m = some_len m c s e in
      let sum : length (others c ins) + times c ins ≡ length ins = length-others c ins in
      let here : times c ins ≡ 1 = h.each c ∙ ap (λ (b : Bool). once b) there in
      let same : length ins ≡ map.len m + 0 = h.many in
      omega (arith, len, least, sum, here, same)

  mine : (q : ℕ) → c ≡ q → times q (others c ins) ≡ once (has_home (map.remove m c) q || false)
  mine q e = subst (λ (n : ℕ). times n (others c ins) ≡ once (has_home (map.remove m c) n || false)) e
      (none-left c ins ∙ sym (ap (λ (o : Option Standing). once (is_some (home_of o) || false)) (get_put_same m c None)))

  other : (q : ℕ) → (c ≡ q → ⊥) → times q (others c ins) ≡ once (has_home (map.remove m c) q || false)
  other q n = others-left c q ins (λ s. n (sym s)) ∙ h.each q ∙ sym (ap (λ (o : Option Standing). once (is_some (home_of o) || false)) (get_put_other m c q None (λ s. n (sym s))))
