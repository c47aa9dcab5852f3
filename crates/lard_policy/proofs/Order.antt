-- None of a list of nodes is before its first, in the order of their loads and in the other.
use Rattle.std.proofs.Common.{◌≡◌, ℕ, Bool, true, false, ◌&&◌, ◌||◌, nat_lt, nat_eq, List, [], ◌∷◌, Option, Some, None, cond, refl, subst, ⊎_elim, arith}
use Rattle.std.proofs.lemmas.Bool.Decides.{nat_tests}
use Rattle.lard_loads.proofs.Firsts.{IsIn}
use Rattle.lard_loads.specs.Order.{earlier, first_in, is_before}

-- ---- an order of nodes

pub record IsOrder (before : ℕ → ℕ → Bool) : Type 0 where
  pub same : (a : ℕ) → before a a ≡ false
  pub apart : (a b : ℕ) → before a b ≡ true → before b a ≡ false
  pub through : (a b c : ℕ) → before a b ≡ false → before b c ≡ false → before a c ≡ false

module _ (before : ℕ → ℕ → Bool) (o : IsOrder before) where
  -- none of a list is before its first
  pub first_in-none_before : (xs : List ℕ) (n k : ℕ) → first_in before xs ≡ Some n → IsIn k xs → before k n ≡ false
  first_in-none_before [] n k e h = absurd h
  first_in-none_before (x ∷ xs) n k e h = go (first_in before xs) refl (λ m g i. first_in-none_before xs m k g i) e h where
    go : (f : Option ℕ) → first_in before xs ≡ f → ((m : ℕ) → first_in before xs ≡ Some m → IsIn k xs → before k m ≡ false) → Some (earlier before x f) ≡ Some n → IsIn k (x ∷ xs) → before k n ≡ false
    go None f more p h = ⊎_elim
        (λ i. let here : x ≡ n = cc in subst (λ y. before y n ≡ false) i (subst (λ y. before x y ≡ false) here (o.same x)))
        (λ i. absurd (empty xs f i))
        h
      where
        empty : (ys : List ℕ) → first_in before ys ≡ None → IsIn k ys → ⊥
        empty [] e i = i
        empty (y ∷ ys) e i = cc
    go (Some m) f more p h = pick (before m x) refl p where
      pick : (b : Bool) → before m x ≡ b → Some (cond b m x) ≡ Some n → before k n ≡ false
      pick true t p =
          let here : m ≡ n = cc in
          subst (λ y. before k y ≡ false) here (⊎_elim (λ i. subst (λ y. before y m ≡ false) i (o.apart m x t)) (λ i. more m f i) h)
      pick false t p =
          let here : x ≡ n = cc in
          subst (λ y. before k y ≡ false) here (⊎_elim (λ i. subst (λ y. before y x ≡ false) i (o.same x)) (λ i. o.through k m x (more m f i) t) h)

-- ---- by their loads

module _ (load : ℕ → ℕ) where
  pub by_load : IsOrder (is_before load)
  by_load = record {
    same = λ a. same (load a) a;
    apart = λ a b h. apart (load a) (load b) a b h;
    through = λ a b c h k. through (load a) (load b) (load c) a b c h k;
  }
    where
      same : (l a : ℕ) → nat_lt l l || (nat_eq l l && nat_lt a a) ≡ false
      same l a = grind (arith, nat_tests)

      apart : (l m a b : ℕ) → nat_lt l m || (nat_eq l m && nat_lt a b) ≡ true → nat_lt m l || (nat_eq m l && nat_lt b a) ≡ false
      apart l m a b h = grind (arith, nat_tests, h)

      through : (l m n a b c : ℕ) → nat_lt l m || (nat_eq l m && nat_lt a b) ≡ false → nat_lt m n || (nat_eq m n && nat_lt b c) ≡ false → nat_lt l n || (nat_eq l n && nat_lt a c) ≡ false
      through l m n a b c h k = grind (arith, nat_tests, h, k)

  -- two nodes neither of which is before the other are one
  pub one_node : (a b : ℕ) → is_before load a b ≡ false → is_before load b a ≡ false → a ≡ b
  one_node a b h k = go (load a) (load b) a b h k where
    go : (l m a b : ℕ) → nat_lt l m || (nat_eq l m && nat_lt a b) ≡ false → nat_lt m l || (nat_eq m l && nat_lt b a) ≡ false → a ≡ b
    go l m a b h k = grind (arith, nat_tests, h, k)

-- ---- the other way round

pub flipped : (before : ℕ → ℕ → Bool) → IsOrder before → IsOrder (λ a b. before b a)
flipped before o = record { same = o.same; apart = λ a b h. o.apart b a h; through = λ a b c h k. o.through c b a k h }
