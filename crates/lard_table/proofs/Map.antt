-- A `BTreeMap` by numbers, seen as a finite map, and the laws of looking up, which the crates above cite too.
use Rattle.std.proofs.Common.{Bool, true, false, ◌≡◌, ℕ, ◌<◌, ◌-◌, zero, suc, arith, is_some, List, [], ◌∷◌, cond, IsSome, Some, None, true, false, rules, refl, sym, ap, ◌∙◌, Option}
use Rattle.std.proofs.lemmas.Bool.Decides.{nat_tests}
use Rattle.std.specs.Ordering.{nat_cmp, eq_by_cmp}
use Rattle.std.specs.Cmp.{nat_cmp_total, eq_by_cmp_equiv}
use Rattle.std.specs.FinMap as map
use Rattle.std.specs.FinMap.{FinMap, find, get-from_entries, get-insert, get-remove, same_map, len-remove, empty_of_len, get-empty, nat_cmp-IsAntisymmetric}
use Rattle.std.specs.BTreeMap as tree
use Rattle.std.specs.BTreeMap.{BTreeMap, is_at, UpdatesBy}
use Rattle.std.specs.Map.{lookup}
use Rattle.lard_table.specs.Table.{put_or}

-- two numbers are one key where they are equal
not_at : (q k : ℕ) → (q ≡ k → ⊥) → eq_by_cmp nat_cmp q k ≡ false
not_at q k n = grind (arith, nat_tests, n)

same_at : (q k : ℕ) → eq_by_cmp nat_cmp q k ≡ true → q ≡ k
same_at q k h = grind (arith, nat_tests, h)

module _ {X : Type 0} where
  abbrev pub map_of : BTreeMap ℕ X → FinMap nat_cmp X
  map_of m = map.from_entries m.entries

  find_is : (es : List (ℕ × X)) (q : ℕ) → find nat_cmp q es ≡ lookup (is_at (nat_cmp q)) es
  find_is [] q = refl
  find_is (e ∷ es) q = ap (cond (is_at (nat_cmp q) e.0) (Some e.1)) (find_is es q)

  pub get_is : (m : BTreeMap ℕ X) (q : ℕ) → map.get (map_of m) q ≡ tree.get nat_cmp m q
  get_is m q = get-from_entries nat_cmp_total m.entries q ∙ find_is m.entries q

  pub inserted : (m n : BTreeMap ℕ X) (k : ℕ) (w : X) → UpdatesBy nat_cmp (nat_cmp k) m n (Some w) → map_of n ≡ map.insert (map_of m) k w
  inserted m n k w u = same_map nat_cmp_total nat_cmp-IsAntisymmetric _ _ (λ q.
      get_is n q ∙ u.0 q ∙ ap (λ b. cond b (Some w) (tree.get nat_cmp m q)) ((eq_by_cmp_equiv nat_cmp_total).symm k q)
      ∙ sym (get-insert nat_cmp_total (map_of m) k w q ∙ ap (cond (eq_by_cmp nat_cmp q k) (Some w)) (get_is m q)))

  pub removed : (m n : BTreeMap ℕ X) (k : ℕ) → UpdatesBy nat_cmp (nat_cmp k) m n None → map_of n ≡ map.remove (map_of m) k
  removed m n k u = same_map nat_cmp_total nat_cmp-IsAntisymmetric _ _ (λ q.
      get_is n q ∙ u.0 q ∙ ap (λ b. cond b None (tree.get nat_cmp m q)) ((eq_by_cmp_equiv nat_cmp_total).symm k q)
      ∙ sym (get-remove nat_cmp_total (map_of m) k q ∙ ap (cond (eq_by_cmp nat_cmp q k) None) (get_is m q)))

  -- the first key is found
  first_found : (e : ℕ × X) (es : List (ℕ × X)) → find nat_cmp e.0 (e ∷ es) ≡ Some e.1
  first_found e es = ap (λ b. cond b (Some e.1) (find nat_cmp e.0 es)) ((eq_by_cmp_equiv nat_cmp_total).refl e.0)

  pub none_left : (m : BTreeMap ℕ X) → map_of m ≡ map.empty → m.entries ≡ []
  none_left m e = go m.entries (λ q. sym (get-from_entries nat_cmp_total m.entries q) ∙ ap (λ n. map.get n q) e ∙ get-empty nat_cmp q) where
    go : (es : List (ℕ × X)) → ((q : ℕ) → find nat_cmp q es ≡ None) → es ≡ []
    go [] f = refl
    go (e ∷ es) f = let h : Some e.1 ≡ None = sym (first_found e es) ∙ f e.0 in cc

  pub some_len : (m : FinMap nat_cmp X) (k : ℕ) (v : X) → map.get m k ≡ Some v → 0 < map.len m
  some_len m k v h = go (map.len m) refl where
    go : (n : ℕ) → map.len m ≡ n → 0 < map.len m
    go zero e = let h2 : Some v ≡ None = sym h ∙ ap (λ n. map.get n k) (empty_of_len m e) ∙ get-empty nat_cmp k in absurd cc
    go (suc n) e = omega arith

  pub shorter : (m n : FinMap nat_cmp X) (k : ℕ) (v : X) → map.get m k ≡ Some v → n ≡ map.remove m k → map.len n < map.len m
  shorter m n k v h e = let p : 0 < map.len m = some_len m k v h in
      let q : map.len n ≡ map.len m - 1 = ap map.len e ∙ len-remove nat_cmp_total m k ∙ ap (λ o. cond (is_some o) (map.len m - 1) (map.len m)) h in omega arith

  pub IsSome_from : (o p : Option X) (v : X) → o ≡ Some v → o ≡ p → IsSome p
  IsSome_from o p v e f = search (rules, e, f)

  pub no_none : (o p q : Option X) → IsSome q → None ≡ p → p ≡ q → ⊥
  no_none o p (Some v) i e f = let h : None ≡ Some v = e ∙ f in cc
  no_none o p None i e f = search (rules, i)

  -- ---- a number is set to a value, or to none

  -- what is found at any number: the other laws follow from it
  pub get_put : (m : FinMap nat_cmp X) (k q : ℕ) (o : Option X) → map.get (put_or m k o) q ≡ cond (eq_by_cmp nat_cmp q k) o (map.get m q)
  get_put m k q None = get-remove nat_cmp_total m k q
  get_put m k q (Some v) = get-insert nat_cmp_total m k v q

  pub get_put_same : (m : FinMap nat_cmp X) (k : ℕ) (o : Option X) → map.get (put_or m k o) k ≡ o
  get_put_same m k o = get_put m k k o ∙ ap (λ b. cond b o (map.get m k)) ((eq_by_cmp_equiv nat_cmp_total).refl k)

  pub get_put_other : (m : FinMap nat_cmp X) (k q : ℕ) (o : Option X) → (q ≡ k → ⊥) → map.get (put_or m k o) q ≡ map.get m q
  get_put_other m k q o n = get_put m k q o ∙ ap (λ b. cond b o (map.get m q)) (not_at q k n)

  -- the second put counts
  pub put_twice : (m : FinMap nat_cmp X) (k : ℕ) (o p : Option X) → put_or (put_or m k o) k p ≡ put_or m k p
  put_twice m k o p = same_map nat_cmp_total nat_cmp-IsAntisymmetric _ _ (λ q.
      get_put (put_or m k o) k q p ∙ ap (cond (eq_by_cmp nat_cmp q k) p) (get_put m k q o) ∙ over (eq_by_cmp nat_cmp q k) (map.get m q) ∙ sym (get_put m k q p)) where
        over : (t : Bool) (r : Option X) → cond t p (cond t o r) ≡ cond t p r
        over true r = refl
        over false r = refl

  -- what was got is put back
  pub put_got : (m : FinMap nat_cmp X) (k : ℕ) → put_or m k (map.get m k) ≡ m
  put_got m k = same_map nat_cmp_total nat_cmp-IsAntisymmetric _ _ (λ q. get_put m k q (map.get m k) ∙ go q (eq_by_cmp nat_cmp q k) refl) where
    go : (q : ℕ) (t : Bool) → eq_by_cmp nat_cmp q k ≡ t → cond t (map.get m k) (map.get m q) ≡ map.get m q
    go q true h = ap (map.get m) (sym (same_at q k h))
    go q false h = refl

  -- ---- a number is set to a value

  -- a second value in place of the first
  pub insert_twice : (m : FinMap nat_cmp X) (k : ℕ) (v w : X) → map.insert (map.insert m k v) k w ≡ map.insert m k w
  insert_twice m k v w = put_twice m k (Some v) (Some w)

  pub get_inserted : (m : FinMap nat_cmp X) (k : ℕ) (v : X) → map.get (map.insert m k v) k ≡ Some v
  get_inserted m k v = get_put_same m k (Some v)

  -- the other numbers are as before
  pub get_other : (m : FinMap nat_cmp X) (k q : ℕ) (v : X) → (q ≡ k → ⊥) → map.get (map.insert m k v) q ≡ map.get m q
  get_other m k q v n = get_put_other m k q (Some v) n
