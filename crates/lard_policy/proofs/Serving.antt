-- The node of a choice serves the target from then on.
use Rattle.std.proofs.Common.{◌≡◌, ◌+◌, ◌-◌, ◌≤◌, ◌<◌, ℕ, zero, suc, Bool, true, false, not, ◌&&◌, ◌||◌, nat_lt, nat_eq, List, [], ◌∷◌, filter, count_by, Option, Some, None, cond, refl, sym, ap, ◌∙◌, subst, inl, inr, ⊎_elim, arith}
use Rattle.std.proofs.lemmas.Bool.Decides.{nat_tests}
use Rattle.std.proofs.lemmas.List.Sums.{sum_by-cons}
use Rattle.std.specs.List.{list_any, range_with_len}
use Rattle.lard_base.specs.declared.config.Config.{Config}
use Rattle.lard_base.specs.Members.{has, node_numbers}
use Rattle.lard_loads.proofs.Firsts.{IsIn, first-is_in, first_passes, in_filter, in_range}
use Rattle.lard_loads.specs.Order.{is_before}
use Rattle.lard_loads.specs.Tally.{Tally, load, is_open, least, least_of, most_of, numbers}
use Rattle.lard_sets.specs.Sets.{with_member}
use Rattle.lard_sets.proofs.Flags.{has-with_member, has-without_member}
use Rattle.lard_policy.specs.declared.first.FirstChoice.{FirstChoice}
use Rattle.lard_policy.specs.First.{least_node, is_overloaded, relieved, joining, may_shrink, leaving, first_choice}
use Rattle.lard_policy.specs.Laws.{set_joined, set_left, set_after, HasOpenNodes, AreOpen, TheNodeServes}
use Rattle.lard_policy.proofs.Choice.{by_least}
use Rattle.lard_policy.proofs.Order.{by_load, flipped, first_in-none_before, one_node}
use Rattle.lard_policy.proofs.Relief.{is_least}

-- ---- who is in a list

eq_true : (a b : ℕ) → nat_eq a b ≡ true → a ≡ b
eq_true a b e = grind (arith, nat_tests, e)

eq_same : (a : ℕ) → nat_eq a a ≡ true
eq_same a = grind (arith, nat_tests)

is_open-in : (xs : List ℕ) (n : ℕ) → IsIn n xs → list_any (nat_eq n) xs ≡ true
is_open-in [] n h = absurd h
is_open-in (x ∷ xs) n h = ⊎_elim
    (λ e. ap (λ b. b || list_any (nat_eq n) xs) (subst (λ y. nat_eq n y ≡ true) (sym e) (eq_same n)))
    (λ i. ap (λ b. nat_eq n x || b) (is_open-in xs n i) ∙ either (nat_eq n x))
    h
  where
    either : (b : Bool) → b || true ≡ true
    either true = refl
    either false = refl

in-is_open : (xs : List ℕ) (n : ℕ) → list_any (nat_eq n) xs ≡ true → IsIn n xs
in-is_open [] n h = cc
in-is_open (x ∷ xs) n h = go (nat_eq n x) refl (in-is_open xs n) h where
  go : (b : Bool) → nat_eq n x ≡ b → (list_any (nat_eq n) xs ≡ true → IsIn n xs) → b || list_any (nat_eq n) xs ≡ true → IsIn n (x ∷ xs)
  go true e more k = inl (sym (eq_true n x e))
  go false e more k = inr (more k)

-- ---- how many pass a test

none-counted : (q : ℕ → Bool) (a len : ℕ) → ((k : ℕ) → a ≤ k → q k ≡ false) → count_by q (range_with_len a len) ≡ 0
none-counted q a zero fail = refl
none-counted q a (suc len) fail =
    sum_by-cons (λ j. cond (q j) 1 0) a (range_with_len (a + 1) len)
    ∙ ap (λ b. cond b 1 0 + count_by q (range_with_len (a + 1) len)) (fail a (omega arith))
    ∙ ap (λ c. 0 + c) (none-counted q (a + 1) len (λ k h. fail k (omega (arith, h))))

-- where all that pass are one number, at most one passes
one-counted : (q : ℕ → Bool) (p a len : ℕ) → ((k : ℕ) → a ≤ k → q k ≡ true → k ≡ p) → count_by q (range_with_len a len) ≤ 1
one-counted q p a zero all = omega arith
one-counted q p a (suc len) all = go (q a) refl (one-counted q p (a + 1) len (λ k h. all k (omega (arith, h)))) where
  rest : List ℕ
  rest = range_with_len (a + 1) len

  go : (b : Bool) → q a ≡ b → count_by q rest ≤ 1 → count_by q (a ∷ rest) ≤ 1
  go false e more =
      let count : count_by q (a ∷ rest) ≡ 0 + count_by q rest = sum_by-cons (λ j. cond (q j) 1 0) a rest ∙ ap (λ b. cond b 1 0 + count_by q rest) e in
      omega (arith, count, more)
  go true e more =
      let none : count_by q rest ≡ 0 = none-counted q (a + 1) len (λ k h. others k h (q k) refl) in
      let count : count_by q (a ∷ rest) ≡ 1 + count_by q rest = sum_by-cons (λ j. cond (q j) 1 0) a rest ∙ ap (λ b. cond b 1 0 + count_by q rest) e in
      omega (arith, count, none)
    where
      others : (k : ℕ) → a + 1 ≤ k → (b : Bool) → q k ≡ b → b ≡ false
      others k h true t =
          let here : a ≡ p = all a (omega arith) e in
          let there : k ≡ p = all k (omega (arith, h)) t in
          absurd (omega (arith, here, there, h))
      others k h false t = refl

-- ---- the choice

module _ (t : Tally) (set : ℕ) (stands : HasOpenNodes t) (members : AreOpen t set) where
  -- the least loaded node is open, and no open node is before it
  least-open : (p : ℕ) → least t ≡ Some p → is_open t p ≡ true
  least-open p e = is_open-in t.open_nodes p (first-is_in (is_before (load t)) t.open_nodes p e)

  least-first : (p k : ℕ) → least t ≡ Some p → is_open t k ≡ true → is_before (load t) k p ≡ false
  least-first p k e h = first_in-none_before (is_before (load t)) (by_load (load t)) t.open_nodes p k e (in-is_open t.open_nodes k h)

  -- each member is among those that a choice ranges over
  member-in : (k : ℕ) → 1 ≤ k → has set k ≡ true → IsIn k (filter (has set) (numbers t.nodes))
  member-in k some h =
      let most : k ≤ t.nodes = stands.nodes k (members k some h) in
      in_filter (has set) k (numbers t.nodes) h (in_range 1 t.nodes k some (omega (arith, most)))

  -- the node of a choice: it has a number, and no member is before it
  abbrev IsFirst : ℕ → Type 0
  IsFirst p = (1 ≤ p) × ((k : ℕ) → 1 ≤ k → has set k ≡ true → is_before (load t) k p ≡ false)

  least_node-first : IsFirst (least_node t)
  least_node-first =
      let found : least t ≡ Some (least_node t) = is_least t stands.some in
      ((stands.range (least_node t) (least-open (least_node t) found)).0, λ k some h. least-first (least_node t) k found (members k some h))

  least_of-first : (n : ℕ) → least_of t set ≡ Some n → IsFirst n
  least_of-first n e = (
    (first_passes (is_before (load t)) (has set) t.nodes n e).0,
    λ k some h. first_in-none_before (is_before (load t)) (by_load (load t)) (filter (has set) (numbers t.nodes)) n k e (member-in k some h),
  )

  relieved-first : (cfg : Config) (n : ℕ) → least_of t set ≡ Some n → IsFirst (relieved t cfg n)
  relieved-first cfg n e = go (is_overloaded t cfg n) where
    go : (b : Bool) → IsFirst (cond b (least_node t) n)
    go true = least_node-first
    go false = least_of-first n e

  most-some : (m : ℕ) → most_of t set ≡ Some m → 1 ≤ m
  most-some m e = (first_passes (λ a b. is_before (load t) b a) (has set) t.nodes m e).0

  -- the node serves once it has joined
  joined-serves : (p : ℕ) → 1 ≤ p → has (set_joined set (joining set p)) p ≡ true
  joined-serves p some = go (has set p) refl where
    go : (b : Bool) → has set p ≡ b → has (set_joined set (cond b None (Some p))) p ≡ true
    go true e = e
    go false e = has-with_member set p p some some ∙ ap (λ b. b || has set p) (eq_same p)

  -- where the node itself is the most loaded member, it is the only one then
  alone : (p : ℕ) → IsFirst p → most_of t set ≡ Some p → count_by (has (with_member set p)) node_numbers ≤ 1
  unfolding node_numbers
  alone p first e = one-counted (has (with_member set p)) p 1 64 (λ k some h. go k some (nat_eq k p) refl (sym (has-with_member set p k first.0 some) ∙ h)) where
    go : (k : ℕ) → 1 ≤ k → (b : Bool) → nat_eq k p ≡ b → (b || has set k) ≡ true → k ≡ p
    go k some true same h = eq_true k p same
    go k some false same h =
        let last : is_before (load t) p k ≡ false =
        first_in-none_before (λ a b. is_before (load t) b a) (flipped (is_before (load t)) (by_load (load t))) (filter (has set) (numbers t.nodes)) p k e (member-in k some h) in
        one_node (load t) k p (first.1 k some h) last

  -- a node that leaves is the most loaded of more than one
  leaves : (p m unchanged age : ℕ) → leaving t set p unchanged age ≡ Some m → (1 < count_by (has (with_member set p)) node_numbers) × (most_of t set ≡ Some m)
  leaves p m unchanged age e = shrinks (may_shrink (with_member set p) unchanged age) refl e where
    shrinks : (b : Bool) → may_shrink (with_member set p) unchanged age ≡ b → cond {A = Option ℕ} b (most_of t set) None ≡ Some m
        → (1 < count_by (has (with_member set p)) node_numbers) × (most_of t set ≡ Some m)
    shrinks true f h = (more (nat_lt 1 (count_by (has (with_member set p)) node_numbers)) refl f, h) where
      more : (b : Bool) → nat_lt 1 (count_by (has (with_member set p)) node_numbers) ≡ b → b && nat_lt age unchanged ≡ true → 1 < count_by (has (with_member set p)) node_numbers
      more true g h = grind (arith, nat_tests, g)
      more false g h = cc
    shrinks false f h = cc

  -- so it is another
  stays : (p m unchanged age : ℕ) → IsFirst p → leaving t set p unchanged age ≡ Some m → nat_eq p m ≡ false
  stays p m unchanged age first e = go (nat_eq p m) refl where
    go : (b : Bool) → nat_eq p m ≡ b → b ≡ false
    go true f =
        let s = leaves p m unchanged age e in
        let same : p ≡ m = eq_true p m f in
        let few : count_by (has (with_member set p)) node_numbers ≤ 1 = alone p first (s.1 ∙ ap (λ n. Some n) (sym same)) in
        let many : 1 < count_by (has (with_member set p)) node_numbers = s.0 in
        absurd (omega (arith, few, many))
    go false f = refl

  left-serves : (p unchanged age : ℕ) → IsFirst p → has (set_left (set_joined set (joining set p)) (leaving t set p unchanged age)) p ≡ true
  left-serves p unchanged age first = go (leaving t set p unchanged age) refl where
    go : (o : Option ℕ) → leaving t set p unchanged age ≡ o → has (set_left (set_joined set (joining set p)) o) p ≡ true
    go None e = joined-serves p first.0
    go (Some m) e =
        has-without_member (set_joined set (joining set p)) m p (most-some m (leaves p m unchanged age e).1) first.0
        ∙ ap (λ b. not b && has (set_joined set (joining set p)) p) (stays p m unchanged age first e)
        ∙ joined-serves p first.0

pub serves : TheNodeServes
serves t set now last_mod cfg stands members = go (least_of t set) refl where
  P : FirstChoice → Type 0
  P choice = has (set_after set choice) choice.node ≡ true

  go : (o : Option ℕ) → least_of t set ≡ o → P (first_choice t set now last_mod cfg)
  go None e =
      let p : ℕ = least_node t in
      let first = least_node-first t set stands members in
      subst P (sym (by_least t set now last_mod cfg None e)) (has-with_member set p p first.0 first.0 ∙ ap (λ b. b || has set p) (eq_same p))
  go (Some n) e = subst P (sym (by_least t set now last_mod cfg (Some n) e)) (left-serves t set stands members (relieved t cfg n) (now.0 - last_mod.0) cfg.age (relieved-first t set stands members cfg n e))
