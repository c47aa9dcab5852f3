-- The entries of a finite map by numbers are what is found in it: what holds of each that is found holds of each entry.
use Rattle.std.proofs.Common.{◌≡◌, ℕ, Bool, true, false, ◌&&◌, List, [], ◌∷◌, map, Some, None, cond, refl, sym, ap, subst, ◌∙◌}
use Rattle.std.specs.Cmp.{nat_cmp_total, eq_by_cmp_equiv}
use Rattle.std.specs.FinMap.{FinMap, entries, entries_sorted, find, get, get-entries, is_sorted}
use Rattle.std.specs.FinMap.Entries.{below_all}
use Rattle.std.specs.List.{AllByRecursion, filter}
use Rattle.std.specs.Ordering.{nat_cmp, is_eq, is_lt}
use Rattle.std.specs.declared.cmp.Ordering.{Ordering}
use Rattle.std.specs.declared.cmp.Ordering.TheVariants.{Less, Equal, Greater}
use lib.Dec.{T}
use Rattle.lard_history.proofs.Seeing.{by_number, other_number}
use Rattle.lard_agenda.proofs.Numbers.{same_test}

pub both : (a b : Bool) → T (a && b) → T a × T b
both true b h = (tt, h)
both false b h = absurd h

module _ {X : Type 0} where
  -- a number below all others is not found
  absent : (q : ℕ) (es : List (ℕ × X)) → T (below_all nat_cmp q es) → find nat_cmp q es ≡ None
  absent q [] below = refl
  absent q (e ∷ es) below = go (nat_cmp q e.0) (absent q es) below where
    go : (o : Ordering) → (T (below_all nat_cmp q es) → find nat_cmp q es ≡ None) → T (is_lt o && below_all nat_cmp q es) → cond (is_eq o) (Some e.1) (find nat_cmp q es) ≡ None
    go Less rest b = rest b
    go Equal rest b = absurd b
    go Greater rest b = absurd b

  -- what is found behind the first entry is found
  behind : (e : ℕ × X) (es : List (ℕ × X)) (q : ℕ) (v : X) → T (below_all nat_cmp e.0 es) → find nat_cmp q es ≡ Some v → find nat_cmp q (e ∷ es) ≡ Some v
  behind e es q v below f = by_number _ e.0 q
      (λ same. let none : None ≡ Some v = sym (absent e.0 es below) ∙ ap (λ k. find nat_cmp k es) same ∙ f in absurd cc)
      (λ other. ap (λ b. cond b (Some e.1) (find nat_cmp q es)) (same_test e.0 q ∙ other_number e.0 q other) ∙ f)

  each : (P : ℕ × X → Type 0) (es : List (ℕ × X)) → T (is_sorted nat_cmp es) → ((q : ℕ) (v : X) → find nat_cmp q es ≡ Some v → P (q, v)) → AllByRecursion P es
  each P [] sorted h = tt
  each P (e ∷ es) sorted h =
      let parts = both (below_all nat_cmp e.0 es) (is_sorted nat_cmp es) sorted in (
        h e.0 e.1 (ap (λ b. cond b (Some e.1) (find nat_cmp e.0 es)) ((eq_by_cmp_equiv nat_cmp_total).refl e.0)),
        each P es parts.1 (λ q v f. h q v (behind e es q v parts.0 f)),
      )

  pub each_entry : (P : ℕ × X → Type 0) (m : FinMap nat_cmp X) → ((q : ℕ) (v : X) → get m q ≡ Some v → P (q, v)) → AllByRecursion P (entries m)
  each_entry P m h = each P (entries m) (entries_sorted m) (λ q v f. h q v (get-entries m q ∙ f))

  -- and what is found is among the values
  of_values : (P : X → Type 0) (es : List (ℕ × X)) (q : ℕ) (v : X) → AllByRecursion P (map (λ e. e.1) es) → find nat_cmp q es ≡ Some v → P v
  of_values P [] q v all f = absurd cc
  of_values P (e ∷ es) q v all f = go (is_eq (nat_cmp q e.0)) f (of_values P es q v all.1) where
    go : (b : Bool) → cond b (Some e.1) (find nat_cmp q es) ≡ Some v → (find nat_cmp q es ≡ Some v → P v) → P v
    go true g rest = let is : e.1 ≡ v = cc in subst P is all.0
    go false g rest = rest g

  pub of_found : (P : X → Type 0) (m : FinMap nat_cmp X) (q : ℕ) (v : X) → AllByRecursion P (map (λ e. e.1) (entries m)) → get m q ≡ Some v → P v
  of_found P m q v all f = of_values P (entries m) q v all (sym (get-entries m q) ∙ f)

pub all_map : {X Y : Type 0} (f : X → Y) (P : Y → Type 0) (xs : List X) → AllByRecursion (λ x. P (f x)) xs → AllByRecursion P (map f xs)
all_map f P [] all = tt
all_map f P (x ∷ xs) all = (all.0, all_map f P xs all.1)

pub all_filter : {X : Type 0} (test : X → Bool) (P Q : X → Type 0) → ((x : X) → P x → test x ≡ true → Q x) → (xs : List X) → AllByRecursion P xs → AllByRecursion Q (filter test xs)
all_filter test P Q h [] all = tt
all_filter test P Q h (x ∷ xs) all = go (test x) refl (all_filter test P Q h xs all.1) where
  go : (b : Bool) → test x ≡ b → AllByRecursion Q (filter test xs) → AllByRecursion Q (cond b (x ∷ filter test xs) (filter test xs))
  go true e rest = (h x all.0 e, rest)
  go false e rest = rest
