-- The entries of a `BTreeMap` stand in the order of their numbers: how many there are, and which comes next.
use Rattle.std.proofs.Common.{false, ◌≡◌, ℕ, ◌<◌, ◌≤◌, ◌+◌, arith, is_some, List, [], ◌∷◌, length, cond, Some, None, IsSome, IfSome, Option, refl, sym, ap, subst, ◌∙◌}
use Rattle.std.proofs.lemmas.Bool.Decides.{nat_tests}
use Rattle.std.proofs.lemmas.Map.Keys.{sorted_head, sorted_tail}
use Rattle.std.specs.Prelude.{slice_get}
use Rattle.std.specs.List.{AllByRecursion}
use Rattle.std.specs.List.Sorted.{IsStrictlySortedBy}
use Rattle.std.specs.Ordering.{nat_cmp, is_eq, is_gt}
use Rattle.std.specs.declared.cmp.Ordering.TheVariants.{Less}
use Rattle.std.specs.declared.ops.Bound.TheVariants.{Excluded, Unbounded}
use Rattle.std.specs.Cmp.{nat_cmp_total}
use Rattle.std.specs.FinMap as map
use Rattle.std.specs.FinMap.{find, get-from_entries, len-empty, len-insert}
use Rattle.std.specs.BTreeMap as tree
use Rattle.std.specs.BTreeMap.{BTreeMap}
use Rattle.std.specs.BTreeMap.Range.{IsEntryInRange, IsRangeOf}
use Rattle.std.specs.Map.{keys_of}
use Rattle.lard_table.specs.Table.{IsLast, IsNextAbove}
use Rattle.lard_table.proofs.Map.{get_is, map_of}

-- the order of numbers, as the map compares them
below : (m n : ℕ) → m < n → nat_cmp m n ≡ Less
below m n h = grind (arith, nat_tests, h)

is_below : (m n : ℕ) → nat_cmp m n ≡ Less → m < n
is_below m n h = grind (arith, nat_tests, h)

not_above : (m n : ℕ) → is_gt (nat_cmp m n) ≡ false → m ≤ n
not_above m n h = grind (arith, nat_tests, h)

module _ {X : Type 0} where
  -- a number below all others is not among them
  absent : (k : ℕ) (es : List (ℕ × X)) → AllByRecursion (λ y. nat_cmp k y ≡ Less) (keys_of es) → find nat_cmp k es ≡ None
  absent k [] all = refl
  absent k (e ∷ es) all = ap (λ o. cond (is_eq o) (Some e.1) (find nat_cmp k es)) all.0 ∙ absent k es all.1

  pub len_is : (es : List (ℕ × X)) → IsStrictlySortedBy nat_cmp (keys_of es) → map.len (map.from_entries {R = nat_cmp} es) ≡ length es
  len_is [] sorted = len-empty nat_cmp X
  len_is (e ∷ es) sorted =
      let new : map.get (map.from_entries {R = nat_cmp} es) e.0 ≡ None = get-from_entries nat_cmp_total es e.0 ∙ absent e.0 es (sorted_head nat_cmp e.0 (keys_of es) sorted) in
      let less : map.len (map.from_entries {R = nat_cmp} es) ≡ length es = len_is es (sorted_tail nat_cmp e.0 (keys_of es) sorted) in
      len-insert nat_cmp_total (map.from_entries es) e.0 e.1
      ∙ ap (λ o. cond (is_some o) (map.len (map.from_entries {R = nat_cmp} es)) (map.len (map.from_entries {R = nat_cmp} es) + 1)) new
      ∙ omega (arith, less)

  -- the first of the entries above a number
  pub next_found : (m : BTreeMap ℕ X) (number : ℕ) (r t : List (ℕ × X)) (e : ℕ × X) → IsRangeOf nat_cmp (Excluded number) Unbounded m r → r ≡ e ∷ t → IsNextAbove (map_of m) number e.0 e.1
  next_found m number r t e is first = record { above = is_below number e.0 one.0.0; found = get_is m e.0 ∙ one.1; least = λ q h k. get_is m q ∙ go q h k (tree.get nat_cmp m q) refl } where
    one : IsEntryInRange nat_cmp (Excluded number) Unbounded m e
    one = subst (λ (es : List (ℕ × X)). IfSome (slice_get es 0) (IsEntryInRange nat_cmp (Excluded number) Unbounded m)) first is.1

    go : (q : ℕ) → number < q → q < e.0 → (o : Option X) → tree.get nat_cmp m q ≡ o → tree.get nat_cmp m q ≡ None
    go q h k None f = f
    go q h k (Some x) f =
        let there : IsSome (tree.get nat_cmp m q) = subst (λ (o : Option X). IsSome o) (sym f) refl in
        let first_le : is_gt (nat_cmp e.0 q) ≡ false = subst (λ (es : List (ℕ × X)). IfSome (slice_get es 0) (λ d. is_gt (nat_cmp d.0 q) ≡ false)) first (is.2 q (below number q h, tt) there) in
        absurd (omega (arith, k, not_above e.0 q first_le))

  pub none_found : (m : BTreeMap ℕ X) (number : ℕ) (r : List (ℕ × X)) → IsRangeOf nat_cmp (Excluded number) Unbounded m r → r ≡ [] → IsLast (map_of m) number
  none_found m number r is none = λ above h. get_is m above ∙ is.5 none above (below number above h, tt)
