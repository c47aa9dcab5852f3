-- The entries of a `BTreeMap` are those of the finite map that it is seen as.
use Rattle.std.proofs.Common.{◌≡◌, ℕ, ◌<◌, arith, List, [], ◌∷◌, length, Result, Ok, Err, OnOk, OnErr, refl, sym, ap, ◌∙◌}
use Rattle.std.proofs.lemmas.Map.Keys.{sorted_head, sorted_tail}
use Rattle.std.proofs.lemmas.List.Elements.{All-same}
use Rattle.std.proofs.lemmas.Map.Views.{All-keys-insert_entry}
use Rattle.std.specs.BTreeMap.{insert_entry}
use Rattle.std.specs.List.{All, AllByRecursion}
use Rattle.std.specs.List.Sorted.{IsStrictlySortedBy}
use Rattle.std.specs.Ordering.{nat_cmp}
use Rattle.std.specs.declared.cmp.Ordering.TheVariants.{Less}
use Rattle.std.specs.Cmp.{nat_cmp_total}
use Rattle.std.specs.FinMap as map
use Rattle.std.specs.FinMap.{entries-insert, len-empty, len-entries, put}
use Rattle.std.specs.Map.{keys_of}

module _ {X : Type 0} where
  no_entries : (es : List (ℕ × X)) → length es ≡ 0 → es ≡ []
  no_entries [] e = refl
  no_entries (e ∷ es) n = absurd (omega (arith, n))

  -- below all others, an entry is put in front
  put_first : (k : ℕ) (v : X) (es : List (ℕ × X)) → AllByRecursion (λ y. nat_cmp k y ≡ Less) (keys_of es) → put nat_cmp k v es ≡ (k, v) ∷ es
  put_first k v [] below = refl
  put_first k v (e ∷ es) below = rw below.0 refl

  pub entries_are : (es : List (ℕ × X)) → IsStrictlySortedBy nat_cmp (keys_of es) → map.entries (map.from_entries {R = nat_cmp} es) ≡ es
  entries_are [] sorted = no_entries _ (sym (len-entries (map.empty {X = X} {R = nat_cmp})) ∙ len-empty nat_cmp X)
  entries_are (e ∷ es) sorted =
      entries-insert nat_cmp_total (map.from_entries {R = nat_cmp} es) e.0 e.1
      ∙ ap (put nat_cmp e.0 e.1) (entries_are es (sorted_tail nat_cmp e.0 (keys_of es) sorted))
      ∙ put_first e.0 e.1 es (sorted_head nat_cmp e.0 (keys_of es) sorted)

  -- numbers below a bound stay so, whether an entry was put in or there was no memory
  pub put_below : {T E : Type 0} (r : Result T E) (n k : ℕ) (v : X) (es fs : List (ℕ × X)) → OnOk r (fs ≡ insert_entry nat_cmp es k v) → OnErr r (fs ≡ es)
      → k < n → All (λ x. x < n) (keys_of es) → All (λ x. x < n) (keys_of fs)
  put_below (Ok x) n k v es fs ok err less all = All-same (λ x. x < n) _ _ (ap keys_of ok) (All-keys-insert_entry nat_cmp k v (λ x. x < n) es all less)
  put_below (Err e) n k v es fs ok err less all = All-same (λ x. x < n) _ _ (ap keys_of err) all
