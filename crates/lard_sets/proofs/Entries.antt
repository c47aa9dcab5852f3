-- The entries of the map of vectors, seen as pairs of a target and its set.
use Rattle.std.proofs.Common.{◌≡◌, ℕ, Bool, true, false, List, [], ◌∷◌, map, Option, Some, None, is_some, unwrap_or, cond, refl, sym, ap, ◌∙◌, Vec, Global, zero, suc, length, take}
use Rattle.std.proofs.lemmas.List.{length-map}
use Rattle.std.specs.Str.{bytes_eq}
use Rattle.std.specs.Map.{lookup, set_value}
use Rattle.indexmap.specs.IndexMap.{insert_entry}
use Rattle.lard_sets.specs.declared.sets.ServerSet.{ServerSet}
use Rattle.lard_sets.specs.Sets.{sets_shown, no_servers, place, has_place, set_of, put, touched, without_member, sets_closed}

-- a look-up among the entries is one among the pairs
pub lookup-shown : (es : List (Vec ℕ Global × ServerSet)) (q : List ℕ) → lookup (λ k. bytes_eq q k.items) es ≡ place (sets_shown es) q
lookup-shown [] q = refl
lookup-shown (e ∷ es) q = ap (λ o. cond {A = Option ServerSet} (bytes_eq q e.0.items) (Some e.1) o) (lookup-shown es q)

-- an entry that is inserted is put
pub shown-insert : (es : List (Vec ℕ Global × ServerSet)) (k : Vec ℕ Global) (v : ServerSet)
    → sets_shown (insert_entry (λ x y. bytes_eq x.items y.items) es k v) ≡ put (sets_shown es) k.items v
shown-insert [] k v = refl
shown-insert (e ∷ es) k v = go (bytes_eq k.items e.0.items) (shown-insert es k v) where
  go : (b : Bool) → sets_shown (insert_entry (λ x y. bytes_eq x.items y.items) es k v) ≡ put (sets_shown es) k.items v
      → sets_shown (cond b ((e.0, v) ∷ es) (e ∷ insert_entry (λ x y. bytes_eq x.items y.items) es k v)) ≡ cond b ((e.0.items, v) ∷ sets_shown es) ((e.0.items, e.1) ∷ put (sets_shown es) k.items v)
  go true more = refl
  go false more = ap (λ xs. (e.0.items, e.1) ∷ xs) more

-- a set that is written in its place is put, where the target has a place
pub shown-set_value : (es : List (Vec ℕ Global × ServerSet)) (q : List ℕ) (v : ServerSet) → is_some (lookup (λ k. bytes_eq q k.items) es) ≡ true
    → sets_shown (set_value (λ k. bytes_eq q k.items) es v) ≡ put (sets_shown es) q v
shown-set_value [] q v there = cc
shown-set_value (e ∷ es) q v there = go (shown-set_value es q v) (bytes_eq q e.0.items) there where
  go : (is_some (lookup (λ k. bytes_eq q k.items) es) ≡ true → sets_shown (set_value (λ k. bytes_eq q k.items) es v) ≡ put (sets_shown es) q v)
      → (b : Bool) → is_some (cond {A = Option ServerSet} b (Some e.1) (lookup (λ k. bytes_eq q k.items) es)) ≡ true
      → sets_shown (cond b ((e.0, v) ∷ es) (e ∷ set_value (λ k. bytes_eq q k.items) es v)) ≡ cond b ((e.0.items, v) ∷ sets_shown es) ((e.0.items, e.1) ∷ put (sets_shown es) q v)
  go more true h = refl
  go more false h = ap (λ xs. (e.0.items, e.1) ∷ xs) (more h)

-- a target's own set in its place changes nothing
pub put_same : (sets : List (List ℕ × ServerSet)) (q : List ℕ) → has_place sets q ≡ true → touched sets q ≡ sets
put_same [] q there = cc
put_same (e ∷ es) q there = go (put_same es q) (bytes_eq q e.0) there where
  go : (has_place es q ≡ true → touched es q ≡ es) → (b : Bool) → is_some (cond {A = Option ServerSet} b (Some e.1) (place es q)) ≡ true
      → cond b ((e.0, unwrap_or (cond {A = Option ServerSet} b (Some e.1) (place es q)) no_servers) ∷ es)
      (e ∷ put es q (unwrap_or (cond {A = Option ServerSet} b (Some e.1) (place es q)) no_servers)) ≡ e ∷ es
  go more true h = refl
  go more false h = ap (λ xs. e ∷ xs) (more h)

-- a node that is taken out of each entry's set is taken out of each pair's
pub shown-closed : (es : List (Vec ℕ Global × ServerSet)) (n : ℕ)
    → sets_shown (map (λ e. (e.0, record e.1 { members = without_member e.1.members n })) es) ≡ sets_closed (sets_shown es) n
shown-closed [] n = refl
shown-closed (e ∷ es) n = ap (λ xs. (e.0.items, record e.1 { members = without_member e.1.members n }) ∷ xs) (shown-closed es n)

-- what a look-up among the entries found is in the place that is kept
pub found : (es : List (Vec ℕ Global × ServerSet)) (sets : List (List ℕ × ServerSet)) (q : List ℕ) (o : Option ServerSet)
    → sets_shown es ≡ sets → o ≡ lookup (λ k. bytes_eq q k.items) es → place sets q ≡ o
found es sets q o seen h = ap (λ m. place m q) (sym seen) ∙ sym (lookup-shown es q) ∙ sym h

-- what was written to the set that was found is put
pub written : (es fs : List (Vec ℕ Global × ServerSet)) (sets : List (List ℕ × ServerSet)) (q : List ℕ) (old new : ServerSet)
    → sets_shown es ≡ sets → Some old ≡ lookup (λ k. bytes_eq q k.items) es → fs ≡ set_value (λ k. bytes_eq q k.items) es new → sets_shown fs ≡ put sets q new
written es fs sets q old new seen h e = ap sets_shown e ∙ shown-set_value es q new (ap is_some (sym h)) ∙ ap (λ m. put m q new) seen

-- a target that has no place has no servers
pub none_there : (sets : List (List ℕ × ServerSet)) (q : List ℕ) → place sets q ≡ None → set_of sets q ≡ no_servers
none_there sets q h = ap (λ o. unwrap_or o no_servers) h

pub not_there : (sets : List (List ℕ × ServerSet)) (q : List ℕ) → has_place sets q ≡ false → place sets q ≡ None
not_there sets q h = go (place sets q) h where
  go : (o : Option ServerSet) → is_some o ≡ false → o ≡ None
  go None h = refl
  go (Some s) h = cc

-- there are as many pairs as entries
pub length-shown : (es : List (Vec ℕ Global × ServerSet)) → length (sets_shown es) ≡ length es
length-shown es = length-map es (λ e. (e.0.items, e.1))

-- the first entries are seen as the first pairs
pub take-shown : (n : ℕ) (es : List (Vec ℕ Global × ServerSet)) → sets_shown (take n es) ≡ take n (sets_shown es)
take-shown zero es = refl
take-shown (suc n) [] = refl
take-shown (suc n) (e ∷ es) = ap (λ (xs : List (List ℕ × ServerSet)). (e.0.items, e.1) ∷ xs) (take-shown n es)
