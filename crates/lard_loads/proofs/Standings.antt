-- Slots in a row as a finite map: what is found, what changes with one slot, and how many are taken.
use Rattle.std.proofs.Common.{◌≡◌, ℕ, zero, suc, ◌+◌, ◌-◌, ◌<◌, ◌≤◌, cond, List, [], ◌∷◌, length, set, get_or, Option, Some, None, is_some, refl, sym, ap, subst, ◌∙◌, ◌⊎◌, inl, inr, arith}
use Rattle.std.proofs.lemmas.Bool.{cases_eq, cases_lt}
use Rattle.std.specs.Cmp.{nat_cmp_total}
use Rattle.std.specs.FinMap as map
use Rattle.std.specs.FinMap.{FinMap, get-empty, len-empty, len-insert, len-remove, nat_cmp-IsAntisymmetric, same_map}
use Rattle.std.specs.Ordering.{nat_cmp}
use Rattle.std.specs.Prelude.{slice_get}
use Rattle.lard_table.specs.Table.{put_or}
use Rattle.lard_table.proofs.Map.{get_put_other, get_put_same, some_len}
use Rattle.lard_loads.specs.declared.slot.Slot.{Slot}
use Rattle.lard_loads.specs.Slot.{standing_of, standings_from}
use Rattle.lard_loads.specs.Tally.{Standing}

abbrev standing_in : Option Slot → Option Standing
standing_in None = None
standing_in (Some s) = standing_of s

-- below the first there is nothing
get-below : (a : ℕ) (ss : List Slot) (q : ℕ) → q < a → map.get (standings_from a ss) q ≡ None
get-below a [] q h = get-empty nat_cmp q
get-below a (s ∷ ss) q h = get_put_other (standings_from (a + 1) ss) a q (standing_of s) (λ e. omega (arith, e, h)) ∙ get-below (a + 1) ss q (omega (arith, h))

get-from : (a : ℕ) (ss : List Slot) (i : ℕ) → map.get (standings_from a ss) (a + i) ≡ standing_in (slice_get ss i)
get-from a [] i = get-empty nat_cmp (a + i)
get-from a (s ∷ ss) zero = ap (map.get (standings_from a (s ∷ ss))) (let e : a + 0 ≡ a = omega arith in e) ∙ get_put_same (standings_from (a + 1) ss) a (standing_of s)
get-from a (s ∷ ss) (suc i) =
    get_put_other (standings_from (a + 1) ss) a (a + suc i) (standing_of s) (λ e. omega (arith, e))
    ∙ ap (map.get (standings_from (a + 1) ss)) (let e : a + suc i ≡ a + 1 + i = omega arith in e) ∙ get-from (a + 1) ss i

slice_get_set_same : (ss : List Slot) (i : ℕ) (s : Slot) → i < length ss → slice_get (set ss i s) i ≡ Some s
slice_get_set_same [] i s h = absurd (omega (arith, h))
slice_get_set_same (x ∷ ss) zero s h = refl
slice_get_set_same (x ∷ ss) (suc i) s h = slice_get_set_same ss i s (omega (arith, h))

slice_get_set_other : (ss : List Slot) (i j : ℕ) (s : Slot) → (j ≡ i → ⊥) → slice_get (set ss i s) j ≡ slice_get ss j
slice_get_set_other [] i j s f = refl
slice_get_set_other (x ∷ ss) zero zero s f = absurd (f refl)
slice_get_set_other (x ∷ ss) zero (suc j) s f = refl
slice_get_set_other (x ∷ ss) (suc i) zero s f = refl
slice_get_set_other (x ∷ ss) (suc i) (suc j) s f = slice_get_set_other ss i j s (λ e. f (ap suc e))

slice_get_in : (ss : List Slot) (i : ℕ) (d : Slot) → i < length ss → slice_get ss i ≡ Some (get_or ss i d)
slice_get_in [] i d h = absurd (omega (arith, h))
slice_get_in (x ∷ ss) zero d h = refl
slice_get_in (x ∷ ss) (suc i) d h = slice_get_in ss i d (omega (arith, h))

-- ---- all slots, from the first connection on

-- what a connection's slot says
pub get-standings : (ss : List Slot) (i : ℕ) (d : Slot) → i < length ss → map.get (standings_from 1 ss) (i + 1) ≡ standing_of (get_or ss i d)
get-standings ss i d h = ap (map.get (standings_from 1 ss)) (let e : i + 1 ≡ 1 + i = omega arith in e) ∙ get-from 1 ss i ∙ ap standing_in (slice_get_in ss i d h)

-- one slot says another thing
pub standings-set : (ss : List Slot) (i : ℕ) (s : Slot) → i < length ss → standings_from 1 (set ss i s) ≡ put_or (standings_from 1 ss) (i + 1) (standing_of s)
standings-set ss i s h = same_map nat_cmp_total nat_cmp-IsAntisymmetric _ _ (λ q. go q (cases_lt q 1)) where
  at : (j : ℕ) → (j ≡ i) ⊎ (j ≡ i → ⊥) → map.get (standings_from 1 (set ss i s)) (1 + j) ≡ map.get (put_or (standings_from 1 ss) (i + 1) (standing_of s)) (1 + j)
  at j (inl e) = get-from 1 (set ss i s) j ∙ ap (λ k. standing_in (slice_get (set ss i s) k)) e ∙ ap standing_in (slice_get_set_same ss i s h)
      ∙ sym (get_put_same (standings_from 1 ss) (i + 1) (standing_of s)) ∙ ap (map.get (put_or (standings_from 1 ss) (i + 1) (standing_of s))) (let f : i + 1 ≡ 1 + j = omega (arith, e) in f)
  at j (inr n) = get-from 1 (set ss i s) j ∙ ap standing_in (slice_get_set_other ss i j s n) ∙ sym (get-from 1 ss j)
      ∙ sym (get_put_other (standings_from 1 ss) (i + 1) (1 + j) (standing_of s) (λ e. n (omega (arith, e))))

  go : (q : ℕ) → (q < 1) ⊎ (1 ≤ q) → map.get (standings_from 1 (set ss i s)) q ≡ map.get (put_or (standings_from 1 ss) (i + 1) (standing_of s)) q
  go q (inl k) = get-below 1 (set ss i s) q k ∙ sym (get_put_other (standings_from 1 ss) (i + 1) q (standing_of s) (λ e. omega (arith, e, k)) ∙ get-below 1 ss q k)
  go q (inr k) =
      let e : 1 + (q - 1) ≡ q = omega (arith, k) in
      subst (λ x. map.get (standings_from 1 (set ss i s)) x ≡ map.get (put_or (standings_from 1 ss) (i + 1) (standing_of s)) x) e (at (q - 1) (cases_eq (q - 1) i))

-- ---- how many are taken

abbrev pub one_if : Option Standing → ℕ
one_if None = 0
one_if (Some s) = 1

-- one more, or one fewer
pub len-put : (m : FinMap nat_cmp Standing) (c : ℕ) (o : Option Standing) → map.len (put_or m c o) + one_if (map.get m c) ≡ map.len m + one_if o
len-put m c None = go (map.get m c) refl where
  go : (p : Option Standing) → map.get m c ≡ p → map.len (map.remove m c) + one_if p ≡ map.len m + 0
  go None e = let h : map.len (map.remove m c) ≡ map.len m = len-remove nat_cmp_total m c ∙ ap (λ r. cond (is_some r) (map.len m - 1) (map.len m)) e in omega (arith, h)
  go (Some s) e =
      let h : map.len (map.remove m c) ≡ map.len m - 1 = len-remove nat_cmp_total m c ∙ ap (λ r. cond (is_some r) (map.len m - 1) (map.len m)) e in
      let some = some_len m c s e in omega (arith, h, some)
len-put m c (Some s) = go (map.get m c) refl where
  go : (p : Option Standing) → map.get m c ≡ p → map.len (map.insert m c s) + one_if p ≡ map.len m + 1
  go None e = let h : map.len (map.insert m c s) ≡ map.len m + 1 = len-insert nat_cmp_total m c s ∙ ap (λ r. cond (is_some r) (map.len m) (map.len m + 1)) e in omega (arith, h)
  go (Some t) e = let h : map.len (map.insert m c s) ≡ map.len m = len-insert nat_cmp_total m c s ∙ ap (λ r. cond (is_some r) (map.len m) (map.len m + 1)) e in omega (arith, h)

one-le : (o : Option Standing) → one_if o ≤ 1
one-le None = omega arith
one-le (Some s) = omega arith

len-from : (a : ℕ) (ss : List Slot) → map.len (standings_from a ss) ≤ length ss
len-from a [] = let e = len-empty nat_cmp Standing in omega (arith, e)
len-from a (s ∷ ss) =
    let rest = len-from (a + 1) ss in
    let more = len-put (standings_from (a + 1) ss) a (standing_of s) in
    let one = one-le (standing_of s) in
    omega (arith, rest, more, one)

pub len-standings : (ss : List Slot) → map.len (standings_from 1 ss) ≤ length ss
len-standings ss = len-from 1 ss
