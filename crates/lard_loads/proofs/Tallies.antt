-- Running loads stay what the slots add up to, as one slot and one load change.
use Rattle.std.proofs.Common.{◌≡◌, ◌≢◌, ℕ, ◌+◌, ◌-◌, ◌<◌, ◌≤◌, Bool, true, false, cond, nat_eq, All, List, [], ◌∷◌, length, set, get_or, Option, Some, None, refl, sym, ap, subst, ◌∙◌, ◌⊎◌, inl, inr, arith}
use Rattle.std.proofs.lemmas.Bool.{cases_eq}
use Rattle.std.proofs.lemmas.Bool.Decides.{nat_tests}
use Rattle.std.proofs.lemmas.List.{get_or-set_other, get_or-set_same, length-set, length-take, set-get_or}
use Rattle.std.proofs.lemmas.List.Elements.{All-get_or, All-head, All-set, All-tail, All-weaker}
use Rattle.std.proofs.lemmas.List.Sums.{sum_by-le}
use Rattle.std.specs.FinMap as map
use Rattle.std.specs.FinMap.{get-empty}
use Rattle.std.specs.List.{filter}
use Rattle.std.specs.Ordering.{nat_cmp}
use Rattle.lard_base.specs.Members.{has}
use Rattle.lard_table.specs.Table.{put_or}
use Rattle.lard_table.proofs.Map.{get_put_other, get_put_same}
use Rattle.lard_loads.specs.declared.slot.Share.{Share}
use Rattle.lard_loads.specs.declared.slot.Slot.{Slot}
use Rattle.lard_loads.specs.Loads.{IsShare, IsSlot, IsTallied, tally_of}
use Rattle.lard_loads.specs.Running.{at_node}
use Rattle.lard_loads.specs.Slot.{shares_open_in, standing_with, standing_of, standings_from}
use Rattle.lard_loads.specs.Tally.{Standing, Tally, load_of, numbers, units_of, units_of_share}
use Rattle.lard_loads.proofs.Standings.{get-standings, len-put, one_if, standings-set}
use Rattle.lard_loads.proofs.Sums.{load-bound, load-put, one-le-load}

-- ---- a load with some units more or fewer

pub at-raised : (loads : List ℕ) (k u n : ℕ) → 1 ≤ k → k ≤ length loads → 1 ≤ n → at_node (set loads (k - 1) (at_node loads k + u)) n ≡ at_node loads n + cond (nat_eq k n) u 0
at-raised loads k u n some most low = go (nat_eq k n) refl where
  go : (b : Bool) → nat_eq k n ≡ b → at_node (set loads (k - 1) (at_node loads k + u)) n ≡ at_node loads n + cond b u 0
  go true e =
      let same : k ≡ n = grind (arith, nat_tests, e) in
      subst (λ m. at_node (set loads (k - 1) (at_node loads k + u)) m ≡ at_node loads m + u) same (get_or-set_same loads (k - 1) (at_node loads k + u) 0 (omega (arith, some, most)))
  go false e =
      let two : k ≢ n = grind (arith, nat_tests, e) in
      let stays = get_or-set_other loads (k - 1) (n - 1) (at_node loads k + u) 0 (λ f. two (omega (arith, f, some, low))) in
      omega (arith, stays)

pub at-lowered : (loads : List ℕ) (k u n : ℕ) → 1 ≤ k → k ≤ length loads → 1 ≤ n → u ≤ at_node loads k → at_node (set loads (k - 1) (at_node loads k - u)) n + cond (nat_eq k n) u 0 ≡ at_node loads n
at-lowered loads k u n some most low there = go (nat_eq k n) refl where
  go : (b : Bool) → nat_eq k n ≡ b → at_node (set loads (k - 1) (at_node loads k - u)) n + cond b u 0 ≡ at_node loads n
  go true e =
      let same : k ≡ n = grind (arith, nat_tests, e) in
      let now = get_or-set_same loads (k - 1) (at_node loads k - u) 0 (omega (arith, some, most)) in
      let sum : at_node (set loads (k - 1) (at_node loads k - u)) k + u ≡ at_node loads k = omega (arith, now, there) in
      subst (λ m. at_node (set loads (k - 1) (at_node loads k - u)) m + u ≡ at_node loads m) same sum
  go false e =
      let two : k ≢ n = grind (arith, nat_tests, e) in
      let stays = get_or-set_other loads (k - 1) (n - 1) (at_node loads k - u) 0 (λ f. two (omega (arith, f, some, low))) in
      omega (arith, stays)

-- ---- what one connection can count

share-most : (nodes n : ℕ) (x : Share) → IsShare nodes x → units_of_share n x ≤ 840
share-most nodes n x is = go (nat_eq x.node n) where
  go : (b : Bool) → cond b x.units 0 ≤ 840
  go true = is.1
  go false = omega arith

standing-most : (nodes n : ℕ) (h : Option ℕ) (xs : List Share) → length xs ≤ 8 → All (IsShare nodes) xs → units_of (standing_with h xs) n ≤ 7560
standing-most nodes n None xs few all = omega arith
standing-most nodes n (Some k) xs few all =
    let shares = sum_by-le (units_of_share n) 840 xs (All-weaker (IsShare nodes) (λ x. units_of_share n x ≤ 840) (share-most nodes n) xs all) in
    let home : cond (nat_eq k n) 840 0 ≤ 840 = go (nat_eq k n) in
    omega (arith, shares, home, few) where
      go : (b : Bool) → cond b 840 0 ≤ 840
      go true = omega arith
      go false = omega arith

pub few-shares : (s : Slot) → length (shares_open_in s) ≤ 8
few-shares s = let fits = s.fits in omega (arith, fits, length-take s.count s.shares)

slot-most : (nodes n : ℕ) (s : Slot) → IsSlot nodes s → units_of (standing_of s) n ≤ 7560
slot-most nodes n s is = standing-most nodes n s.home (shares_open_in s) (few-shares s) is.shares

-- what holds of nothing and of each slot holds of what is found
each-found : (P : Option Standing → Type 0) → P None → (a : ℕ) (ss : List Slot) → All (λ s. P (standing_of s)) ss → (c : ℕ) → P (map.get (standings_from a ss) c)
each-found P none a [] all c = subst P (sym (get-empty nat_cmp c)) none
each-found P none a (s ∷ ss) all c = go (each-found P none (a + 1) ss (All-tail (λ x. P (standing_of x)) s ss all) c) (cases_eq c a) where
  go : P (map.get (standings_from (a + 1) ss) c) → (c ≡ a) ⊎ (c ≡ a → ⊥) → P (map.get (standings_from a (s ∷ ss)) c)
  go rest (inl e) = subst P (sym (ap (map.get (standings_from a (s ∷ ss))) e ∙ get_put_same (standings_from (a + 1) ss) a (standing_of s))) (All-head (λ x. P (standing_of x)) s ss all)
  go rest (inr f) = subst P (sym (get_put_other (standings_from (a + 1) ss) a c (standing_of s) f)) rest

-- ---- a tally

module _ {loads : List ℕ} {flags : ℕ} {slots : List Slot} {admitted : ℕ} (is : IsTallied loads flags slots admitted) where
  -- a load is at most that of 16,384 connections with eight shares each
  pub load-most : (n : ℕ) → load_of (standings_from 1 slots) n ≤ 123863040
  load-most n =
      let all = All-weaker (IsSlot (length loads)) (λ s. units_of (standing_of s) n ≤ 7560) (slot-most (length loads) n) slots is.slots_in_range in
      load-bound (standings_from 1 slots) n 7560 (each-found (λ o. units_of o n ≤ 7560) (omega arith) 1 slots all)

  module _ {i : ℕ} (inside : i < 16384) {old : Slot} (was : old ≡ get_or slots i old) where
    in_slots : i < length slots
    in_slots = omega (arith, inside, is.all_slots)

    -- what the connection's slot said
    pub found : map.get (standings_from 1 slots) (i + 1) ≡ standing_of old
    found = get-standings slots i old in_slots ∙ ap standing_of (sym was)

    pub old_slot : IsSlot (length loads) old
    old_slot = subst (IsSlot (length loads)) (sym was) (All-get_or (IsSlot (length loads)) slots i old in_slots is.slots_in_range)

    -- what it counted is within the load
    pub there : (n : ℕ) → 1 ≤ n → n ≤ length loads → units_of (standing_of old) n ≤ at_node loads n
    there n some most =
        let part = one-le-load (standings_from 1 slots) n (i + 1) (omega arith) (omega (arith, inside)) in
        let e = is.running n some most in
        let f : units_of (map.get (standings_from 1 slots) (i + 1)) n ≡ units_of (standing_of old) n = ap (λ o. units_of o n) found in
        omega (arith, part, e, f)

    -- a connection that is admitted is counted
    pub some_taken : one_if (standing_of old) ≤ admitted
    some_taken =
        let gone = len-put (standings_from 1 slots) (i + 1) None in
        let part : one_if (map.get (standings_from 1 slots) (i + 1)) ≡ one_if (standing_of old) = ap one_if found in
        let count = is.counted in
        omega (arith, gone, part, count)

    -- it is another slot now, and the loads have followed
    pub changed : (s : Slot) (new : List ℕ) (new_admitted : ℕ) → length new ≡ length loads → IsSlot (length loads) s
        → ((n : ℕ) → 1 ≤ n → n ≤ length loads → at_node new n + units_of (standing_of old) n ≡ at_node loads n + units_of (standing_of s) n)
        → new_admitted + one_if (standing_of old) ≡ admitted + one_if (standing_of s)
        → IsTallied new flags (set slots i s) new_admitted
    changed s new new_admitted same in_range follow count = record {
      few = omega (arith, is.few, same);
      some_open = subst (λ k. 0 < length (filter (has flags) (numbers k))) (sym same) is.some_open;
      all_slots = length-set slots i s ∙ is.all_slots;
      slots_in_range = subst (λ k. All (IsSlot k) (set slots i s)) (sym same) (All-set (IsSlot (length loads)) slots i s in_range is.slots_in_range);
      running = running;
      counted = counted;
    } where
      now : standings_from 1 (set slots i s) ≡ put_or (standings_from 1 slots) (i + 1) (standing_of s)
      now = standings-set slots i s in_slots

      running : (n : ℕ) → 1 ≤ n → n ≤ length new → at_node new n ≡ load_of (standings_from 1 (set slots i s)) n
      running n some most =
          let fits : n ≤ length loads = omega (arith, most, same) in
          let step = load-put (standings_from 1 slots) n (i + 1) (standing_of s) (omega arith) (omega (arith, inside)) in
          let part : units_of (map.get (standings_from 1 slots) (i + 1)) n ≡ units_of (standing_of old) n = ap (λ o. units_of o n) found in
          let change = follow n some fits in
          let before = is.running n some fits in
          let after : load_of (standings_from 1 (set slots i s)) n ≡ load_of (put_or (standings_from 1 slots) (i + 1) (standing_of s)) n = ap (λ m. load_of m n) now in
          omega (arith, step, part, change, before, after)

      counted : new_admitted ≡ map.len (standings_from 1 (set slots i s))
      counted =
          let step = len-put (standings_from 1 slots) (i + 1) (standing_of s) in
          let part : one_if (map.get (standings_from 1 slots) (i + 1)) ≡ one_if (standing_of old) = ap one_if found in
          let before = is.counted in
          let after : map.len (standings_from 1 (set slots i s)) ≡ map.len (put_or (standings_from 1 slots) (i + 1) (standing_of s)) = ap map.len now in
          omega (arith, step, part, count, before, after)

    -- and it is what is seen
    pub seen : (s : Slot) (new : List ℕ) → length new ≡ length loads
        → tally_of (length new) flags (set slots i s) ≡ record (tally_of (length loads) flags slots) { standings = put_or (standings_from 1 slots) (i + 1) (standing_of s) }
    seen s new same = λ j. record {
      nodes = same j;
      open_nodes = filter (has flags) (numbers (same j));
      standings = standings-set slots i s in_slots j;
    }

    -- in the words of the tally before
    pub seen_as : (s : Slot) (new : List ℕ) {t : Tally} {c : ℕ} {o : Option Standing} → length new ≡ length loads → tally_of (length loads) flags slots ≡ t → i + 1 ≡ c → standing_of s ≡ o
        → tally_of (length new) flags (set slots i s) ≡ record t { standings = put_or t.standings c o }
    seen_as s new {t} {c} {o} same is_t is_c is_o =
        let Q : Tally → Type 0 = λ (u : Tally). tally_of (length new) flags (set slots i s) ≡ record u { standings = put_or u.standings (i + 1) (standing_of s) } in
        let R : ℕ → Type 0 = λ (d : ℕ). tally_of (length new) flags (set slots i s) ≡ record t { standings = put_or t.standings d (standing_of s) } in
        let U : Option Standing → Type 0 = λ (p : Option Standing). tally_of (length new) flags (set slots i s) ≡ record t { standings = put_or t.standings c p } in
        subst U is_o (subst R is_c (subst Q is_t (seen s new same)))

    -- what the connection's slot said, in the words of the tally
    pub found_in : {t : Tally} {c : ℕ} → tally_of (length loads) flags slots ≡ t → i + 1 ≡ c → map.get t.standings c ≡ standing_of old
    found_in {t} {c} is_t is_c =
        let Q : Tally → Type 0 = λ (u : Tally). map.get u.standings (i + 1) ≡ standing_of old in
        let R : ℕ → Type 0 = λ (d : ℕ). map.get t.standings d ≡ standing_of old in
        subst R is_c (subst Q is_t found)

    -- the slot stays as it was
    pub kept : {s : Slot} → s ≡ old → set slots i s ≡ slots
    kept {s} same = ap (set slots i) (same ∙ was) ∙ set-get_or slots i old
