-- Sums over all connections: how many are admitted, and how much they count where each counts so much at most, at one node
-- and at all nodes together.
use Rattle.std.proofs.Common.{◌≡◌, ℕ, zero, suc, ◌+◌, ◌*◌, ◌≤◌, Bool, true, false, cond, nat_eq, List, [], ◌∷◌, sum_by, Option, Some, None, refl, ap, subst, ◌∙◌, arith}
use Rattle.std.proofs.lemmas.Bool.{cond_both}
use Rattle.std.proofs.lemmas.Bool.Decides.{nat_tests}
use Rattle.std.proofs.lemmas.List.Sums.{sum_by-cons}
use Rattle.std.specs.FinMap as fin
use Rattle.std.specs.FinMap.{FinMap, get-empty, len-empty}
use Rattle.std.specs.List.{range_with_len}
use Rattle.std.specs.Ordering.{nat_cmp}
use Rattle.lard_table.specs.Table.{put_or}
use Rattle.lard_table.proofs.Map.{get_put_other, get_put_same}
use Rattle.lard_loads.specs.declared.slot.Share.{Share as Part}
use Rattle.lard_loads.specs.Charges.{BatchOver, LoadCall, Connect, MayCall, MayCallAll, Release, Share, tally_after, tally_after_all}
use Rattle.lard_loads.specs.Tally.{Standing, Tally, admitted, connections, batch_ended_with, load_of, most_connections, numbers, sharing, tally_start, units_of, units_of_share}
use Rattle.lard_loads.proofs.Charged.{each_sum, none_left, two_sums, zeros}
use Rattle.lard_loads.proofs.Standings.{len-put, one_if}
use Rattle.lard_loads.proofs.Sums.{changed_sum, most-is}

-- ---- what is counted of each connection

-- one of them counts another amount
pub sum-put : (g : Option Standing → ℕ) (m : FinMap nat_cmp Standing) (c : ℕ) (o : Option Standing) → 1 ≤ c → c ≤ 16384
    → sum_by (λ q. g (fin.get (put_or m c o) q)) connections + g (fin.get m c) ≡ sum_by (λ q. g (fin.get m q)) connections + g o
sum-put g m c o low high =
    let here : g (fin.get (put_or m c o) c) ≡ g o = ap g (get_put_same m c o) in
    let sum = changed_sum (λ q. g (fin.get (put_or m c o) q)) (λ q. g (fin.get m q)) c 1 most_connections low (omega (arith, high, most-is)) (λ q f. ap g (get_put_other m c q o f)) in
    omega (arith, sum, here)

abbrev pub nobody : FinMap nat_cmp Standing
nobody = fin.empty

-- where none is admitted, and none counts nothing, the sum is nothing
pub sum-empty : (g : Option Standing → ℕ) → g None ≡ 0 → sum_by (λ q. g (fin.get nobody q)) connections ≡ 0
sum-empty g zero_none = none 1 most_connections where
  none : (a k : ℕ) → sum_by (λ q. g (fin.get nobody q)) (range_with_len a k) ≡ 0
  none a zero = refl
  none a (suc k) =
      let rest = none (a + 1) k in
      let one : g (fin.get nobody a) ≡ 0 = ap g (get-empty nat_cmp a) ∙ zero_none in
      omega (arith, rest, one, sum_by-cons (λ q. g (fin.get nobody q)) a (range_with_len (a + 1) k))

-- ---- the admitted, by their numbers

-- how many of the numbers that a connection can have are admitted
unfoldable pub admitted_among : FinMap nat_cmp Standing → ℕ
admitted_among m = sum_by (λ c. one_if (fin.get m c)) connections

among-put : (m : FinMap nat_cmp Standing) (c : ℕ) (o : Option Standing) → 1 ≤ c → c ≤ 16384 → admitted_among (put_or m c o) + one_if (fin.get m c) ≡ admitted_among m + one_if o
unfolding admitted_among
among-put m c o low high = sum-put one_if m c o low high

among-empty : admitted_among nobody ≡ 0
unfolding admitted_among
among-empty = sum-empty one_if refl

-- the admitted are all among these numbers
abbrev pub AreAmong : Tally → Type 0
AreAmong t = admitted_among t.standings ≡ admitted t

pub among-kept : (t : Tally) (c : ℕ) (o : Option Standing) → 1 ≤ c → c ≤ 16384 → AreAmong t → AreAmong (record t { standings = put_or t.standings c o })
among-kept t c o low high are = let counted = among-put t.standings c o low high in let len = len-put t.standings c o in omega (arith, counted, len, are)

among-called : (t : Tally) (call : LoadCall) → MayCall t call → AreAmong t → AreAmong (tally_after t call)
among-called t (Connect c n) may are = among-kept t c (Some (record { home = n; shares = [] })) may.0.0 may.0.1 are
among-called t (Release c) may are = among-kept t c None may.0.0 may.0.1 are
among-called t (Share c n size) may are = go (fin.get t.standings c) where
  go : (o : Option Standing) → AreAmong (sharing t c n size o)
  go None = are
  go (Some s) = cond_both (nat_eq n s.home) t _ AreAmong (λ _. are) (λ _. among-kept t c (Some _) may.0.0 may.0.1 are)
among-called t (BatchOver c) may are = go (fin.get t.standings c) where
  go : (o : Option Standing) → AreAmong (batch_ended_with t c o)
  go None = are
  go (Some s) = among-kept t c (Some (record s { shares = [] })) may.0.0 may.0.1 are

pub among-all : (t : Tally) (calls : List LoadCall) → MayCallAll t calls → AreAmong t → AreAmong (tally_after_all t calls)
among-all t [] may are = are
among-all t (call ∷ calls) may are = among-all (tally_after t call) calls may.1 (among-called t call may.0 are)

pub all_among : (nodes : ℕ) (calls : List LoadCall) → MayCallAll (tally_start nodes) calls → AreAmong (tally_after_all (tally_start nodes) calls)
all_among nodes calls may = let none = len-empty nat_cmp Standing in among-all (tally_start nodes) calls may (omega (arith, among-empty, none))

-- ---- sums of bounded terms

bounded : (f g : ℕ → ℕ) → ((q : ℕ) → f q ≤ 840 * g q) → (qs : List ℕ) → sum_by f qs ≤ 840 * sum_by g qs
bounded f g each [] = omega arith
bounded f g each (q ∷ qs) = let rest = bounded f g each qs in let one = each q in omega (arith, rest, one, sum_by-cons f q qs, sum_by-cons g q qs)

-- and the other way round
bounded_below : (f g : ℕ → ℕ) → ((q : ℕ) → 840 * g q ≤ f q) → (qs : List ℕ) → 840 * sum_by g qs ≤ sum_by f qs
bounded_below f g each [] = omega arith
bounded_below f g each (q ∷ qs) = let rest = bounded_below f g each qs in let one = each q in omega (arith, rest, one, sum_by-cons f q qs, sum_by-cons g q qs)

doubled : (g : ℕ → ℕ) (qs : List ℕ) → sum_by (λ q. 2 * g q) qs ≡ 2 * sum_by g qs
doubled g [] = refl
doubled g (q ∷ qs) = let rest = doubled g qs in omega (arith, rest, sum_by-cons (λ p. 2 * g p) q qs, sum_by-cons g q qs)

-- sums of sums, in either order
turned : (f : ℕ → ℕ → ℕ) (qs : List ℕ) (a k : ℕ) → sum_by (λ n. sum_by (λ q. f q n) qs) (range_with_len a k) ≡ sum_by (λ q. sum_by (f q) (range_with_len a k)) qs
turned f [] a k = zeros a k
turned f (q ∷ qs) a k =
    let rest = turned f qs a k in
    let split = two_sums (λ n. sum_by (λ p. f p n) (q ∷ qs)) (f q) (λ n. sum_by (λ p. f p n) qs) (λ n. sum_by-cons (λ p. f p n) q qs) (range_with_len a k) in
    omega (arith, rest, split, sum_by-cons (λ p. sum_by (f p) (range_with_len a k)) q qs)

-- where a number is a node's, it counts once among all nodes, and else not at all
at_most_once : (k u a many : ℕ) → sum_by (λ n. cond (nat_eq k n) u 0) (range_with_len a many) ≤ u
at_most_once k u a zero = omega arith
at_most_once k u a (suc many) = go (nat_eq k a) refl (at_most_once k u (a + 1) many) where
  all : sum_by (λ n. cond (nat_eq k n) u 0) (range_with_len a (suc many)) ≡ cond (nat_eq k a) u 0 + sum_by (λ n. cond (nat_eq k n) u 0) (range_with_len (a + 1) many)
  all = sum_by-cons (λ n. cond (nat_eq k n) u 0) a (range_with_len (a + 1) many)

  go : (b : Bool) → nat_eq k a ≡ b → sum_by (λ n. cond (nat_eq k n) u 0) (range_with_len (a + 1) many) ≤ u → sum_by (λ n. cond (nat_eq k n) u 0) (range_with_len a (suc many)) ≤ u
  go true e more =
      let first : cond (nat_eq k a) u 0 ≡ u = ap (λ b. cond b u 0) e in
      let same : k ≡ a = grind (arith, nat_tests, e) in
      let rest = none_left k u (a + 1) many (omega (arith, same)) in
      omega (arith, all, first, rest)
  go false e more = let first : cond (nat_eq k a) u 0 ≡ 0 = ap (λ b. cond b u 0) e in omega (arith, all, first, more)

-- ---- what one connection counts

-- its shares at one node are some of its shares
share-le : (n : ℕ) (xs : List Part) → sum_by (units_of_share n) xs ≤ sum_by (λ x. x.units) xs
share-le n [] = omega arith
share-le n (x ∷ xs) =
    let rest = share-le n xs in
    let one : units_of_share n x ≤ x.units = cond_both (nat_eq x.node n) x.units 0 (λ u. u ≤ x.units) (λ _. omega arith) (λ _. omega arith) in
    omega (arith, rest, one, sum_by-cons (units_of_share n) x xs, sum_by-cons (λ (y : Part). y.units) x xs)

-- with shares away from home, of at most a whole together, it counts a whole at most at one node
pub one_node_within : (o : Option Standing) (n : ℕ) → ((s : Standing) → o ≡ Some s → (sum_by (units_of_share s.home) s.shares ≡ 0) × (sum_by (λ x. x.units) s.shares ≤ 840)) → units_of o n ≤ 840 * one_if o
one_node_within None n are = omega arith
one_node_within (Some s) n are = go (nat_eq s.home n) refl where
  few : (sum_by (units_of_share s.home) s.shares ≡ 0) × (sum_by (λ x. x.units) s.shares ≤ 840)
  few = are s refl

  go : (b : Bool) → nat_eq s.home n ≡ b → cond b 840 0 + sum_by (units_of_share n) s.shares ≤ 840 * 1
  go true e =
      let same : s.home ≡ n = grind (arith, nat_tests, e) in
      let none : sum_by (units_of_share n) s.shares ≡ 0 = subst (λ k. sum_by (units_of_share k) s.shares ≡ 0) same few.0 in
      omega (arith, none)
  go false e = let some = share-le n s.shares in let most = few.1 in omega (arith, some, most)

shares_within : (xs : List Part) (a k : ℕ) → sum_by (λ n. sum_by (units_of_share n) xs) (range_with_len a k) ≤ sum_by (λ x. x.units) xs
shares_within [] a k = let none = zeros a k in omega (arith, none)
shares_within (x ∷ xs) a k =
    let rest = shares_within xs a k in
    let one = at_most_once x.node x.units a k in
    let split = two_sums (λ n. sum_by (units_of_share n) (x ∷ xs)) (λ n. units_of_share n x) (λ n. sum_by (units_of_share n) xs) (λ n. sum_by-cons (units_of_share n) x xs) (range_with_len a k) in
    omega (arith, rest, one, split, sum_by-cons (λ (y : Part). y.units) x xs)

-- and two wholes at most at all nodes together
pub all_nodes_within : (o : Option Standing) (nodes : ℕ) → ((s : Standing) → o ≡ Some s → sum_by (λ x. x.units) s.shares ≤ 840) → sum_by (units_of o) (numbers nodes) ≤ 840 * (2 * one_if o)
all_nodes_within None nodes few = let none = zeros 1 nodes in omega (arith, none)
all_nodes_within (Some s) nodes few =
    let own = at_most_once s.home 840 1 nodes in
    let shares = shares_within s.shares 1 nodes in
    let most = few s refl in
    let split = two_sums (units_of (Some s)) (λ n. cond (nat_eq s.home n) 840 0) (λ n. sum_by (units_of_share n) s.shares) (λ n. refl) (numbers nodes) in
    omega (arith, own, shares, most, split)

-- ---- what all connections count

pub load_within : (t : Tally) (n : ℕ) → AreAmong t → ((c : ℕ) → units_of (fin.get t.standings c) n ≤ 840 * one_if (fin.get t.standings c)) → load_of t.standings n ≤ 840 * admitted t
unfolding admitted_among load_of
load_within t n are each = let sum = bounded (λ c. units_of (fin.get t.standings c) n) (λ c. one_if (fin.get t.standings c)) each connections in omega (arith, sum, are)

pub loads_within : (t : Tally) (nodes : ℕ) → AreAmong t → ((c : ℕ) → sum_by (units_of (fin.get t.standings c)) (numbers nodes) ≤ 840 * (2 * one_if (fin.get t.standings c)))
    → sum_by (load_of t.standings) (numbers nodes) ≤ 840 * (2 * admitted t)
unfolding admitted_among load_of
loads_within t nodes are each =
    let turn = turned (λ c n. units_of (fin.get t.standings c) n) connections 1 nodes in
    let sum = bounded (λ c. sum_by (units_of (fin.get t.standings c)) (numbers nodes)) (λ c. 2 * one_if (fin.get t.standings c)) each connections in
    let twice = doubled (λ c. one_if (fin.get t.standings c)) connections in
    omega (arith, turn, sum, twice, are)

-- a load is not below what is at least counted of each connection
pub load_above : (t : Tally) (n : ℕ) (g : Option Standing → ℕ) → ((o : Option Standing) → 840 * g o ≤ units_of o n) → 840 * sum_by (λ c. g (fin.get t.standings c)) connections ≤ load_of t.standings n
unfolding load_of
load_above t n g each = bounded_below (λ c. units_of (fin.get t.standings c) n) (λ c. g (fin.get t.standings c)) (λ c. each (fin.get t.standings c)) connections

-- what is counted of each admitted connection once among all nodes comes to as many as are admitted
pub counted_once : (t : Tally) (nodes : ℕ) (g : Option Standing → ℕ → ℕ) → AreAmong t → ((c : ℕ) → sum_by (g (fin.get t.standings c)) (numbers nodes) ≡ one_if (fin.get t.standings c))
    → sum_by (λ n. sum_by (λ c. g (fin.get t.standings c) n) connections) (numbers nodes) ≡ admitted t
unfolding admitted_among
counted_once t nodes g are each = turned (λ c. g (fin.get t.standings c)) connections 1 nodes ∙ each_sum (λ c. sum_by (g (fin.get t.standings c)) (numbers nodes)) (λ c. one_if (fin.get t.standings c)) each connections ∙ are
