-- What each place keeps of a connection, over what is put back of one.
use Rattle.std.proofs.Common.{◌≡◌, ◌≢◌, ℕ, zero, suc, ◌-◌, ◌==◌, Bool, true, false, cond, List, [], ◌∷◌, length, Some, None, refl, sym, ap, ◌∙◌, subst, arith, nat_eq, eq-eqb, eqb-true}
use Rattle.std.specs.Prelude.{slice_get, slice_set}
use Rattle.std.specs.FinMap as table
use Rattle.lard_law_view.specs.Prelude.{FrontPart, FrontState, Machine, NodePart, NodeState, Station, client_put, front_part, kept_at, list_of, node_at, node_part, node_put_back, part_of, with_front, with_node, with_station}
use Rattle.lard_handoff_back.proofs.Putting.{beside_other, beside_put}
use Rattle.lard_history.proofs.Seeing.{by_number, other_number, same_number}
use Rattle.lard_rules.specs.NodePlace as place
use Rattle.lard_resend.proofs.Lists.{found_other, held_put}
use Rattle.lard_table.proofs.Map.{get_inserted, get_other, get_put_other, get_put_same}

-- ---- one node's part is put back among those of all nodes

module _ (nodes : ℕ → NodePart) (n : ℕ) (q : NodePart) where
  pub put-same : node_put_back nodes n q n ≡ q
  put-same = ap (λ b. cond b q (nodes n)) (eq-eqb n n refl)

  -- of each node, if it is so of this one and of the others
  pub put-each : (P : ℕ → NodePart → Type 0) → P n q → ((m : ℕ) → m ≢ n → P m (nodes m)) → (m : ℕ) → P m (node_put_back nodes n q m)
  put-each P here there m = go (m == n) refl where
    go : (b : Bool) → (m == n) ≡ b → P m (cond b q (nodes m))
    go true e = subst (λ (k : ℕ). P k q) (sym (eqb-true m n e)) here
    go false e = there m (λ same. let yes : true ≡ false = sym (eq-eqb m n same) ∙ e in cc)

-- ---- a node's part

pub node-here : (s : NodeState) (c : ℕ) (p : NodePart) → node_part (place.node_put s c p) c ≡ p
node-here s c p = λ i. record { row = get_put_same s.conns.rows c p.row i; stay = get_put_same s.stays c p.stay i; kept = held_put s.kept c p.kept i; fetches = held_put s.fetches c p.fetches i; beside = beside_put s.conns c p.row p.beside i }

pub node-elsewhere : (s : NodeState) (c q : ℕ) (p : NodePart) → q ≢ c → node_part (place.node_put s c p) q ≡ node_part s q
node-elsewhere s c q p n = λ i. record {
  row = get_put_other s.conns.rows c q p.row n i;
  stay = get_put_other s.stays c q p.stay n i;
  kept = list_of (found_other s.kept c q p.kept n i);
  fetches = list_of (found_other s.fetches c q p.fetches n i);
  beside = beside_other s.conns c q p.row p.beside n i;
}

-- ---- the nodes

module _ {A : Type 0} where
  got-set : (xs : List A) (i : ℕ) (x y : A) → slice_get xs i ≡ Some x → slice_get (slice_set xs i y) i ≡ Some y
  got-set [] i x y e = let no : None ≡ Some x = e in absurd cc
  got-set (z ∷ xs) zero x y e = refl
  got-set (z ∷ xs) (suc i) x y e = got-set xs i x y e

  got-other : (xs : List A) (i k : ℕ) (y : A) → k ≢ i → slice_get (slice_set xs i y) k ≡ slice_get xs k
  got-other [] i k y n = refl
  got-other (z ∷ xs) zero zero y n = absurd (n refl)
  got-other (z ∷ xs) zero (suc k) y n = refl
  got-other (z ∷ xs) (suc i) zero y n = refl
  got-other (z ∷ xs) (suc i) (suc k) y n = got-other xs i k y (λ e. n (ap suc e))

  pub length-set : (xs : List A) (i : ℕ) (y : A) → length (slice_set xs i y) ≡ length xs
  length-set [] i y = refl
  length-set (z ∷ xs) zero y = refl
  length-set (z ∷ xs) (suc i) y = ap suc (length-set xs i y)

-- node n is set, where there is one
pub node-set : (nodes : List NodeState) (n : ℕ) (s t : NodeState) → node_at nodes n ≡ Some s → node_at (slice_set nodes (n - 1) t) n ≡ Some t
node-set nodes zero s t e = let no : None ≡ Some s = e in absurd cc
node-set nodes (suc i) s t e =
    let back : suc i - 1 ≡ i = omega arith in ap (λ k. slice_get (slice_set nodes k t) i) back ∙ got-set nodes i s t e

pub node-others : (nodes : List NodeState) (n k : ℕ) (s t : NodeState) → node_at nodes n ≡ Some s → k ≢ n → node_at (slice_set nodes (n - 1) t) k ≡ node_at nodes k
node-others nodes zero k s t e n = let no : None ≡ Some s = e in absurd cc
node-others nodes (suc i) zero s t e n = refl
node-others nodes (suc i) (suc k) s t e n =
    let back : suc i - 1 ≡ i = omega arith in ap (λ j. slice_get (slice_set nodes j t) k) back ∙ got-other nodes i k t (λ same. n (ap suc same))

-- ---- parts

module _ (m : Machine) where
  pub client-mine : (c : ℕ) (s : Station) → part_of (client_put m c s) c ≡ with_station (part_of m c) s
  unfolding part_of
  client-mine c s = λ i. record { station = get_inserted m.clients c s i; front = front_part m.front c; nodes = λ n. kept_at c (node_at m.nodes n) }

  pub client-others : (c q : ℕ) (s : Station) → q ≢ c → part_of (client_put m c s) q ≡ part_of m q
  unfolding part_of
  client-others c q s n = λ i. record { station = get_other m.clients c q s n i; front = front_part m.front q; nodes = λ k. kept_at q (node_at m.nodes k) }

  -- the front end is so now
  pub front-mine : (f : FrontState) (q : ℕ) (p : FrontPart) → front_part f q ≡ p → part_of (record m { front = f }) q ≡ with_front (part_of m q) p
  unfolding part_of
  front-mine f q p e = λ i. record { station = table.get m.clients q; front = e i; nodes = λ k. kept_at q (node_at m.nodes k) }

  pub front-others : (f : FrontState) (q : ℕ) → front_part f q ≡ front_part m.front q → part_of (record m { front = f }) q ≡ part_of m q
  unfolding part_of
  front-others f q e = λ i. record { station = table.get m.clients q; front = e i; nodes = λ k. kept_at q (node_at m.nodes k) }

  -- and so is node n
  module _ (n : ℕ) (s t : NodeState) (at : node_at m.nodes n ≡ Some s) (q : ℕ) where
    abbrev nodes : List NodeState
    nodes = slice_set m.nodes (n - 1) t

    pub node-mine : (p : NodePart) → node_part t q ≡ p → part_of (record m { nodes = nodes }) q ≡ with_node (part_of m q) n p
    unfolding part_of
    node-mine p e = λ i. record { station = table.get m.clients q; front = front_part m.front q; nodes = λ k. each k i } where
      each : (k : ℕ) → kept_at q (node_at nodes k) ≡ node_put_back (λ j. kept_at q (node_at m.nodes j)) n p k
      each k = by_number (kept_at q (node_at nodes k) ≡ node_put_back (λ j. kept_at q (node_at m.nodes j)) n p k) k n
          (λ same. let here : kept_at q (node_at nodes k) ≡ p = ap (λ j. kept_at q (node_at nodes j)) same ∙ ap (kept_at q) (node-set m.nodes n s t at) ∙ e in
          here ∙ sym (ap (λ b. cond b p (kept_at q (node_at m.nodes k))) (ap (λ j. nat_eq j n) same ∙ same_number n)))
          (λ other. ap (kept_at q) (node-others m.nodes n k s t at other) ∙ sym (ap (λ b. cond b p (kept_at q (node_at m.nodes k))) (other_number k n other)))

    pub node-as-before : node_part t q ≡ node_part s q → part_of (record m { nodes = nodes }) q ≡ part_of m q
    unfolding part_of
    node-as-before e = λ i. record { station = table.get m.clients q; front = front_part m.front q; nodes = λ k. each k i } where
      each : (k : ℕ) → kept_at q (node_at nodes k) ≡ kept_at q (node_at m.nodes k)
      each k = by_number (kept_at q (node_at nodes k) ≡ kept_at q (node_at m.nodes k)) k n
          (λ same. ap (λ j. kept_at q (node_at nodes j)) same ∙ ap (kept_at q) (node-set m.nodes n s t at) ∙ e ∙ sym (ap (kept_at q) at) ∙ sym (ap (λ j. kept_at q (node_at m.nodes j)) same))
          (λ other. ap (kept_at q) (node-others m.nodes n k s t at other))

  -- what node n keeps
  pub node-kept : (n : ℕ) (s : NodeState) (q : ℕ) → node_at m.nodes n ≡ Some s → (part_of m q).nodes n ≡ node_part s q
  unfolding part_of
  node-kept n s q at = ap (kept_at q) at
