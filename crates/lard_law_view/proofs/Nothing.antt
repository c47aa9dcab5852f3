-- Where nothing is done, the machine has passed the event and is else as it was; and what is looked up by a number of the range is there.
use Rattle.std.proofs.Common.{◌≡◌, ℕ, zero, suc, ◌+◌, ◌-◌, ◌<◌, ◌≤◌, nat_lt, ◌==◌, ◌||◌, Bool, true, false, cond, List, [], ◌∷◌, ◌++◌, length, Some, None, refl, sym, ap, ◌∙◌, arith, append-nil, ltb-false}
use Rattle.std.specs.Prelude.{slice_get, slice_set}
use Rattle.lard_law_view.specs.Prelude.{Event, Machine, Node, NodeState, Place, Rec, is_no_node, machine_told, node_at, node_gave, nothing_done, passed}
use Rattle.lard_journal.specs.declared.rec.Rec.TheVariants as rec

-- neither holds
neither : (a b : Bool) → (a || b) ≡ false → (a ≡ false) × (b ≡ false)
neither true b e = let no : true ≡ false = e in absurd cc
neither false b e = (refl, e)

module _ {A : Type 0} where
  set-same : (xs : List A) (i : ℕ) (x : A) → slice_get xs i ≡ Some x → slice_set xs i x ≡ xs
  set-same [] i x e = let no : None ≡ Some x = e in absurd cc
  set-same (y ∷ xs) zero x e = let same : y ≡ x = cc in ap (λ z. z ∷ xs) (sym same)
  set-same (y ∷ xs) (suc i) x e = ap (λ zs. y ∷ zs) (set-same xs i x e)

  within : (xs : List A) (i : ℕ) → i < length xs → (x : A) × (slice_get xs i ≡ Some x)
  within [] i h = absurd (omega (arith, h))
  within (y ∷ xs) zero h = (y, refl)
  within (y ∷ xs) (suc i) h = within xs i (omega (arith, h))

  -- one of those that are counted from 1
  pub numbered : (xs : List A) (i : ℕ) → (i == 0 || nat_lt (length xs) i) ≡ false → (x : A) × (cond (i == 0) None (slice_get xs (i - 1)) ≡ Some x)
  numbered xs zero e = let no : true ≡ false = e in absurd cc
  numbered xs (suc i) e =
      let tests = neither (suc i == 0) (nat_lt (length xs) (suc i)) e in
      let le : suc i ≤ length xs = ltb-false (length xs) (suc i) tests.1 in
      let got = within xs (suc i - 1) (omega (arith, le)) in
      (got.0, ap (λ b. cond b None (slice_get xs (suc i - 1))) tests.0 ∙ got.1)

-- a node's state is put back as it is
pub node-same : (nodes : List NodeState) (n : ℕ) (s : NodeState) → node_at nodes n ≡ Some s → slice_set nodes (n - 1) s ≡ nodes
node-same nodes zero s e = let no : None ≡ Some s = e in absurd cc
node-same nodes (suc i) s e = let back : suc i - 1 ≡ i = omega arith in ap (λ k. slice_set nodes k s) back ∙ set-same nodes i s e

-- a node of the range is there
pub node-there : (nodes : List NodeState) (count n : ℕ) → length nodes ≡ count → is_no_node count n ≡ false → (s : NodeState) × (node_at nodes n ≡ Some s)
node-there nodes count zero same e = let no : true ≡ false = e in absurd cc
node-there nodes count (suc i) same e = let le : suc i ≤ count = ltb-false count (suc i) (neither (suc i == 0) (nat_lt count (suc i)) e).1 in within nodes i (omega (arith, le, same))

-- ---- nothing is done

pub told-nothing : (m : Machine) (e : Event) (own : List Rec) (place : Place) → machine_told m e own place nothing_done ≡ passed m e own
unfolding machine_told
told-nothing m e own place =
    let rows : List Rec = rec.Event (m.events + 1) e ∷ own in
    let same : rows ++ [] ++ [] ++ [] ++ [] ++ [] ≡ rows =
    append-nil (rows ++ [] ++ [] ++ [] ++ []) ∙ append-nil (rows ++ [] ++ [] ++ []) ∙ append-nil (rows ++ [] ++ []) ∙ append-nil (rows ++ []) ∙ append-nil rows in
    let none : m.answered + 0 ≡ m.answered = omega arith in
    λ i. record m { net = (append-nil (m.net ++ []) ∙ append-nil m.net) i; answered = none i; events = m.events + 1; journal = m.journal ++ same i }

pub node-nothing : (m : Machine) (e : Event) (own : List Rec) (n : ℕ) (s : NodeState) → node_at m.nodes n ≡ Some s → node_gave m e own n (s, nothing_done) ≡ passed m e own
node-nothing m e own n s at = ap (λ (nodes : List NodeState). machine_told (record m { nodes = nodes }) e own (Node n) nothing_done) (node-same m.nodes n s at) ∙ told-nothing m e own (Node n)
