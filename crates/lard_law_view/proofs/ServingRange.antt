-- What the front end notes and sends in its turn is in range, and it sends few segments.
use Rattle.std.proofs.Common.{ℕ, zero, suc, ◌-◌, ◌≤◌, List, [], ◌∷◌, length, Bool, true, false, cond, Option, Some, None, arith}
use Rattle.lard_law_view.specs.Prelude.{ControlBlock, Place, Ready, after_emit, emits, emits_symbols, emitted, has_symbol, to_client}

-- ---- what an endpoint sends

-- an endpoint emits no more segments than it is allowed calls
pub emits-few : (c n : ℕ) (b : ControlBlock) → length (emits c n b).0 ≤ n
unfolding emits
emits-few c zero b = omega arith
emits-few c (suc n) b = go (emitted b) (emits-few c n (after_emit b)) where
  go : (o : Option Ready) → length (emits c n (after_emit b)).0 ≤ n → length (elim o as (λ p. List (Place × List ℕ) × ControlBlock) [
    | None ↦ ([], b)
    | Some r ↦ (to_client c (after_emit b) r ∷ (emits c n (after_emit b)).0, (emits c n (after_emit b)).1)
  ]).0 ≤ suc n
  go None few = omega arith
  go (Some r) few = omega (arith, few)

-- nor where each has to send a symbol
pub symbols-few : (c n : ℕ) (b : ControlBlock) → length (emits_symbols c n b).0 ≤ n
unfolding emits_symbols
symbols-few c zero b = omega arith
symbols-few c (suc n) b = go (emitted b) (symbols-few c n (after_emit b)) where
  one : (t : Bool) (r : Ready) → length (emits_symbols c n (after_emit b)).0 ≤ n
      → length (cond {A = List (Place × List ℕ) × ControlBlock} t (to_client c (after_emit b) r ∷ (emits_symbols c n (after_emit b)).0, (emits_symbols c n (after_emit b)).1) ([], after_emit b)).0 ≤ suc n
  one true r few = omega (arith, few)
  one false r few = omega arith

  go : (o : Option Ready) → length (emits_symbols c n (after_emit b)).0 ≤ n → length (elim o as (λ p. List (Place × List ℕ) × ControlBlock) [
    | None ↦ ([], b)
    | Some r ↦ cond {A = List (Place × List ℕ) × ControlBlock} (has_symbol r) (to_client c (after_emit b) r ∷ (emits_symbols c n (after_emit b)).0, (emits_symbols c n (after_emit b)).1) ([], after_emit b)
  ]).0 ≤ suc n
  go None few = omega arith
  go (Some r) few = one (has_symbol r) r few
