use Rattle.std.proofs.Common.{◌≡◌, ℕ, ◌≤◌, true}
use Rattle.lard_base.specs.Members.{has}
use Rattle.lard_loads.proofs.loads.first_nodes.Given as goal

-- so far each number is a member
abbrev pub invariant-loop-below : goal.invariant-loop-below
invariant-loop-below l = (k : ℕ) → 1 ≤ k → k ≤ l.below → has l.members k ≡ true
