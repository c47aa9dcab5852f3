-- Where a rule of a node finds the connection, as what it looks up.
use Rattle.std.proofs.Common.{◌≡◌, ℕ, cond, Some, None, ◌∙◌, eq-eqb}
use Rattle.lard_law_view.specs.Prelude.{ControlBlock, NodePart, Stay, back_held, both_of, here, staying}
use Rattle.lard_rules.proofs.NodeCases.{IsHereWith}

pub here-of : (e : ℕ) (p : NodePart) (b : ControlBlock) (s : Stay) → IsHereWith e p b s → here e p ≡ Some (b, s)
here-of e p b s at = (λ i. both_of (staying e (at.found i)) (at.stays i)) ∙ (λ i. both_of (cond (eq-eqb at.row.epoch.0 e at.epoch_is i) (back_held (at.staged i)) None) (Some s))
