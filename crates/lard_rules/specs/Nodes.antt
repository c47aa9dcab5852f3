-- How the states of all nodes are lent and taken out.
use Rattle.std.specs.Prelude.{◌≡◌, ℕ, List, [], ◌∷◌, ◌++◌, slice_set, Option, Some, None}
use Rattle.std.specs.Borrow.{Lends, MutBor, Fml}
use Rattle.lard_rules.specs.contracts.nodes.NodeList as nodes
use Rattle.lard_rules.specs.contracts.node.NodeState as node
use Rattle.lard_rules.specs.declared.node.NodeState.{NodeState}

-- r lends the node at a place: what is last written through r ends up there, and the others stay
abbrev pub LendsNode : MutBor (List NodeState) → ℕ → MutBor NodeState → Fml
LendsNode all i r = Lends nodes.the_row node.the_row all r (slice_set all.now i)

-- the last is taken out, where there is one
abbrev pub TakesLast : List NodeState → List NodeState → Option NodeState → Type 0
TakesLast old new None = (old ≡ []) × (new ≡ [])
TakesLast old new (Some x) = old ≡ new ++ x ∷ []
