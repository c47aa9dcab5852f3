use Rattle.std.proofs.Common.{◌≡◌, ◌+◌, ◌-◌, ◌≤◌, IfSome, length}
use Rattle.std.specs.List.{filter, range_with_len}
use Rattle.lard_base.specs.Members.{has}
use Rattle.lard_loads.specs.Order.{least_in}
use Rattle.lard_loads.specs.Running.{at_node}
use Rattle.lard_loads.proofs.running.least.Given as goal

-- of the nodes behind those that are left the first is known
abbrev pub invariant-loop-left : goal.invariant-loop-left
invariant-loop-left l = (l.left ≤ length l.loads) × IfSome l.best (λ m. m ≤ length l.loads) × (l.best ≡ least_in (at_node l.loads) (filter (has l.members) (range_with_len (l.left + 1) (length l.loads - l.left))))

abbrev pub decreases-loop-left : goal.decreases-loop-left
decreases-loop-left l = l.left
