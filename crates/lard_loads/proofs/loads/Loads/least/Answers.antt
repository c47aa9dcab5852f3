-- The first of all open nodes is there, and the loads that run are those of the tally.
use Rattle.std.proofs.Common.{◌≤◌, length, sym, ap, subst, ◌∙◌}
use Rattle.lard_base.specs.Members.{has}
use Rattle.lard_loads.specs.Order.{is_before}
use Rattle.lard_loads.specs.Running.{at_node}
use Rattle.lard_loads.specs.Tally.{Tally, least}
use Rattle.lard_loads.proofs.Choices.{least_running}
use Rattle.lard_loads.proofs.Firsts.{first_passes, has_first}
use Rattle.lard_loads.proofs.loads.Loads.least.Goals as goal

pub unwrap-requires : goal.unwrap-requires
unwrap-requires c = rw c.least_of.ensures (has_first (is_before (at_node c.self.inside.running)) _ c.self.invariant.some_open)

pub returns-clause-node : goal.returns-clause-node
returns-clause-node c = sym (ap least c.self.view_is) ∙ sym (least_running c.self.invariant (has c.self.inside.open_nodes)) ∙ sym c.least_of.ensures ∙ c.unwrap.ensures

pub returns-clause-within : goal.returns-clause-within
returns-clause-within c =
    let within = (first_passes (is_before (at_node c.self.inside.running)) (has c.self.inside.open_nodes) (length c.self.inside.running) c.unwrap.result (sym c.least_of.ensures ∙ c.unwrap.ensures)).1 in
    subst (λ (t : Tally). c.unwrap.result ≤ t.nodes) c.self.view_is within
