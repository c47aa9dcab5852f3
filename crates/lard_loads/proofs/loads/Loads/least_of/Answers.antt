-- The loads that run are those of the tally.
use Rattle.std.proofs.Common.{length, ap, ◌∙◌}
use Rattle.lard_base.specs.Members.{has}
use Rattle.lard_loads.specs.Order.{is_before}
use Rattle.lard_loads.specs.Running.{at_node}
use Rattle.lard_loads.specs.Tally.{Tally, least_of}
use Rattle.lard_loads.proofs.Choices.{chosen_passes, chosen_within, least_running}
use Rattle.lard_loads.proofs.loads.Loads.least_of.Goals as goal

pub returns-clause-node : goal.returns-clause-node
returns-clause-node c = c.least_of.ensures ∙ least_running c.self.invariant (has c.args.members) ∙ ap (λ (t : Tally). least_of t c.args.members) c.self.view_is

pub returns-clause-within : goal.returns-clause-within
returns-clause-within c = chosen_within (is_before (at_node c.self.inside.running)) (has c.args.members) (length c.self.inside.running) c.args.self.now.nodes c.least_of.result (ap (λ (t : Tally). t.nodes) c.self.view_is) c.least_of.ensures

pub returns-clause-member : goal.returns-clause-member
returns-clause-member c = chosen_passes (is_before (at_node c.self.inside.running)) (has c.args.members) (length c.self.inside.running) c.least_of.result c.least_of.ensures
