-- The loads that run are those of the tally.
use Rattle.std.proofs.Common.{length, ap, ◌∙◌}
use Rattle.lard_base.specs.Members.{has}
use Rattle.lard_loads.specs.Order.{is_before}
use Rattle.lard_loads.specs.Running.{at_node}
use Rattle.lard_loads.specs.Tally.{Tally, most_of}
use Rattle.lard_loads.proofs.Choices.{chosen_passes, chosen_within, most_running}
use Rattle.lard_loads.proofs.loads.Loads.most_of.Goals as goal

pub returns-clause-node : goal.returns-clause-node
returns-clause-node c = c.most_of.ensures ∙ most_running c.self.invariant (has c.args.members) ∙ ap (λ (t : Tally). most_of t c.args.members) c.self.view_is

pub returns-clause-within : goal.returns-clause-within
returns-clause-within c = chosen_within (λ n m. is_before (at_node c.self.inside.running) m n) (has c.args.members) (length c.self.inside.running) c.args.self.now.nodes c.most_of.result (ap (λ (t : Tally). t.nodes) c.self.view_is) c.most_of.ensures

pub returns-clause-member : goal.returns-clause-member
returns-clause-member c = chosen_passes (λ n m. is_before (at_node c.self.inside.running) m n) (has c.args.members) (length c.self.inside.running) c.most_of.result c.most_of.ensures
