-- Where any open node is below, the least loaded is.
use Rattle.std.proofs.Common.{nat_lt, ap, sym, ◌∙◌}
use Rattle.lard_loads.specs.Tally.{load}
use Rattle.lard_loads.proofs.Firsts.{any-least}
use Rattle.lard_loads.proofs.loads.Loads.any_below.Goals as goal

pub returns : goal.returns
returns c = ap (λ x. nat_lt x c.args.units) c.of.ensures.load ∙ sym (any-least (load c.args.self.now) c.args.units c.args.self.now.open_nodes c.least.result c.least.ensures.node)
