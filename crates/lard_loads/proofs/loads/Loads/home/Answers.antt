-- The slot says what the tally says.
use Rattle.std.proofs.Common.{◌∙◌}
use Rattle.lard_loads.proofs.Calls.{same_home}
use Rattle.lard_loads.proofs.loads.Loads.home.Goals as goal

pub returns : goal.returns
returns c = c.home.ensures ∙ same_home c.self.invariant c.at.ensures.within c.index.ensures c.self.view_is c.at.ensures.value
