-- What holds between two calls.
use Rattle.std.proofs.Common.{subst}
use Rattle.lard_dispatch.specs.Sound.{IsDispatcherSound}
use Rattle.lard_dispatch.proofs.dispatch.Dispatch.loads.Goals as goal

pub returns-clause-law : goal.returns-clause-law
returns-clause-law c = subst IsDispatcherSound c.self.view_is c.self.invariant.1
