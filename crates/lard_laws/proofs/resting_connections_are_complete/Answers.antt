-- By the laws of every state.
use Rattle.lard_laws.proofs.QuietComplete.{resting-complete}
use Rattle.lard_laws.proofs.resting_connections_are_complete.Goals as goal

pub returns : goal.returns
returns c = resting-complete
