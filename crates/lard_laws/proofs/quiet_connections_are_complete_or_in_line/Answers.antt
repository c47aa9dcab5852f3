-- By what holds of each state.
use Rattle.lard_laws.proofs.QuietEnds.{journals-complete}
use Rattle.lard_laws.proofs.quiet_connections_are_complete_or_in_line.Goals as goal

pub returns : goal.returns
returns c = journals-complete
