-- By where it is.
use Rattle.lard_laws.proofs.QuietStill.{quiet-or-else}
use Rattle.lard_laws.proofs.quiet_connections_are_complete_or_are_held_up.Goals as goal

pub returns : goal.returns
returns c = quiet-or-else
