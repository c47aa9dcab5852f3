-- By its lists of inner steps.
use Rattle.lard_law_settles.proofs.SettlesWhole.{settles-stop}
use Rattle.lard_law_settles.proofs.settles_stop_at_limits_alone.Goals as goal

pub returns : goal.returns
returns c = record { settles = settles-stop }
