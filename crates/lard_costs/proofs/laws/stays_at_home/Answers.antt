-- The law is the lemma of proofs/Cheapest.antt.
use Rattle.lard_costs.proofs.Cheapest.{home_is_kept}
use Rattle.lard_costs.proofs.laws.stays_at_home.Goals as goal

pub returns : goal.returns
returns c = home_is_kept
