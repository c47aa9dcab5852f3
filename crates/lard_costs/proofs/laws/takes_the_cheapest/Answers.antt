-- The law is the lemma of proofs/Cheapest.antt.
use Rattle.lard_costs.proofs.Cheapest.{cheapest_is_taken}
use Rattle.lard_costs.proofs.laws.takes_the_cheapest.Goals as goal

pub returns : goal.returns
returns c = cheapest_is_taken
