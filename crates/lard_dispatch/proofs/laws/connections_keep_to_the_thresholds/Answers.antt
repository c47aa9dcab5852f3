-- The laws are the lemmas of proofs/Thresholds.antt and Homes.antt.
use Rattle.lard_dispatch.proofs.Homes.{few-are-high}
use Rattle.lard_dispatch.proofs.Thresholds.{few-at-homes}
use Rattle.lard_dispatch.proofs.laws.connections_keep_to_the_thresholds.Goals as goal

pub returns-clause-most : goal.returns-clause-most
returns-clause-most c = few-at-homes

pub returns-clause-few : goal.returns-clause-few
returns-clause-few c = few-are-high
