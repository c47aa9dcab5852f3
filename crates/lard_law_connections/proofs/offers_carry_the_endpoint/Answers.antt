-- By what each rule of the front end says.
use Rattle.lard_law_connections.proofs.OffersRuns.{offers-carry}
use Rattle.lard_law_connections.proofs.offers_carry_the_endpoint.Goals as goal

pub returns : goal.returns
returns c = record { carries = offers-carry }
