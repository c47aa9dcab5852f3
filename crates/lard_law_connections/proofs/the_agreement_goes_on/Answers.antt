-- By what goes on with the client's stream.
use Rattle.lard_law_connections.proofs.BytesLater.{said-stays, seat-stays}
use Rattle.lard_law_connections.proofs.the_agreement_goes_on.Goals as goal

pub returns : goal.returns
returns c = record { kept = seat-stays; said = said-stays }
