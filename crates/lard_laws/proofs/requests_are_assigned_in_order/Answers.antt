-- By what the front end's rules leave of each connection.
use Rattle.lard_laws.proofs.WaysRuns.{assign-a-prefix, assign-in-order}
use Rattle.lard_laws.proofs.requests_are_assigned_in_order.Goals as goal

pub returns : goal.returns
returns c = record { next = assign-in-order; paths = assign-a-prefix }
