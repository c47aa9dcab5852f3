-- By what each rule keeps.
use Rattle.lard_law_connections.proofs.PlacesRuns.{each-sits, owners-are, senders-are}
use Rattle.lard_law_connections.proofs.every_move_keeps_one_owner.Goals as goal

pub returns : goal.returns
returns c = record {
  connections = each-sits;
  owners = owners-are;
  senders = senders-are;
}
