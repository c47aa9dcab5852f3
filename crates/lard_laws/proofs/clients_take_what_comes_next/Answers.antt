-- By what holds of every state.
use Rattle.lard_laws.proofs.ClientsTaking.{clients-take}
use Rattle.lard_laws.proofs.clients_take_what_comes_next.Goals as goal

pub returns : goal.returns
returns c = clients-take
