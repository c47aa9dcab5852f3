-- Record by record.
use Rattle.lard_agenda.proofs.Holders.{holders_are_told}
use Rattle.lard_agenda.proofs.laws.agendas_tell_holders.Goals as goal

pub returns : goal.returns
returns c = holders_are_told
