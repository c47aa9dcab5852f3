-- Record by record.
use Rattle.lard_agenda.proofs.Packets.{packets_are_told}
use Rattle.lard_agenda.proofs.laws.agendas_tell_packets.Goals as goal

pub returns : goal.returns
returns c = packets_are_told
