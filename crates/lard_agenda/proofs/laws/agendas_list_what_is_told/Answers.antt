-- Each entry is found.
use Rattle.lard_agenda.proofs.Due.{holders_are_listed, packets_are_listed, rest_is_told, timers_are_listed}
use Rattle.lard_agenda.proofs.laws.agendas_list_what_is_told.Goals as goal

pub returns-clause-packets : goal.returns-clause-packets
returns-clause-packets c = packets_are_listed

pub returns-clause-holders : goal.returns-clause-holders
returns-clause-holders c = holders_are_listed

pub returns-clause-timers : goal.returns-clause-timers
returns-clause-timers c = timers_are_listed

pub returns-clause-rest : goal.returns-clause-rest
returns-clause-rest c = rest_is_told
