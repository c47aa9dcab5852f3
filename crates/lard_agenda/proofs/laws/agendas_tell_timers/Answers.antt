-- Record by record.
use Rattle.lard_agenda.proofs.Few.{few_timers}
use Rattle.lard_agenda.proofs.Kept.{nothing_idle}
use Rattle.lard_agenda.proofs.Timers.{timers_are_told}
use Rattle.lard_agenda.proofs.laws.agendas_tell_timers.Goals as goal

pub returns-clause-timers : goal.returns-clause-timers
returns-clause-timers c = timers_are_told

pub returns-clause-idle : goal.returns-clause-idle
returns-clause-idle c = nothing_idle

pub returns-clause-few : goal.returns-clause-few
returns-clause-few c = few_timers
