use Rattle.lard_schedule.proofs.Readings.{event_spelled, event_read, event_again}
use Rattle.lard_schedule.proofs.laws.events.Goals as goal

pub returns-clause-event : goal.returns-clause-event
returns-clause-event c words event = (event_spelled words event, λ h. event_read words event h.0 h.1)

pub returns-clause-again : goal.returns-clause-again
returns-clause-again c event range bytes = event_again event range bytes
