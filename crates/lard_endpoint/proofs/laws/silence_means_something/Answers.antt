-- The two laws, by their lemmas.
use Rattle.lard_endpoint.proofs.Silence.{timer-some, emit-none}
use Rattle.lard_endpoint.proofs.laws.silence_means_something.Goals as goal

pub returns-clause-timer : goal.returns-clause-timer
returns-clause-timer c = timer-some

pub returns-clause-emit : goal.returns-clause-emit
returns-clause-emit c = emit-none
