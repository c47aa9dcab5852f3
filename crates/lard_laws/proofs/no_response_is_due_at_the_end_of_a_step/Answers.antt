-- By what holds of each state.
use Rattle.lard_laws.proofs.DueRuns.{journals-answer}
use Rattle.lard_laws.proofs.no_response_is_due_at_the_end_of_a_step.Goals as goal

pub returns : goal.returns
returns c = journals-answer
