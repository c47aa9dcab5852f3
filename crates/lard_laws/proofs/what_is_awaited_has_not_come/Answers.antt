-- By what holds of each state.
use Rattle.lard_laws.proofs.DueAnswersRuns.{connections-await-answers}
use Rattle.lard_laws.proofs.what_is_awaited_has_not_come.Goals as goal

pub returns : goal.returns
returns c = connections-await-answers
