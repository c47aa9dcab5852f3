-- Client by client.
use Rattle.lard_generate_answers.proofs.Runs.{runs-answer-all}
use Rattle.lard_generate_answers.proofs.generated_runs_answer_all.Goals as goal

pub returns : goal.returns
returns c = runs-answer-all
