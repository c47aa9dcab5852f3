-- Client by client.
use Rattle.lard_generate_bound.proofs.Reaching.{reach-the-bound}
use Rattle.lard_generate_bound.proofs.generated_rounds_reach_the_bound.Goals as goal

pub returns : goal.returns
returns c = reach-the-bound
