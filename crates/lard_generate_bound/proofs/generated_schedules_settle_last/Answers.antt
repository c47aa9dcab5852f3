-- By the definition.
use Rattle.lard_generate_bound.proofs.Reaching.{settles-last}
use Rattle.lard_generate_bound.proofs.generated_schedules_settle_last.Goals as goal

pub returns : goal.returns
returns c = settles-last
