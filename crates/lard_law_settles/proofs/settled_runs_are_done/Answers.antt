-- Step by step.
use Rattle.lard_law_settles.proofs.DoneRuns.{runs-are-done}
use Rattle.lard_law_settles.proofs.settled_runs_are_done.Goals as goal

pub returns : goal.returns
returns c = record { done = runs-are-done }
