-- By what each move tells of its connection's timers, and by what a step adds.
use Rattle.lard_laws.proofs.StepsTimers.{timers-change, timers-kept}
use Rattle.lard_laws.proofs.timers_are_told.Goals as goal

pub returns : goal.returns
returns c = record { flags = timers-kept; steps = timers-change }
