-- By the theorem over any machine.
use Rattle.lard_rounds.proofs.Resting.{rests}
use Rattle.lard_rounds.specs.Tests.{tested}
use Rattle.lard_rounds.proofs.machines_come_to_rest.Goals as goal

pub returns : goal.returns
returns c t longest reach o = rests (tested t) longest reach o
