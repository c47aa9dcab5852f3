-- By the theorem over any machine.
use Rattle.std.specs.Prelude.{◌≡◌, true}
use Rattle.lard_law_settles.specs.CourseGame.{game}
use Rattle.lard_rounds.proofs.Resting.{rests}
use Rattle.lard_law_settles.proofs.the_cluster_comes_to_rest.Goals as goal

pub returns : goal.returns
returns c all good o = rests (game all (λ m. good m ≡ true)) 5 3 o
