-- By the numbers alone.
use Rattle.lard_bound.proofs.Paying.{enough}
use Rattle.lard_bound.proofs.nine_rounds_a_unit_suffice.Goals as goal

pub returns : goal.returns
returns c files J units h = enough _ _ _ units h
