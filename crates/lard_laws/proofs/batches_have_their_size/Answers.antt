-- By what each rule of a node says.
use Rattle.lard_laws.proofs.SizesRuns.{batches-sized}
use Rattle.lard_laws.proofs.batches_have_their_size.Goals as goal

pub returns : goal.returns
returns c = batches-sized
