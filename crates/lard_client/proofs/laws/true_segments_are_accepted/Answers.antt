-- By what is in order.
use Rattle.lard_client.proofs.TrueSegments.{true-accepted, true-len}
use Rattle.lard_client.proofs.laws.true_segments_are_accepted.Goals as goal

pub returns : goal.returns
returns c = λ x s all k a t. (true-accepted x s all k a t, true-len x s all k a t)
