-- The two laws, by their lemmas.
use Rattle.lard_recv.proofs.Unused.{unused-arrived, unused-consumed}
use Rattle.lard_recv.proofs.laws.unread_is_the_unused_part.Goals as goal

pub returns : goal.returns
returns c = record { arrival = unused-arrived; reading = unused-consumed }
