-- The two laws, by their lemmas.
use Rattle.lard_recv.proofs.Window.{end-arrived, end-read}
use Rattle.lard_recv.proofs.laws.window_is_not_taken_back.Goals as goal

pub returns : goal.returns
returns c = record { arrival = end-arrived; reading = end-read }
