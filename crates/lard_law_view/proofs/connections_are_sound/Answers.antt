-- By what each step keeps.
use Rattle.lard_law_view.proofs.Carried.{reached-viewed}
use Rattle.lard_law_view.proofs.connections_are_sound.Goals as goal

pub returns : goal.returns
returns c = reached-viewed
