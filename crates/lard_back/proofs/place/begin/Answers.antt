-- Nothing is kept yet.
use Rattle.lard_back.proofs.Acted.{none_sound}
use Rattle.lard_back.proofs.place.begin.Goals as goal

pub returns-clause-sound : goal.returns-clause-sound
returns-clause-sound c = none_sound _ c.new-2.ensures c.new-3.ensures c.new-4.ensures c.new-5.ensures
