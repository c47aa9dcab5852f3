-- It is proved as a lemma.
use Rattle.lard_lab.proofs.Rooms.{room-kept}
use Rattle.lard_lab.proofs.laws.room_is_kept.Goals as goal

pub returns : goal.returns
returns c = room-kept
