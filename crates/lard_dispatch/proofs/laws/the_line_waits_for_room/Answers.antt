-- The law is the lemma of proofs/AllCalls.antt.
use Rattle.lard_dispatch.proofs.AllCalls.{waits-for-room}
use Rattle.lard_dispatch.proofs.laws.the_line_waits_for_room.Goals as goal

pub returns : goal.returns
returns c = waits-for-room
