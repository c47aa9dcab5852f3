-- The head of the line waits, once the connection is put back.
use Rattle.lard_front.proofs.Returned.{room_waits}
use Rattle.lard_front.specs.Place.{front_setting_seen}
use Rattle.lard_front.proofs.returning.make_room.Goals as goal

pub hand_next-requires : goal.hand_next-requires
hand_next-requires c =
    room_waits (front_setting_seen c.args.setting.now) c.args.state.now c.args.back.now c.args.from c.requires.back
    c.release.new.dispatch c.in_ok-rest_anew.ensures c.in_ok-next.ensures.next
