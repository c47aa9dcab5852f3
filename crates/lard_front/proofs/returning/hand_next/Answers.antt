-- The head is handed off as it waits.
use Rattle.lard_front.proofs.Returned.{next_is}
use Rattle.lard_front.specs.Place.{front_setting_seen}
use Rattle.lard_front.proofs.returning.hand_next.Goals as goal

pub returns-in-Some-clause-head : goal.returns-in-Some-clause-head
returns-in-Some-clause-head c =
    next_is (front_setting_seen c.args.setting.now) c.args.state.now c.args.c c.args.next c.in-Some.next c.in-Some.is c.hand_head.new.state c.hand_head.result
    c.hand_head.ensures.c c.hand_head.ensures.turn c.hand_head.ensures.timers
