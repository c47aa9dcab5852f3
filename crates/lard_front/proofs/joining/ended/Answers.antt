-- The connection that ended is put back, and the head admitted behind it.
use Rattle.std.proofs.Common.{sym, ap, ◌∙◌}
use Rattle.lard_rules.specs.Front.{front_ended}
use Rattle.lard_rules.specs.FrontPlace.{front_env, front_part, front_out_of}
use Rattle.lard_front.specs.Hand.{changes}
use Rattle.lard_front.proofs.Joined.{alone_is, ended_waits, headed_is}
use Rattle.lard_front.proofs.Seated.{then_is}
use Rattle.lard_front.proofs.Steps.{deed_is}
use Rattle.lard_front.specs.Place.{front_setting_seen}
use Rattle.lard_front.proofs.joining.ended.Goals as goal

pub returns-in-None-clause-out : goal.returns-in-None-clause-out
returns-in-None-clause-out c =
    let k = front_setting_seen c.args.setting.now in
    let s = c.args.state.now in
    let n = c.args.c in
    let deed = front_ended (front_env k s n 0) (front_part s n) c.args.from c.args.epoch.0 c.args.last in
    let timed = c.in_ok-timers.ensures ∙ (λ i. changes n (c.armed_at-was.ensures i) (c.armed_at.ensures i)) in
    deed_is s c.end.new.state n deed c.in_ok-turn.field-0.turn c.out_of.result c.in_ok-turn.ensures.turn
    (c.out_of.ensures.out ∙ ap (front_out_of c.in_ok-turn.field-0.turn) timed)
    ∙ alone_is k s n deed (sym c.in_ok-turn.ensures.next ∙ c.in-None.is)

pub admits_too-requires-clause-head : goal.admits_too-requires-clause-head
admits_too-requires-clause-head c =
    ended_waits (front_setting_seen c.args.setting.now) c.args.state.now c.args.c c.args.from c.args.epoch.0 c.args.last c.requires.sound
    c.in_ok-turn.ensures.turn (sym c.in-Some.is ∙ c.in_ok-turn.ensures.next)

pub returns-in-Some-clause-out : goal.returns-in-Some-clause-out
returns-in-Some-clause-out c =
    let k = front_setting_seen c.args.setting.now in
    let s = c.args.state.now in
    let n = c.args.c in
    let deed = front_ended (front_env k s n 0) (front_part s n) c.args.from c.args.epoch.0 c.args.last in
    then_is c.admits_too.new.state _ _
    (headed_is k s n deed c.in_ok-turn.ensures.turn (sym c.in-Some.is ∙ c.in_ok-turn.ensures.next) c.armed_at-was.ensures c.armed_at.ensures c.in_ok-timers.ensures)
    c.admits_too.result c.admits_too.ensures.out
