-- The turn comes to what is done in the step.
use Rattle.lard_rules.specs.Front.{front_asked}
use Rattle.lard_rules.specs.FrontPlace.{front_env, front_part}
use Rattle.lard_front.proofs.Steps.{out_is}
use Rattle.lard_front.specs.Place.{front_setting_seen}
use Rattle.lard_front.proofs.told.answer.Goals as goal

pub returns-clause-out : goal.returns-clause-out
returns-clause-out c =
    let s = c.args.state.now in
    let n = c.args.ask.c in
    out_is s c.asked.new.state n (front_asked (front_env (front_setting_seen c.args.setting.now) s n 0) (front_part s n) c.args.ask.home c.args.epoch.0 c.args.ask) c.in_ok-turn.turn c.armed_at-was.result
    c.in_ok-turn.ensures.turn c.armed_at-was.ensures c.out_by.result c.out_by.ensures.out
