-- A connection that its node gives back is new where it was with it.
use Rattle.std.proofs.Common.{Some, refl}
use Rattle.lard_front.proofs.Returned.{came_back, comes_as}
use Rattle.lard_front.proofs.Seated.{then_is}
use Rattle.lard_front.specs.Place.{front_setting_seen}
use Rattle.lard_front.proofs.returning.given.Goals as goal

pub returns-requires-clause-back : goal.returns-requires-clause-back
returns-requires-clause-back c =
    came_back c.args.state.now c.requires.sound c.args.c c.args.from c.args.epoch.0 c.requires.other (Some c.args.parts.now) c.args.parts.now c.requires.valid
    c.in_ok-next.ensures.answer c.in-New.is c.in_ok-next.ensures.ok c.armed_at-was.ensures

pub returns-in-New-clause-out : goal.returns-in-New-clause-out
returns-in-New-clause-out c =
    then_is c.returns.new.state _ _
    (comes_as c.args.state.now c.requires.sound c.args.c c.args.from c.args.epoch.0 c.requires.other (Some c.args.parts.now) c.args.parts.now c.requires.valid
    c.in_ok-next.ensures.answer c.in-New.is c.in_ok-next.ensures.ok c.armed_at-was.ensures
    (front_setting_seen c.args.setting.now) c.in_ok-said-in-New.ensures.turn refl)
    c.returns.result c.returns.ensures.out
