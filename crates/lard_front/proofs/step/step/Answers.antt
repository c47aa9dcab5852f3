-- What the rules give is sound.
use Rattle.lard_front.proofs.Joined.{step_before, step_sound}
use Rattle.lard_front.specs.Place.{front_setting_seen}
use Rattle.lard_front.proofs.step.step.Goals as goal

pub returns-clause-sound : goal.returns-clause-sound
returns-clause-sound c =
    step_sound (front_setting_seen c.args.setting.now) c.args.state.now c.act.new.state c.args.input
    c.act.result c.requires.closes c.requires.sound c.act.ensures.out

pub returns-clause-clock : goal.returns-clause-clock
returns-clause-clock c =
    step_before (front_setting_seen c.args.setting.now) c.args.state.now c.act.new.state c.args.input
    c.act.result c.requires.closes c.requires.sound c.requires.clock c.act.ensures.out
