-- A connection whose end is new is released.
use Rattle.std.proofs.Common.{sym, ◌∙◌}
use Rattle.lard_rules.specs.declared.front.FrontState.{FrontState}
use Rattle.lard_front.specs.Hand.{front_env_of}
use Rattle.lard_front.proofs.Ends.{both_are, new_is}
use Rattle.lard_front.proofs.releasing.end.Goals as goal

pub returns-in-New-clause-turn : goal.returns-in-New-clause-turn
returns-in-New-clause-turn c =
    let s : FrontState = c.args.state.now in
    let around = c.args.around.now in
    both_are c.release.result c.release.new.state _ _ _ c.release.ensures.state c.release.ensures.turn
    (new_is (front_env_of around s) s c.args.from c.args.epoch c.args.last c.on_ended.new.self c.in-New.next
    (sym c.in-New.is ∙ c.on_ended.ensures.answer) c.on_ended.ensures.after (c.requires.sound.some around.serve.c))
