-- The turn comes to what is done in the step.
use Rattle.lard_rules.specs.Front.{front_taken}
use Rattle.lard_rules.specs.FrontPlace.{front_part}
use Rattle.lard_front.proofs.Steps.{out_is}
use Rattle.lard_front.proofs.told.take.Goals as goal

pub returns-clause-out : goal.returns-clause-out
returns-clause-out c =
    let s = c.args.state.now in
    let n = c.args.c in
    out_is s c.taken-turn.new.state n (front_taken (front_part s n) c.args.epoch.0) c.taken-turn.result c.armed_at-was.result
    c.taken-turn.ensures.turn c.armed_at-was.ensures c.out_by.result c.out_by.ensures.out
