-- The turn comes to what is done in the step.
use Rattle.lard_rules.specs.Front.{front_timer}
use Rattle.lard_rules.specs.FrontPlace.{front_part}
use Rattle.lard_front.specs.Hand.{front_env_of}
use Rattle.lard_front.proofs.Steps.{out_is}
use Rattle.lard_front.proofs.receiving.time_out.Goals as goal

pub returns-clause-out : goal.returns-clause-out
returns-clause-out c =
    let s = c.args.state.now in
    let n = c.args.around.now.serve.c in
    out_is s c.fire.new.state n (front_timer (front_env_of c.args.around.now s) (front_part s n)) c.in_ok-turn.turn c.armed_at-was.result
    c.in_ok-turn.ensures.turn c.armed_at-was.ensures c.out_by.result c.out_by.ensures.out
