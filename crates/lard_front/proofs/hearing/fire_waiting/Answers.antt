-- It waits on, or ends.
use Rattle.std.proofs.Common.{true, ◌∙◌}
use Rattle.lard_front.specs.Hand.{front_env_of}
use Rattle.lard_front.proofs.Heard.{fired_turn, fires_waiting_is}
use Rattle.lard_front.proofs.Lent.{waited_on}
use Rattle.lard_front.proofs.Seated.{given_is}
use Rattle.lard_rules.specs.declared.places.Ending.{Ending}
use Rattle.lard_rules.specs.declared.places.Turn.{Turn}
use Rattle.lard_serving.specs.Serving.{env_seen}
use Rattle.lard_front.proofs.hearing.fire_waiting.Goals as goal

pub returns-clause-turn : goal.returns-clause-turn
returns-clause-turn c =
    let h = c.requires.holds in
    let out = c.take_out-endpoint.ensures in
    let x : Ending × Turn = (c.fired-ending.result.0, c.in_ok-turn.field-0) in
    let env = env_seen c.args.around.now.serve in
    let told = given_is x.0 (fired_turn env c.take_out-endpoint.result c.count_of-count.result) c.in_ok-turn.was c.fired-ending.ensures.turn in
    waited_on (front_env_of c.args.around.now c.args.state.now) h out.after x c.put_back.ensures c.leave_by.ensures c.turn_here.ensures.turn
    ∙ fires_waiting_is c.args.around.now c.args.state.now true h out.endpoint c.count_of-count.ensures told
