-- It is held on, or ends.
use Rattle.std.proofs.Common.{false, ◌∙◌}
use Rattle.lard_front.proofs.Heard.{fired_turn, fires_held_is}
use Rattle.lard_front.proofs.Lent.{held_on}
use Rattle.lard_front.proofs.Seated.{given_is}
use Rattle.lard_rules.specs.declared.places.Ending.{Ending}
use Rattle.lard_rules.specs.declared.places.Turn.{Turn}
use Rattle.lard_serving.specs.Serving.{env_seen}
use Rattle.lard_front.proofs.hearing.fire_held.Goals as goal

pub returns-clause-turn : goal.returns-clause-turn
returns-clause-turn c =
    let h = c.requires.holds in
    let out = c.take_out-endpoint.ensures in
    let x : Ending × Turn = (c.fired-ending.result.0, c.in_ok-turn.field-0) in
    let env = env_seen c.args.around.now.serve in
    let told = given_is x.0 (fired_turn env c.take_out-endpoint.result c.count_of-count.result) c.in_ok-turn.was c.fired-ending.ensures.turn in
    held_on h out.after x c.put_back.ensures c.turn_here.ensures.turn
    ∙ fires_held_is c.args.around.now c.args.state.now false h out.endpoint c.count_of-count.ensures told
