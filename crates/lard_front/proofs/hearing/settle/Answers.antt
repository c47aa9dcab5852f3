-- What was read is said, and it is put back.
use Rattle.std.proofs.Common.{false, None, sym, ap, ◌∙◌}
use Rattle.lard_rules.specs.declared.front.FrontState.{FrontState}
use Rattle.lard_rules.specs.Front.{front_rest, front_rests, turn_here}
use Rattle.lard_rules.specs.FrontPlace.{front_part, front_put}
use Rattle.lard_front.specs.Hand.{deed_turn, front_env_of, read_deed}
use Rattle.lard_front.proofs.Seated.{given_is, rested_is}
use Rattle.lard_handoff_front.specs.declared.row.FrontConn.TheVariants as stage
use Rattle.lard_rules.specs.declared.places.Ending.{Ending}
use Rattle.lard_rules.specs.declared.places.Turn.{Turn}
use Rattle.lard_rules.specs.Serving.{serving_settled}
use Rattle.lard_serving.specs.Serving.{env_seen, service_of}
use Rattle.lard_front.proofs.hearing.settle.Goals as goal

pub returns-clause-turn : goal.returns-clause-turn
returns-clause-turn c =
    let s : FrontState = c.args.state.now in
    let n = c.args.around.now.serve.c in
    let w = service_of c.args.endpoint c.args.service in
    let l = c.requires.lends in
    let e = c.settled-ending.result.0 in
    let x = serving_settled (env_seen c.args.around.now.serve) w in
    let turn = c.in_ok-turn.field-0 in
    (λ i. (c.put_back.ensures i, c.turn_here.ensures.turn i))
    ∙ ap (λ (t : FrontState). (t, turn_here turn)) (rested_is s n l.row l.rest l.found l.found_rest l.some_kept false e)
    ∙ ap (λ (x : Ending × Turn). (front_put s n (front_rests (front_part s n) l.row l.rest stage.Held x.0), turn_here x.1)) (given_is e x c.in_ok-turn.was c.settled-ending.ensures.turn)
    ∙ ap (λ o. (front_put s n (front_rests (front_part s n) l.row (front_rest o) stage.Held x.0), turn_here x.1)) (sym l.found_rest)
    ∙ sym (ap (λ o. deed_turn s n (read_deed (front_env_of c.args.around.now s) (front_part s n) w None o)) l.found)
