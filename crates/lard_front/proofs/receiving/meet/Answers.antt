-- The front end is the first owner, and says what it may.
use Rattle.std.proofs.Common.{◌≡◌, [], ◌∷◌, ◌++◌, None, ap, ◌∙◌}
use Rattle.std.specs.FinMap as table
use Rattle.lard_base.specs.declared.place.Place.TheVariants as place
use Rattle.lard_endpoint.specs.Control.{listening}
use Rattle.lard_rules.specs.declared.front.FrontState.{FrontState}
use Rattle.lard_rules.specs.Front.{holds, front_rest}
use Rattle.lard_rules.specs.FrontPlace.{front_part}
use Rattle.lard_front.specs.Hand.{deed_turn}
use Rattle.lard_front.proofs.Lent.{held_on, same_endpoint, some_endpoint}
use Rattle.lard_front.proofs.Beginning.{first_row, met_holds, met_is}
use Rattle.lard_front.proofs.Seated.{given_is, is_there}
use Rattle.lard_journal.specs.declared.rec.Rec.TheVariants as rec
use Rattle.lard_rules.specs.declared.places.Ending.{Ending}
use Rattle.lard_rules.specs.declared.places.Turn.{Turn}
use Rattle.lard_rules.specs.Serving.{serving, spoken}
use Rattle.lard_segment.specs.Segment.{said}
use Rattle.lard_serving.specs.Serving.{env_seen, service_of}
use Rattle.lard_front.proofs.receiving.meet.Goals as goal

pub take_out-endpoint-requires : goal.take_out-endpoint-requires
take_out-endpoint-requires c =
    some_endpoint _ _ _ (met_holds c.args.state.now c.args.around.now.serve.c (said c.args.segment.now) c.args.around.now.iss.0 c.in_ok-listen.ensures.ok
    c.in_ok-insert.ensures.ok c.no_rest.ensures c.number.ensures.value c.requires.none c.requires.some)

pub put_back-requires-clause-rest : goal.put_back-requires-clause-rest
put_back-requires-clause-rest c =
    let n = c.args.around.now.serve.c in
    let h = met_holds c.args.state.now n (said c.args.segment.now) c.args.around.now.iss.0 c.in_ok-listen.ensures.ok
    c.in_ok-insert.ensures.ok c.no_rest.ensures c.number.ensures.value c.requires.none c.requires.some in
    is_there c.take_out-endpoint.new.state.rests n h.rest (ap (λ (t : FrontState). table.get t.rests n) c.take_out-endpoint.ensures.after ∙ h.found_rest)

pub returns-clause-turn : goal.returns-clause-turn
returns-clause-turn c =
    let s : FrontState = c.args.state.now in
    let n = c.args.around.now.serve.c in
    let syn = said c.args.segment.now in
    let iss = c.args.around.now.iss.0 in
    let env = env_seen c.args.around.now.serve in
    let h = met_holds s n syn iss c.in_ok-listen.ensures.ok c.in_ok-insert.ensures.ok c.no_rest.ensures c.number.ensures.value c.requires.none c.requires.some in
    let out = c.take_out-endpoint in
    let here = same_endpoint _ _ _ h out.result out.ensures.endpoint in
    let x : Ending × Turn = (c.spoken-ending.result.0, c.in_ok-turn.field-0) in
    let first = rec.Took place.Front n (record { 0 = 1 }) in
    let w = record c.new-service.result { notes = c.push.new.self } in
    let begun : service_of out.result w ≡ serving (listening syn iss) 0 (first ∷ []) = λ i. record {
      block = here i;
      count = c.new-service.ensures.0 i;
      notes = (c.in_ok-push.ensures.ok ∙ ap (λ ns. ns ++ first ∷ []) c.new-service.ensures.1) i;
      answered = c.new-service.ensures.2 i;
      over = c.new-service.ensures.3 i;
    } in
    let told = given_is x.0 (spoken env (service_of out.result w) c.new.result) c.in_ok-turn.was c.spoken-ending.ensures.turn in
    held_on h out.ensures.after x c.put_back.ensures c.turn_here.ensures.turn
    ∙ met_is s n syn iss c.in_ok-listen.ensures.ok c.in_ok-insert.ensures.ok c.no_rest.ensures c.number.ensures.value x
    ∙ ap (λ (x : Ending × Turn). deed_turn s n (holds (front_part s n) first_row (front_rest None) x)) (told ∙ (λ i. spoken env (begun i) (c.new.ensures i)))
