-- It is put back to wait, where it did not end.
use Rattle.std.proofs.Common.{◌≡◌, [], ◌∷◌, ◌++◌, Some, sym, ap, ◌∙◌}
use Rattle.std.specs.FinMap as table
use Rattle.lard_rules.specs.declared.front.FrontState.{FrontState}
use Rattle.lard_rules.specs.Front.{front_rest, front_rests, turn_here}
use Rattle.lard_rules.specs.FrontPlace.{front_part, front_put}
use Rattle.lard_front.specs.Hand.{front_env_of, waits_at, waits_with}
use Rattle.lard_front.proofs.Seated.{did_it, given_is, there_after, waited_is}
use Rattle.lard_handoff_front.specs.declared.row.FrontConn.TheVariants as stage
use Rattle.lard_journal.specs.declared.rec.Rec.TheVariants as rec
use Rattle.lard_rules.specs.declared.places.Ending.{Ending}
use Rattle.lard_rules.specs.declared.places.Turn.{Turn}
use Rattle.lard_rules.specs.Serving.{spoken}
use Rattle.lard_serving.specs.Serving.{env_seen, service_of}
use Rattle.lard_front.proofs.placing.wait.Goals as goal

pub put_back-requires-clause-rest : goal.put_back-requires-clause-rest
put_back-requires-clause-rest c = there_after _ c.set_target.new.rests c.args.around.now.serve.c _ c.set_target.ensures

pub put_back-requires-2-clause-rest : goal.put_back-requires-2-clause-rest
put_back-requires-2-clause-rest c = there_after _ c.set_target.new.rests c.args.around.now.serve.c _ c.set_target.ensures

pub returns-clause-turn : goal.returns-clause-turn
returns-clause-turn c =
    let s : FrontState = c.args.state.now in
    let serve = c.args.around.now.serve in
    let w = service_of c.args.endpoint c.args.service in
    let l = c.requires.lends in
    let turn = c.in_ok-turn.field-0 in
    let e = c.spoken-ending.result.0 in
    let notes : c.push.new.self ≡ w.notes ++ rec.Waits serve.c ∷ [] = did_it c.push.result c.is_err.result c.is_err.ensures.value c.if-is_err.false c.push.ensures.ok in
    let told = given_is e (spoken (env_seen serve) (record w { notes = c.push.new.self }) c.new.result) c.in_ok-turn.was c.spoken-ending.ensures.turn in
    let ruled = told ∙ (λ i. spoken (env_seen serve) (record w { notes = notes i }) (c.new.ensures i)) in
    let part = front_rests (front_part s serve.c) l.row (record (front_rest (table.get s.rests serve.c)) { target = Some c.args.path }) stage.Waiting e in
    let env = front_env_of c.args.around.now s in
    (λ i. (c.put_back-2.ensures i, c.turn_here.ensures.turn i))
    ∙ ap (λ (t : FrontState). (t, turn_here turn)) (waited_is s serve.c l c.args.path c.leave_by.new.dispatch c.set_target.ensures e)
    ∙ ap (λ d. (record (front_put s serve.c part) { dispatch = d }, turn_here turn)) c.leave_by.ensures
    ∙ ap (λ (x : Ending × Turn). waits_with env s w c.args.path l.row x) ruled
    ∙ sym (ap (waits_at env s w c.args.path) l.found)
