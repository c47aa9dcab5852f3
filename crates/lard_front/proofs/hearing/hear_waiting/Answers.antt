-- The endpoint takes the segment, and says what it may.
use Rattle.std.proofs.Common.{true, ◌∙◌}
use Rattle.lard_front.specs.Hand.{front_env_of}
use Rattle.lard_front.proofs.Heard.{reading_counted, segment_begins, segment_serves, waits_heard_is}
use Rattle.lard_front.proofs.Lent.{waited_on}
use Rattle.lard_front.proofs.Seated.{given_is}
use Rattle.lard_rules.specs.declared.places.Ending.{Ending}
use Rattle.lard_rules.specs.declared.places.Turn.{Turn}
use Rattle.lard_rules.specs.Serving.{spoken}
use Rattle.lard_segment.specs.Segment.{said}
use Rattle.lard_serving.specs.Serving.{env_seen, service_of}
use Rattle.lard_front.proofs.hearing.hear_waiting.Goals as goal

pub spoken-ending-requires-clause-counted : goal.spoken-ending-requires-clause-counted
spoken-ending-requires-clause-counted c =
    reading_counted c.arrive-arrival.new.self c.count_of-count.result
    (segment_serves c.requires.holds (said c.args.segment.now) c.take_out-endpoint.ensures.endpoint c.arrive-arrival.ensures c.count_of-count.ensures)
    c.new-service.result c.new-service.ensures

pub returns-clause-turn : goal.returns-clause-turn
returns-clause-turn c =
    let s = c.args.state.now in
    let env = env_seen c.args.around.now.serve in
    let h = c.requires.holds in
    let new = said c.args.segment.now in
    let out = c.take_out-endpoint.ensures in
    let x : Ending × Turn = (c.spoken-ending.result.0, c.in_ok-turn.field-0) in
    let told = given_is x.0 (spoken env (service_of c.arrive-arrival.new.self c.new-service.result) c.new.result) c.in_ok-turn.was c.spoken-ending.ensures.turn in
    let begun = segment_begins h new out.endpoint c.arrive-arrival.ensures c.count_of-count.ensures c.new-service.result c.new-service.ensures in
    waited_on (front_env_of c.args.around.now s) h out.after x c.put_back.ensures c.leave_by.ensures c.turn_here.ensures.turn
    ∙ waits_heard_is c.args.around.now s true h new (told ∙ (λ i. spoken env (begun i) (c.new.ensures i)))
