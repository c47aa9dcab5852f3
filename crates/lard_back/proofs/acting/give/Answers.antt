-- What was in hand beside the endpoint is told, and the connection is given up.
use Rattle.std.proofs.Common.{◌≤◌, length, sym, ap, subst, ◌∙◌, arith}
use Rattle.lard_back.specs.declared.hand.Rest.{Rest}
use Rattle.lard_back.specs.Place.{give_bytes, given_up, silent_turn}
use Rattle.lard_back.proofs.Turning.{back-by, rest-asks, rest-wants}
use Rattle.lard_serving.specs.declared.answering.Service.{Service as Served}
use Rattle.lard_serving.specs.Serving.{service_of}
use Rattle.lard_stay.specs.Work.{work_seen}
use Rattle.lard_back.proofs.acting.give.Goals as goal

pub close-requires-clause-asked : goal.close-requires-clause-asked
close-requires-clause-asked c = rest-asks c.args.endpoint c.args.work c.apart-service.result.1 c.requires.sound (c.apart-service.ensures.rest c.args.endpoint)

pub close-requires-clause-wants : goal.close-requires-clause-wants
close-requires-clause-wants c = rest-wants c.args.endpoint c.args.work c.apart-service.result.1 c.requires.sound (c.apart-service.ensures.rest c.args.endpoint)

pub close-requires-clause-few : goal.close-requires-clause-few
close-requires-clause-few c =
    let few : length c.apart-service.result.1.jobs ≤ 8 = subst (λ (r : Rest). length r.jobs ≤ 8) (sym (c.apart-service.ensures.rest c.args.endpoint)) c.requires.jobs in
    omega (arith, few, c.requires.few)

pub returns-clause-back : goal.returns-clause-back
returns-clause-back c =
    let s = c.args.state.now in
    let at = c.args.at.now in
    let b = c.args.endpoint in
    let service = c.apart-service.ensures.service in
    back-by s (record s { conns = c.hand_back.new.conns }) at c.args.was (work_seen b c.args.work) c.new.result c.apart-service.result.1 c.in_ok-given.given c.silent.result c.close.new.state c.close.result
    ((λ i. record s { conns = c.in_ok-given.ensures.after i }) ∙ (λ i. given_up s at.c (service i).count)) c.new.ensures (c.apart-service.ensures.rest b)
    (c.in_ok-given.ensures.bytes ∙ ap (λ (v : Served). give_bytes s at.c (service_of b v)) service)
    (c.silent.ensures.turn b ∙ ap (λ (v : Served). silent_turn (service_of b v)) service) c.close.ensures.ok
