-- The endpoint said what it may.
use Rattle.std.proofs.Common.{◌≡◌, ap, ◌∙◌}
use Rattle.lard_back.specs.Hand.{work_rest}
use Rattle.lard_back.proofs.Fired.{spoken-is}
use Rattle.lard_back.proofs.Turning.{of_ok}
use Rattle.lard_rules.specs.Stay.{Work}
use Rattle.lard_rules.specs.declared.places.Turn.{Turn}
use Rattle.lard_rules.specs.Serving.{spoken}
use Rattle.lard_serving.specs.declared.answering.Service.{Service as Served}
use Rattle.lard_serving.specs.Bounds.{IsTurn}
use Rattle.lard_serving.specs.Serving.{env_seen, service_of}
use Rattle.lard_back.proofs.firing.speak.Goals as goal

pub returns-in-Ok : goal.returns-in-Ok
returns-in-Ok c =
    let env = env_seen c.args.env.now in
    let b = c.args.endpoint in
    let before = c.args.segments in
    record {
      done = spoken-is env b c.args.stay before c.spoken-ending.result.0 c.in-Ok.turn c.apart-service.result.1 c.requires.sound
          (c.apart-service.ensures.rest b ∙ ap work_rest (c.new.ensures.seen b))
          (of_ok (λ (turn : Turn). (c.spoken-ending.result.0, turn) ≡ spoken env (service_of b c.apart-service.result.0) before) _ c.in-Ok.turn c.in-Ok.is c.spoken-ending.ensures.turn
          ∙ ap (λ (v : Served). spoken env (service_of b v) before) c.apart-service.ensures.service
          ∙ ap (λ (w : Work). spoken env w.service before) (c.new.ensures.seen b))
          (of_ok IsTurn _ c.in-Ok.turn c.in-Ok.is c.spoken-ending.ensures.fits);
    }
