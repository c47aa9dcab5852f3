-- The endpoint said what it may.
use Rattle.std.proofs.Common.{◌≡◌}
use Rattle.lard_rules.specs.declared.places.Turn.{Turn}
use Rattle.lard_rules.specs.Serving.{serving_settled}
use Rattle.lard_back.proofs.Turning.{of_ok, settled-by}
use Rattle.lard_serving.specs.Bounds.{IsTurn}
use Rattle.lard_serving.specs.Serving.{env_seen, service_of}
use Rattle.lard_back.proofs.acting.settle.Goals as goal

pub returns-in-Ok : goal.returns-in-Ok
returns-in-Ok c = record {
  done = settled-by (env_seen c.args.env.now) c.args.endpoint c.args.work c.apart-service.result.0 c.apart-service.result.1 c.settled-ending.result.0 c.in-Ok.turn c.requires.sound c.requires.jobs
      c.apart-service.ensures.service (c.apart-service.ensures.rest c.args.endpoint)
      (of_ok (λ (turn : Turn). (c.settled-ending.result.0, turn) ≡ serving_settled (env_seen c.args.env.now) (service_of c.args.endpoint c.apart-service.result.0)) _ c.in-Ok.turn c.in-Ok.is c.settled-ending.ensures.turn)
      (of_ok IsTurn _ c.in-Ok.turn c.in-Ok.is c.settled-ending.ensures.fits);
}
