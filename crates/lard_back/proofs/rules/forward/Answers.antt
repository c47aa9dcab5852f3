-- A segment that decodes comes to the endpoint.
use Rattle.lard_back.proofs.Deeds.{forward-by}
use Rattle.lard_back.specs.Place.{node_setting_seen}
use Rattle.lard_segment.specs.Segment.{said}
use Rattle.lard_back.proofs.rules.forward.Goals as goal

pub returns-in-Ok-clause-ok : goal.returns-in-Ok-clause-ok
returns-in-Ok-clause-ok c =
    forward-by (node_setting_seen c.args.setting.now) c.args.state.now c.args.at.now (said c.in-Ok.segment) c.hear.new.state c.hear.result
    c.hear.ensures.acted c.running-was.ensures c.requires.node c.in-Ok.ensures.given
