-- The request that the job was for is ready, and its stay goes on.
use Rattle.lard_back.proofs.Deeds.{read-done}
use Rattle.lard_back.specs.Place.{node_setting_seen}
use Rattle.lard_back.proofs.rules.completed.Goals as goal

pub returns-clause-ok : goal.returns-clause-ok
returns-clause-ok c =
    read-done (node_setting_seen c.args.setting.now) c.args.state.now c.args.at.now c.args.r c.read.new.state c.read.result
    c.read.ensures.acted c.running-was.ensures c.requires.node
