-- Each job that is queued has its record.
use Rattle.lard_back.specs.Place.{node_setting_seen}
use Rattle.lard_back.proofs.Queued.{grows-by}
use Rattle.lard_rules.specs.declared.node.BackIn.TheVariants as input
use Rattle.lard_back.proofs.place.step.Goals as goal

pub returns-in-Message-clause-queue : goal.returns-in-Message-clause-queue
returns-in-Message-clause-queue c =
    grows-by (node_setting_seen c.args.setting.now) c.args.state.now c.get.new.state (input.Message c.in-Message.from c.as_slice.result.now) c.get.result c.get.ensures.ok

pub returns-in-Disk-clause-queue : goal.returns-in-Disk-clause-queue
returns-in-Disk-clause-queue c =
    grows-by (node_setting_seen c.args.setting.now) c.args.state.now c.complete.new.state (input.Disk c.in-Disk.j) c.complete.result c.complete.ensures.ok
