-- Where there is no such job, nothing is done.
use Rattle.std.proofs.Common.{sym, ap, ◌∙◌}
use Rattle.lard_back.specs.Place.{node_setting_seen}
use Rattle.lard_back.proofs.Queued.{without-none}
use Rattle.lard_rules.specs.NodePlace.{disk_step}
use Rattle.lard_back.proofs.reads.complete.Goals as goal

pub returns-in_default-clause-ok : goal.returns-in_default-clause-ok
returns-in_default-clause-ok c =
    let s = c.args.state.now in
    let none = sym c.complete.ensures.job ∙ c.in_default.is in
    (λ i. (record s { disk = (c.complete.ensures.after ∙ without-none s.disk c.args.j none) i }, c.nothing.ensures.out i)) ∙ ap (disk_step (node_setting_seen c.args.setting.now) s c.args.j) (sym none)
