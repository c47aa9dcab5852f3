-- The nodes of the Ask start its requests, and the stay goes on.
use Rattle.std.proofs.Common.{◌≡◌, ap, ◌∙◌}
use Rattle.lard_back.proofs.Acted.{acted-by}
use Rattle.lard_back.specs.Place.{node_env_of, node_setting_seen}
use Rattle.lard_rules.specs.Node.{work_of}
use Rattle.lard_rules.specs.Stay.{goes_on, tagged}
use Rattle.lard_stay.specs.Work.{work_seen}
use Rattle.lard_back.proofs.Turning.{of_ok}
use Rattle.lard_stay.specs.declared.work.Work.{Work as InHand}
use Rattle.lard_back.proofs.acting.assign.Goals as goal

pub returns-in-Ok-clause-acted : goal.returns-in-Ok-clause-acted
returns-in-Ok-clause-acted c =
    let k = node_setting_seen c.args.setting.now in
    let t = c.take_out.new.state in
    let env = node_env_of k t c.args.at.now in
    acted-by k c.args.state.now t c.args.at.now c.args.was (λ env x. goes_on env (tagged env c.args.nodes.now (work_of x.0 x.1))) (c.in-Some.endpoint, c.in-Some.stay)
    (goes_on env (work_seen c.in-Some.endpoint c.in-Ok.work)) c.go.new.state c.go.result c.in-Some.ensures.found c.in-Some.ensures.after
    (ap (goes_on env) (of_ok (λ (u : InHand). work_seen c.in-Some.endpoint u ≡ tagged env c.args.nodes.now (work_seen c.in-Some.endpoint c.new-work.result)) _ c.in-Ok.work c.in-Ok.is c.start.ensures.work
    ∙ ap (tagged env c.args.nodes.now) (c.new-work.ensures.seen c.in-Some.endpoint)))
    c.requires.sound c.go.ensures.turned
