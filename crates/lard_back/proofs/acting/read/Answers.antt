-- What came makes the request ready, and the stay goes on.
use Rattle.std.proofs.Common.{ap, sym, ◌∙◌}
use Rattle.lard_back.proofs.Acted.{acted-by, came-few, stay-sound}
use Rattle.lard_back.specs.Place.{node_env_of, node_setting_seen}
use Rattle.lard_rules.specs.Node.{work_of}
use Rattle.lard_rules.specs.Stay.{came_for, goes_on, read_progress}
use Rattle.lard_stay.specs.Work.{work_seen}
use Rattle.lard_back.proofs.acting.read.Goals as goal

pub go-requires-clause-sound : goal.go-requires-clause-sound
go-requires-clause-sound c =
    c.complete.ensures.sound c.in-Some.endpoint (c.new-work.ensures.sound c.in-Some.endpoint (stay-sound c.args.state.now c.args.at.now c.in-Some.endpoint c.in-Some.stay (sym c.in-Some.ensures.found) c.requires.sound))

pub go-requires-clause-jobs : goal.go-requires-clause-jobs
go-requires-clause-jobs c = came-few read_progress c.args.r c.in-Some.endpoint c.new-work.result c.complete.new.work (c.complete.ensures.came c.in-Some.endpoint) c.new-work.ensures.none.0

pub returns-clause-acted : goal.returns-clause-acted
returns-clause-acted c =
    let k = node_setting_seen c.args.setting.now in
    let t = c.take_out.new.state in
    acted-by k c.args.state.now t c.args.at.now c.args.was (λ env x. goes_on env (came_for read_progress c.args.r (work_of x.0 x.1))) (c.in-Some.endpoint, c.in-Some.stay)
    (goes_on (node_env_of k t c.args.at.now) (work_seen c.in-Some.endpoint c.complete.new.work)) c.go.new.state c.go.result c.in-Some.ensures.found c.in-Some.ensures.after
    (ap (goes_on (node_env_of k t c.args.at.now)) (c.complete.ensures.came c.in-Some.endpoint ∙ ap (came_for read_progress c.args.r) (c.new-work.ensures.seen c.in-Some.endpoint)))
    c.requires.sound c.go.ensures.turned
