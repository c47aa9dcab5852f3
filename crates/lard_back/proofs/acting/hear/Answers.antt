-- The endpoint takes the segment, and its stay goes on.
use Rattle.std.proofs.Common.{ap, sym, ◌∙◌}
use Rattle.lard_back.proofs.Acted.{acted-by, heard-sound, stay-sound}
use Rattle.lard_back.specs.Place.{node_env_of, node_setting_seen}
use Rattle.lard_endpoint.specs.Control.{ControlBlock}
use Rattle.lard_rules.specs.Node.{work_of}
use Rattle.lard_rules.specs.Stay.{goes_on}
use Rattle.lard_stay.specs.Work.{work_seen}
use Rattle.lard_endpoint.specs.Arriving.{on_segment}
use Rattle.lard_segment.specs.Segment.{said}
use Rattle.lard_endpoint.specs.declared.control.arriving.Arrival.{Arrival}
use Rattle.lard_back.proofs.acting.hear.Goals as goal

pub go-requires-clause-sound : goal.go-requires-clause-sound
go-requires-clause-sound c =
    heard-sound c.in-Some.endpoint c.arrive-arrival.new.self (said c.args.segment.now) c.new-work.result (ap (λ (x : Arrival × ControlBlock). x.1) c.arrive-arrival.ensures)
    (c.new-work.ensures.sound c.in-Some.endpoint (stay-sound c.args.state.now c.args.at.now c.in-Some.endpoint c.in-Some.stay (sym c.in-Some.ensures.found) c.requires.sound))

pub returns-clause-acted : goal.returns-clause-acted
returns-clause-acted c =
    let k = node_setting_seen c.args.setting.now in
    let t = c.take_out.new.state in
    acted-by k c.args.state.now t c.args.at.now c.args.was (λ env x. goes_on env (work_of (on_segment x.0 (said c.args.segment.now)).1 x.1)) (c.in-Some.endpoint, c.in-Some.stay)
    (goes_on (node_env_of k t c.args.at.now) (work_seen c.arrive-arrival.new.self c.new-work.result)) c.go.new.state c.go.result c.in-Some.ensures.found c.in-Some.ensures.after
    (ap (goes_on (node_env_of k t c.args.at.now)) (c.new-work.ensures.seen c.arrive-arrival.new.self ∙ ap (λ (x : Arrival × ControlBlock). work_of x.1 c.in-Some.stay) c.arrive-arrival.ensures))
    c.requires.sound c.go.ensures.turned
