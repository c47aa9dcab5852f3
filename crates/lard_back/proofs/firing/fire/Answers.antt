-- What awaits an answer goes out, and the endpoint speaks where it is here.
use Rattle.std.proofs.Common.{refl, sym}
use Rattle.lard_back.specs.declared.hand.At.{At}
use Rattle.lard_back.specs.Place.{node_setting_seen}
use Rattle.lard_back.proofs.Acted.{stay-sound}
use Rattle.lard_back.proofs.Fired.{fired-by, fired-sound}
use Rattle.lard_back.proofs.firing.fire.Goals as goal

pub go-requires-clause-sound : goal.go-requires-clause-sound
go-requires-clause-sound c =
    let at : At = record { n = c.args.setting.now.n; c = c.args.c; epoch = c.epoch_at-epoch.result } in
    stay-sound c.args.state.now at c.in-Some.endpoint c.in-Some.stay (sym c.in-Some.ensures.found) c.requires.sound

pub returns-clause-ok : goal.returns-clause-ok
returns-clause-ok c =
    let at : At = record { n = c.args.setting.now.n; c = c.args.c; epoch = c.epoch_at-epoch.result } in
    fired-by (node_setting_seen c.args.setting.now) c.args.state.now at c.epoch_at-epoch.ensures c.go.new.state c.running-was.result
    c.in-Some.ensures.found c.in-Some.ensures.after c.requires.sound c.go.result c.running-was.ensures refl c.go.ensures.gone

pub returns-clause-sound : goal.returns-clause-sound
returns-clause-sound c =
    let at : At = record { n = c.args.setting.now.n; c = c.args.c; epoch = c.epoch_at-epoch.result } in
    fired-sound (node_setting_seen c.args.setting.now) c.args.state.now at c.epoch_at-epoch.ensures c.go.new.state c.running-was.result
    c.in-Some.ensures.found c.in-Some.ensures.after c.requires.sound c.go.result c.go.ensures.gone
