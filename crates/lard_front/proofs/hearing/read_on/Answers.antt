-- What is read of an endpoint in hand was asked for.
use Rattle.std.proofs.Common.{arith, ap}
use Rattle.std.specs.FinMap as table
use Rattle.lard_rules.specs.FrontPlace.{front_part}
use Rattle.lard_front.specs.Hand.{deed_turn, front_env_of}
use Rattle.lard_front.proofs.Heard.{reading_asked, reading_counted, reads_are}
use Rattle.lard_front.proofs.Seated.{then_is}
use Rattle.lard_serving.specs.Serving.{env_seen}
use Rattle.lard_front.proofs.hearing.read_on.Goals as goal

pub read-requires-clause-counted : goal.read-requires-clause-counted
read-requires-clause-counted c = reading_counted c.args.endpoint c.args.count c.requires.serves c.new-service.result c.new-service.ensures

pub go_on-requires-clause-asked : goal.go_on-requires-clause-asked
go_on-requires-clause-asked c =
    reading_asked c.args.endpoint c.args.count c.requires.serves c.new-service.result c.new-service.ensures
    (env_seen c.args.around.now.serve) c.read.new.endpoint c.read.new.service c.in-Ok.target c.in-Ok.ensures.read

-- a response was asked for by bytes, of which a connection has at most so many
pub go_on-requires-clause-few : goal.go_on-requires-clause-few
go_on-requires-clause-few c = omega (arith, go_on-requires-clause-asked c, c.law.ensures.received.received)

pub returns-in-Ok-clause-turn : goal.returns-in-Ok-clause-turn
returns-in-Ok-clause-turn c =
    let s = c.args.state.now in
    let around = c.args.around.now in
    let n = around.serve.c in
    then_is c.go_on.new.state _ _
    (ap (deed_turn s n) (reads_are (front_env_of around s) (front_part s n) c.args.endpoint c.args.count c.new-service.result
    c.read.new.endpoint c.read.new.service c.in-Ok.target
    c.new-service.ensures c.in-Ok.ensures.read (table.get s.conns n)))
    c.go_on.result c.go_on.ensures.turn
