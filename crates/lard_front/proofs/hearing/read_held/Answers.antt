-- Its endpoint is taken out, and what may be read is read.
use Rattle.std.proofs.Common.{false, sym, ap, ◌∙◌, subst}
use Rattle.std.specs.FinMap as table
use Rattle.lard_rules.specs.declared.front.FrontState.{FrontState}
use Rattle.lard_rules.specs.FrontPlace.{front_part}
use Rattle.lard_front.specs.Hand.{Lends, deed_turn, front_env_of, reads_with}
use Rattle.lard_front.proofs.Heard.{held_serves, reads_on_is}
use Rattle.lard_front.proofs.Lent.{lends}
use Rattle.lard_front.proofs.Seated.{then_is}
use Rattle.lard_front.proofs.hearing.read_held.Goals as goal

pub read_on-requires-clause-lends : goal.read_on-requires-clause-lends
read_on-requires-clause-lends c =
    let n = c.args.around.now.serve.c in
    subst (λ t. Lends t n) (sym c.take_out-endpoint.ensures.after) (lends c.args.state.now n false c.requires.holds)

pub read_on-requires-clause-serves : goal.read_on-requires-clause-serves
read_on-requires-clause-serves c = held_serves c.requires.holds c.take_out-endpoint.ensures.endpoint c.count_of-count.ensures

pub returns-clause-turn : goal.returns-clause-turn
returns-clause-turn c =
    let around = c.args.around.now in
    let n = around.serve.c in
    let out = c.take_out-endpoint.ensures in
    let b = c.take_out-endpoint.result in
    then_is c.read_on.new.state _ _
    (ap (λ (t : FrontState). deed_turn t n (reads_with (front_env_of around t) (front_part t n) b c.count_of-count.result (table.get t.conns n))) out.after
    ∙ reads_on_is around c.args.state.now false c.requires.holds out.endpoint c.count_of-count.ensures)
    c.read_on.result c.read_on.ensures.turn
