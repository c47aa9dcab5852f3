-- A new Ask is assigned as the rules say.
use Rattle.std.proofs.Common.{sym, ap, ◌∙◌}
use Rattle.lard_front.proofs.Assigning.{new-asked}
use Rattle.lard_front.proofs.Seated.{then_is}
use Rattle.lard_front.proofs.asking.asked.Goals as goal
use Rattle.lard_rules.specs.Front.{is_row_at}
use Rattle.std.specs.FinMap as table
use Rattle.lard_front.specs.Hand.{front_env_of}

pub returns-then-follows-clause-turn : goal.returns-then-follows-clause-turn
returns-then-follows-clause-turn c =
    let s = c.args.state.now in
    let at = ap (is_row_at c.args.ask.home c.args.epoch.0) (sym c.row.ensures) ∙ sym c.is_at.ensures ∙ c.if-not-is_at.false in
    let there = sym (c.in-Some.ensures ∙ ap (table.get s.rests) c.number.ensures.value) in
    then_is c.assign.new.state _ _
    (new-asked (front_env_of c.args.around.now s) s c.args.epoch.0 c.args.ask c.requires.kept at there (sym c.follows.ensures ∙ c.if-follows.true))
    c.assign.result c.assign.ensures.turn
