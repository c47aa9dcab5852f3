-- It is held in the epoch after that in which it was away.
use Rattle.std.proofs.Common.{sym, ◌∙◌}
use Rattle.lard_handoff_front.specs.Returns.{returned_row}
use Rattle.lard_handoff_front.proofs.Returns.{returned_fits}
use Rattle.lard_handoff_front.proofs.Rows.{kept_or_same}
use Rattle.lard_handoff_front.proofs.table.FrontTable.on_give.Goals as goal

pub invariant_of-self-then-is_away : goal.invariant_of-self-then-is_away
invariant_of-self-then-is_away c =
    let row = c.in-Some.row.now in
    let number = c.number-number.result in
    kept_or_same c.self.inside.conns c.hold_again.new.conns number (returned_row c.args.parts.now row) c.hold_again.result c.hold_again.ensures.ok c.hold_again.ensures.err c.self.invariant
    (returned_fits c.self.inside.conns number c.args.epoch.0 c.args.parts.now row c.self.invariant (sym c.in-Some.ensures) (sym c.is_away.ensures ∙ c.if-is_away.true))
