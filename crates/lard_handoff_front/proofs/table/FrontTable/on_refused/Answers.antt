-- It is held in the epoch after that of the Offer.
use Rattle.std.proofs.Common.{is_some, not, sym, ap, ◌∙◌}
use Rattle.lard_handoff_front.specs.Returns.{returned_row}
use Rattle.lard_handoff_front.proofs.Returns.{offered_away, returned_fits}
use Rattle.lard_handoff_front.proofs.Rows.{kept_or_same}
use Rattle.lard_handoff_front.proofs.table.FrontTable.on_refused.Goals as goal

pub invariant_of-self-2 : goal.invariant_of-self-2
invariant_of-self-2 c =
    let row = c.in-Some.row.now in
    let number = c.number-number.result in
    kept_or_same c.self.inside.conns c.hold_again.new.conns number (returned_row c.args.parts.now row) c.hold_again.result c.hold_again.ensures.ok c.hold_again.ensures.err c.self.invariant
    (returned_fits c.self.inside.conns number c.args.epoch.0 c.args.parts.now row c.self.invariant (sym c.in-Some.ensures) (offered_away c.args.epoch.0 row.stage
    (ap is_some (sym c.offered_to.ensures) ∙ c.is_none.ensures ∙ ap not c.if-is_none.false)))
