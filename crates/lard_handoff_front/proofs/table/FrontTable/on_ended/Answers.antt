-- The epoch after that of an owner elsewhere is small.
use Rattle.std.proofs.Common.{sym, subst, ◌∙◌}
use Rattle.lard_handoff_front.specs.Front.{AreRows, ended_row}
use Rattle.lard_handoff_front.proofs.Rows.{row_put, ended_fits}
use Rattle.lard_handoff_front.proofs.table.FrontTable.on_ended.Goals as goal

pub invariant_of-self : goal.invariant_of-self
invariant_of-self c = subst AreRows (sym c.replace.ensures.after) (row_put c.self.inside.conns c.number-number.result (ended_row c.args.epoch c.args.last c.in-Some.row.now) c.self.invariant
    (ended_fits c.self.inside.conns c.number-number.result c.in-Some.row.now c.args.epoch c.args.last c.self.invariant (sym c.in-Some.ensures) (sym c.is_away.ensures ∙ c.if-is_away.true)))
