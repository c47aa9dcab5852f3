-- A stage that is not away fits every row.
use Rattle.std.proofs.Common.{sym, subst}
use Rattle.lard_handoff_front.specs.declared.row.FrontConn.TheVariants as stage
use Rattle.lard_handoff_front.specs.Front.{AreRows}
use Rattle.lard_handoff_front.proofs.Rows.{stage_put}
use Rattle.lard_handoff_front.proofs.table.FrontTable.close.Goals as goal

pub invariant_of-self : goal.invariant_of-self
invariant_of-self c = subst AreRows (sym c.set_stage.ensures.after) (stage_put c.self.inside.conns c.number.result (stage.Closed c.args.last) c.self.invariant (λ e. tt))
