-- It moves in the epoch of its row.
use Rattle.std.proofs.Common.{sym, subst}
use Rattle.lard_handoff_front.specs.Front.{AreRows}
use Rattle.lard_handoff_front.proofs.Rows.{moved_put}
use Rattle.lard_handoff_front.proofs.table.FrontTable.on_taken.Goals as goal

pub invariant_of-self : goal.invariant_of-self
invariant_of-self c = subst AreRows (sym c.set_stage.ensures.after) (moved_put c.self.inside.conns c.number-number.result c.args.epoch c.in-Some.node c.self.invariant (sym c.in-Some.ensures))
