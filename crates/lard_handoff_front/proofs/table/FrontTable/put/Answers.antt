-- An endpoint that is here fits every row.
use Rattle.std.proofs.Common.{sym, subst}
use Rattle.lard_handoff_front.specs.Front.{AreRows}
use Rattle.lard_handoff_front.specs.Row.{IsStage}
use Rattle.lard_handoff_front.proofs.Rows.{stage_put, here_fits}
use Rattle.lard_handoff_front.proofs.table.FrontTable.put.Goals as goal

pub invariant_of-self : goal.invariant_of-self
invariant_of-self c = subst AreRows (sym c.set_stage.ensures.after) (stage_put c.self.inside.conns c.number.result c.here.result c.self.invariant
    (λ e. subst (IsStage e) (sym c.here.ensures) (here_fits c.args.waiting c.args.endpoint e)))
