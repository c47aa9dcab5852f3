-- An endpoint that may not end is put back as it was.
use Rattle.std.proofs.Common.{◌≡◌, ℕ, IsSome, sym, ap, subst, ◌∙◌}
use Rattle.std.specs.FinMap.{get}
use Rattle.lard_handoff_back.specs.declared.row.BackConn.TheVariants as stage
use Rattle.lard_handoff_back.specs.Back.{Backs, back_endpoint, back_ends, given, back_with_stage}
use Rattle.lard_handoff_back.specs.Table.{Table}
use Rattle.lard_handoff_back.proofs.Stages.{still_there, put_back, not_ended}
use Rattle.lard_handoff_back.proofs.table.BackTable.give.Goals as goal

pub set_stage-requires-in-Err : goal.set_stage-requires-in-Err
set_stage-requires-in-Err c = subst (λ m. IsSome (get m c.number-number.result)) (sym c.set_stage.ensures.after) (still_there c.self.inside.conns c.number-number.result stage.Ended c.set_stage.result c.set_stage.ensures.before)

pub returns-in-Err-clause-after : goal.returns-in-Err-clause-after
returns-in-Err-clause-after c = (λ i. record { rows = rows i; refused = c.self.inside.refused; returned = c.self.inside.returned; leaving = c.self.inside.leaving })
    ∙ ap (λ (t : Table). record t { rows = given t.rows c.number-number.result (get t.rows c.number-number.result) (back_ends (back_endpoint (get t.rows c.number-number.result))) }) c.self.view_is
    ∙ ap (λ (n : ℕ). record c.args.self.now { rows = given c.args.self.now.rows n (get c.args.self.now.rows n) (back_ends (back_endpoint (get c.args.self.now.rows n))) }) c.number-number.ensures.value where
      m : Backs
      m = c.self.inside.conns

      rows : c.set_stage-in-Err.new.conns ≡ given m c.number-number.result (get m c.number-number.result) (back_ends (back_endpoint (get m c.number-number.result)))
      rows = c.set_stage-in-Err.ensures.after
          ∙ ap (λ b. back_with_stage c.set_stage.new.conns c.number-number.result (stage.Here b) (get c.set_stage.new.conns c.number-number.result)) c.in-Err.ensures.same.1
          ∙ put_back m c.set_stage.new.conns c.number-number.result c.set_stage.result c.in-Some.endpoint c.set_stage.ensures.after c.set_stage.ensures.before (sym c.in-Some.ensures)
          ∙ not_ended m c.number-number.result (get m c.number-number.result) c.set_stage.result c.in-Some.endpoint c.set_stage.ensures.before (sym c.in-Some.ensures) c.in-Err.ensures.same.0
