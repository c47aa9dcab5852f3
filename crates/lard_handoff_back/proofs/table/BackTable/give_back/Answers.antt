-- Without memory the endpoint is put back as it was.
use Rattle.std.proofs.Common.{◌≡◌, sym, ap, ◌∙◌}
use Rattle.std.specs.FinMap.{get}
use Rattle.lard_handoff_back.specs.declared.row.BackConn.TheVariants as stage
use Rattle.lard_handoff_back.specs.Back.{back_with_stage}
use Rattle.lard_handoff_back.proofs.Stages.{put_back}
use Rattle.lard_handoff_back.proofs.table.BackTable.give_back.Goals as goal

pub returns-in-Err-clause-err : goal.returns-in-Err-clause-err
returns-in-Err-clause-err c = (λ i. record { rows = rows i; refused = c.self.inside.refused; returned = c.in-Err.ensures.err i; leaving = c.self.inside.leaving }) ∙ c.self.view_is where
  rows : c.set_stage-in-Err.new.conns ≡ c.self.inside.conns
  rows = c.set_stage-in-Err.ensures.after
      ∙ ap (λ b. back_with_stage c.set_stage.new.conns c.number-number.result (stage.Here b) (get c.set_stage.new.conns c.number-number.result)) (c.thaw-endpoint.ensures.value ∙ c.freeze-frozen.ensures)
      ∙ put_back c.self.inside.conns c.set_stage.new.conns c.number-number.result c.set_stage.result c.in-Some-into_endpoint.endpoint c.set_stage.ensures.after c.set_stage.ensures.before
      (sym c.in-Some-into_endpoint.ensures)
