-- The endpoint leaves with the Offer, or is put back as it was.
use Rattle.std.proofs.Common.{ℕ, IsSome, sym, ap, subst, ◌∙◌}
use Rattle.std.specs.FinMap.{get}
use Rattle.lard_handoff_front.specs.declared.row.FrontConn.TheVariants as stage
use Rattle.lard_handoff_front.specs.Front.{AreRows, Fronts, IsSmall, in_stage, offered, with_stage}
use Rattle.lard_handoff_front.proofs.Offers.{still_there, small_of, offered_put, offered_is, put_back}
use Rattle.lard_handoff_front.proofs.table.FrontTable.offer.Goals as goal

pub replace-requires : goal.replace-requires
replace-requires c = subst (λ m. IsSome (get m c.number-number.result)) (sym c.set_stage.ensures.after) (still_there c.self.inside.conns c.number-number.result stage.Lent c.set_stage.result c.set_stage.ensures.before)

pub set_stage-requires-in-Err : goal.set_stage-requires-in-Err
set_stage-requires-in-Err c = subst (λ m. IsSome (get m c.number-number.result)) (sym c.set_stage.ensures.after) (still_there c.self.inside.conns c.number-number.result stage.Lent c.set_stage.result c.set_stage.ensures.before)

pub returns-in-Ok-clause-ok : goal.returns-in-Ok-clause-ok
returns-in-Ok-clause-ok c = c.replace.ensures.after
    ∙ offered_is c.self.inside.conns c.set_stage.new.conns c.number-number.result c.args.node c.leaving-waiting.result.0 c.leaving-waiting.result.1 c.set_stage.ensures.after c.leaving-waiting.ensures
    ∙ ap (λ (m : Fronts). offered m c.number-number.result c.args.node (get m c.number-number.result)) c.self.view_is
    ∙ ap (λ (n : ℕ). offered c.args.self.now n c.args.node (get c.args.self.now n)) c.number-number.ensures.value

pub invariant_of-self : goal.invariant_of-self
invariant_of-self c = subst AreRows (sym (c.replace.ensures.after
    ∙ offered_is c.self.inside.conns c.set_stage.new.conns c.number-number.result c.args.node c.leaving-waiting.result.0 c.leaving-waiting.result.1 c.set_stage.ensures.after c.leaving-waiting.ensures))
    (offered_put c.self.inside.conns c.number-number.result c.args.node c.self.invariant (subst (λ (m : Fronts). IsSmall (get m c.number-number.result)) (sym c.self.view_is)
    (subst (λ (n : ℕ). IsSmall (get c.args.self.now n)) (sym c.number-number.ensures.value) (small_of (get c.args.self.now c.args.c) c.args.served c.requires))))

pub returns-in-Err-clause-err : goal.returns-in-Err-clause-err
returns-in-Err-clause-err c = c.set_stage-in-Err.ensures.after
    ∙ ap (λ s. with_stage c.set_stage.new.conns c.number-number.result s (get c.set_stage.new.conns c.number-number.result)) (c.here.ensures ∙ ap (in_stage c.leaving-waiting.result.0) (c.thaw-endpoint.ensures.value ∙ c.freeze-frozen.ensures))
    ∙ put_back c.self.inside.conns c.set_stage.new.conns c.number-number.result c.leaving-waiting.result.0 c.leaving-waiting.result.1 c.set_stage.result c.in-Some.endpoint
    c.set_stage.ensures.after c.leaving-waiting.ensures c.set_stage.ensures.before (sym c.in-Some.ensures)
    ∙ c.self.view_is

pub invariant_of-self-in-Err : goal.invariant_of-self-in-Err
invariant_of-self-in-Err c = subst AreRows (sym (c.set_stage-in-Err.ensures.after
    ∙ ap (λ s. with_stage c.set_stage.new.conns c.number-number.result s (get c.set_stage.new.conns c.number-number.result)) (c.here.ensures ∙ ap (in_stage c.leaving-waiting.result.0) (c.thaw-endpoint.ensures.value ∙ c.freeze-frozen.ensures))
    ∙ put_back c.self.inside.conns c.set_stage.new.conns c.number-number.result c.leaving-waiting.result.0 c.leaving-waiting.result.1 c.set_stage.result c.in-Some.endpoint
    c.set_stage.ensures.after c.leaving-waiting.ensures c.set_stage.ensures.before (sym c.in-Some.ensures))) c.self.invariant
