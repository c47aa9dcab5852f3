-- One more was done, or was not; after the last all were.
use Rattle.std.proofs.Common.{◌∙◌, rules, Result, Err, sym, ap, subst}
use Rattle.std.proofs.lemmas.Result.{err_from_is_err_and}
use Rattle.std.specs.Vec.Iter.{into_iter_items}
use Rattle.lard_rules.specs.declared.machine.Machine.{Machine}
use Rattle.lard_settling.specs.Settling.{DoesSettle, Stop, all_inner}
use Rattle.lard_settling.specs.Steps.{inner_step}
use Rattle.lard_settle.proofs.Going.{inner-config, inner-front, inner-none, inner-on, inner-stops, undone-front}
use Rattle.lard_settle.proofs.Growth.{front-over}
use Rattle.lard_settle.proofs.Ruled.{AreRuled}
use Rattle.lard_settle.proofs.steps.do_all.Goals as goal

pub loop-event-preserved : goal.loop-event-preserved
loop-event-preserved c =
    let now = c.loop-event.world.machine in
    let new = c.inner.new.self.machine in
    let event = c.in-Some.event in
    let later = c.next.new.self.rest.items in
    let left = c.in-Some.ensures.steps.0 in
    let step = c.in_ok-inner.ensures.step in
    let old = c.loop-event.invariant in record {
      does = old.does ∙ ap (all_inner now) left ∙ inner-on now event later new step;
      ruled = (subst AreRuled left old.ruled).1;
      usable = c.in_ok-inner.ensures.spoiled;
      grows = front-over c.args.world.now.machine.journal now.journal new.journal old.grows (inner-front now new event step);
      config = inner-config now new event step ∙ old.config;
    }

pub returns-in_err-inner-clause-does : goal.returns-in_err-inner-clause-does
returns-in_err-inner-clause-does c =
    let now = c.loop-event.world.machine in
    let new = c.inner.new.self.machine in
    let later = c.next.new.self.rest.items in
    let fault = c.in_err-inner.field-0.0 in
    let left = c.in-Some.ensures.steps.0 in
    let p = err_from_is_err_and c.from_residual.result c.from_residual.ensures.1 in
    rw (p.1, p.2) (subst (λ (x : Result Machine Stop). DoesSettle x new (Err fault)) (sym (c.loop-event.invariant.does ∙ ap (all_inner now) left))
    (inner-stops now c.in-Some.event later new fault c.in_err-inner.ensures.step))

pub returns-in_err-inner-clause-grows : goal.returns-in_err-inner-clause-grows
returns-in_err-inner-clause-grows c =
    let now = c.loop-event.world.machine in
    let new = c.inner.new.self.machine in
    front-over c.args.world.now.machine.journal now.journal new.journal c.loop-event.invariant.grows
    (undone-front (inner_step now c.in-Some.event) now new c.in_err-inner.field-0.0 c.in_err-inner.ensures.step)

pub returns-clause-does : goal.returns-clause-does
returns-clause-does c = c.loop-event.invariant.does ∙ inner-none c.loop-event.world.machine (into_iter_items c.loop-event.event-iterator) (search rules)
