-- A connection that its node refuses is new where its Offer has no answer yet.
use Rattle.std.proofs.Common.{None, IfSome, sym, ap, ◌∙◌, subst}
use Rattle.lard_base.specs.Parts.{IsValidParts}
use Rattle.lard_front.proofs.Returned.{came_back, comes_as}
use Rattle.lard_front.proofs.Seated.{then_is}
use Rattle.lard_front.specs.Place.{front_setting_seen}
use Rattle.lard_rules.specs.Front.{parts_kept}
use Rattle.lard_front.proofs.returning.refused.Goals as goal

pub returns-requires-clause-back : goal.returns-requires-clause-back
returns-requires-clause-back c =
    came_back c.args.state.now c.requires.sound c.args.c c.args.from c.args.epoch.0 c.requires.other None c.in-Some.parts
    (subst (λ o. IfSome o IsValidParts) c.in-Some.is c.in_ok-parts.ensures.valid)
    c.in_ok-next.ensures.answer c.in-New.is c.in_ok-next.ensures.ok c.armed_at-was.ensures

pub returns-in-New-clause-out : goal.returns-in-New-clause-out
returns-in-New-clause-out c =
    let has = ap parts_kept (sym c.of.ensures.value) ∙ sym c.in_ok-parts.ensures.parts ∙ c.in-Some.is in
    then_is c.returns.new.state _ _
    (comes_as c.args.state.now c.requires.sound c.args.c c.args.from c.args.epoch.0 c.requires.other None c.in-Some.parts
    (subst (λ o. IfSome o IsValidParts) c.in-Some.is c.in_ok-parts.ensures.valid)
    c.in_ok-next.ensures.answer c.in-New.is c.in_ok-next.ensures.ok c.armed_at-was.ensures
    (front_setting_seen c.args.setting.now) c.silent.ensures.turn has)
    c.returns.result c.returns.ensures.out
